-- That the indexes go with the entries through changes, and what is found by them.
use Rattle.std.proofs.Common.{◌≡◌, ◌↔◌, ◌+◌, ◌-◌, ◌<◌, ◌≤◌, ℕ, Bool, true, false, cond, not, ◌&&◌, ◌||◌, List, length, Option, None, Some, refl, sym, ap, ◌∙◌, inl, inr, arith}
use Rattle.std.specs.Prelude.{◌==◌, IfSome, IfNone, option_map, option_and_then}
use Rattle.std.proofs.lemmas.Bool.{cases_lt, cases_order, ne_eqb, eqb-true, eqb-false, false_from_ne_true, true≢false}
use Rattle.xm_num.specs.declared.CallNo.{CallNo}
use Rattle.xm_num.specs.declared.Enclave.{Enclave}
use Rattle.xm_num.specs.RowLaws.{RowLaws}
use Rattle.xm_num.specs.Rows.{at, put, less, next_from, IsAscending, IsLowestFrom}
use Rattle.number_pairs.specs.Pairs.{has_pair, is_after_last}
use Rattle.guest_map.specs.Guests.{Entry, GuestState, has_guest, entry_machine, admitted_machine, without_entry, without_owner, lowest_call_of, call_numbered, is_of, has_found, is_found_of}
use Rattle.guest_map.specs.Index.{IsKept, last_of, with_last, without_last}
use Rattle.guest_map.proofs.FindLemmas.{Search, search_rows, rest_less, rest_all, length_less}
use Rattle.guest_map.proofs.FindLemmas.Search.{First, Missing}
use Rattle.guest_map.proofs.GuestLemmas.{has_parts, has_from, found_drawn, guest_put, drops, having_is, having_none}

last_has : (e : Entry) (last : ℕ) → last_of e ≡ Some last → has_guest e last ≡ true
last_has e last is = by (length e.frames == 0) refl is
  where
    by : (b : Bool) → (length e.frames == 0) ≡ b → cond b None (Some (e.first + length e.frames - 1)) ≡ Some last → has_guest e last ≡ true
    by true none is = cc
    by false some is =
        let same : e.first + length e.frames - 1 ≡ last = cc in
        let more : (length e.frames ≡ 0) → ⊥ = eqb-false (length e.frames) 0 some in
        has_from e last (omega (arith, same, more)) (omega (arith, same, more))

-- an entry with a guest frame has a last one from there on
has_last : (e : Entry) (g : ℕ) → has_guest e g ≡ true → (last : ℕ) × (last_of e ≡ Some last) × (g ≤ last)
has_last e g has =
    let parts = has_parts e g has in
    let some : (length e.frames == 0) ≡ false = ne_eqb (length e.frames) 0 (λ none. omega (arith, none, parts.0, parts.1)) in
    (e.first + length e.frames - 1, rw some refl, omega (arith, parts.1))

found_last_has : (found : Option Entry) (last : ℕ) → option_and_then last_of found ≡ Some last → has_found found last ≡ true
found_last_has None last is = cc
found_last_has (Some e) last is = last_has e last is

found_has_last : (found : Option Entry) (g : ℕ) → has_found found g ≡ true → (last : ℕ) × (option_and_then last_of found ≡ Some last) × (g ≤ last)
found_has_last None g has = cc
found_has_last (Some e) g has = has_last e g has

-- an entry has what is between two guest frames that it has
found_between : (found : Option Entry) (a b g : ℕ) → has_found found a ≡ true → has_found found b ≡ true → a ≤ g → g ≤ b → has_found found g ≡ true
found_between None a b g low high from below = cc
found_between (Some e) a b g low high from below = has_from e g (omega (arith, from, (has_parts e a low).0)) (omega (arith, below, (has_parts e b high).1))

module _ (laws : RowLaws Entry) (s : GuestState) (lasts pairs : List (ℕ × ℕ)) (kept : IsKept s lasts pairs) where
  -- what a call with no entry, or another last one, hasn't
  no_last : (call last : ℕ) → at s.entries call ≡ None → at lasts last ≡ Some call → ⊥
  no_last call last none is = let bad : None ≡ Some last = sym (ap (option_and_then last_of) none) ∙ (kept.listed last call).0 is in cc

  last_below : (call last : ℕ) → option_and_then last_of (at s.entries call) ≡ Some last → last < s.next_fresh
  last_below call last is = (found_drawn s kept.guest call last (found_last_has (at s.entries call) last is)).1

  module _ (numbers : RowLaws ℕ) (call next : ℕ) (e : Entry) (fresh : at s.entries call ≡ None) (first : e.first ≡ s.next_fresh) (end : next ≡ e.first + length e.frames) where
    listed_more : (last k : ℕ) (b : Bool) → (call == k) ≡ b → (at (with_last lasts (last_of e) call) last ≡ Some k) ↔ (option_and_then last_of (cond b (Some e) (at s.entries k)) ≡ Some last)
    listed_more last k b is = by (last_of e) refl b is
      where
        by : (o : Option ℕ) → last_of e ≡ o → (b : Bool) → (call == k) ≡ b → (at (with_last lasts o call) last ≡ Some k) ↔ (option_and_then last_of (cond b (Some e) (at s.entries k)) ≡ Some last)
        by None none true is = (λ there. absurd (no_last call last fresh (there ∙ ap Some (sym (eqb-true call k is)))), λ bad. absurd (let clash : None ≡ Some last = sym none ∙ bad in (cc)))
        by None none false is = kept.listed last k
        by (Some l) its b is = on (l == last) refl b is (numbers.put_at lasts l last call)
          where
            on : (x : Bool) → (l == last) ≡ x → (b : Bool) → (call == k) ≡ b → at (put lasts l call) last ≡ cond x (Some call) (at lasts last)
                → (at (put lasts l call) last ≡ Some k) ↔ (option_and_then last_of (cond b (Some e) (at s.entries k)) ≡ Some last)
            on true same true is now = (λ there. its ∙ ap Some (eqb-true l last same), λ ends. now ∙ ap Some (eqb-true call k is))
            on true same false is now = (
              λ there. absurd (let bad : Some call ≡ Some k = sym now ∙ there in (let also : call ≡ k = cc in eqb-false call k is also)),
              λ ends. absurd (omega (arith, last_below k last ends, eqb-true l last same, (has_parts e l (last_has e l its)).0, first)),
            )
            on false other true is now = (
              λ there. absurd (no_last call last fresh (sym now ∙ there ∙ ap Some (sym (eqb-true call k is)))),
              λ ends. absurd (let both : Some l ≡ Some last = sym its ∙ ends in (let same : l ≡ last = cc in eqb-false l last other same)),
            )
            on false other false is now = (λ there. (kept.listed last k).0 (sym now ∙ there), λ ends. now ∙ (kept.listed last k).1 ends)

    owned_more : (owner : Enclave) (k : ℕ) (b : Bool) → (call == k) ≡ b → ((e.owner.0 == owner.0) && b || has_pair pairs owner.0 k) ≡ is_found_of owner (cond b (Some e) (at s.entries k))
    owned_more owner k true is =
        let none : has_pair pairs owner.0 k ≡ false = kept.owned owner k ∙ ap (λ q. is_found_of owner (at s.entries q)) (sym (eqb-true call k is)) ∙ ap (is_found_of owner) fresh in
        rw none (by (e.owner.0 == owner.0))
      where
        by : (b : Bool) → (b && true || false) ≡ b
        by true = refl
        by false = refl
    owned_more owner k false is = by (e.owner.0 == owner.0) (has_pair pairs owner.0 k) ∙ kept.owned owner k
      where
        by : (b was : Bool) → (b && false || was) ≡ was
        by true was = refl
        by false was = refl

    pub kept_more : (new more : List (ℕ × ℕ)) → new ≡ with_last lasts (last_of e) call → ((a b : ℕ) → has_pair more a b ≡ ((e.owner.0 == a) && (call == b) || has_pair pairs a b))
        → IsKept (record { blocks = s.blocks; next_fresh = next; entries = put s.entries call e }) new more
    kept_more new more is pair = record {
      guest = guest_put laws s kept.guest call next e fresh first end;
      most = kept.most;
      listed = λ last k. rw (laws.put_at s.entries call k e, is) (listed_more last k (call == k) refl);
      owned = λ owner k. rw (laws.put_at s.entries call k e) (pair owner.0 k ∙ owned_more owner k (call == k) refl);
    }

  module _ (numbers : RowLaws ℕ) (call : ℕ) (e : Entry) (there : at s.entries call ≡ Some e) (ascends : IsAscending lasts) where
    its_last : (last : ℕ) → at lasts last ≡ Some call → last_of e ≡ Some last
    its_last last is = sym (ap (option_and_then last_of) there) ∙ (kept.listed last call).0 is

    listed_less : (last k : ℕ) (b : Bool) → (call == k) ≡ b → (at (without_last lasts (last_of e)) last ≡ Some k) ↔ (option_and_then last_of (cond b None (at s.entries k)) ≡ Some last)
    listed_less last k b is = by (last_of e) refl b is
      where
        by : (o : Option ℕ) → last_of e ≡ o → (b : Bool) → (call == k) ≡ b → (at (without_last lasts o) last ≡ Some k) ↔ (option_and_then last_of (cond b None (at s.entries k)) ≡ Some last)
        by None none true is = (λ found. absurd (let bad : None ≡ Some last = sym none ∙ its_last last (found ∙ ap Some (sym (eqb-true call k is))) in (cc)), λ bad. absurd (cc))
        by None none false is = kept.listed last k
        by (Some l) its b is = on (l == last) refl b is (numbers.less_at lasts l last ascends)
          where
            on : (x : Bool) → (l == last) ≡ x → (b : Bool) → (call == k) ≡ b → at (less lasts l) last ≡ cond x None (at lasts last)
                → (at (less lasts l) last ≡ Some k) ↔ (option_and_then last_of (cond b None (at s.entries k)) ≡ Some last)
            on true same true is now = (λ found. absurd (let bad : None ≡ Some k = sym now ∙ found in (cc)), λ bad. absurd (cc))
            on true same false is now = (
              λ found. absurd (let bad : None ≡ Some k = sym now ∙ found in (cc)),
              λ ends. absurd (
                  let one : at lasts last ≡ Some k = (kept.listed last k).1 ends in
                  let two : at lasts last ≡ Some call = (kept.listed last call).1 (ap (option_and_then last_of) there ∙ its ∙ ap Some (eqb-true l last same)) in
                  let both : Some call ≡ Some k = sym two ∙ one in
                  (let also : call ≡ k = cc in eqb-false call k is also)
                  ),
            )
            on false other true is now = (
              λ found. absurd (
                  let both : Some l ≡ Some last = sym its ∙ its_last last (sym now ∙ found ∙ ap Some (sym (eqb-true call k is))) in
                  (let same : l ≡ last = cc in eqb-false l last other same)
                  ),
              λ bad. absurd (cc),
            )
            on false other false is now = (λ found. (kept.listed last k).0 (sym now ∙ found), λ ends. now ∙ (kept.listed last k).1 ends)

    owned_less : (owner : Enclave) (k : ℕ) (b : Bool) → (call == k) ≡ b → (not ((e.owner.0 == owner.0) && b) && has_pair pairs owner.0 k) ≡ is_found_of owner (cond b None (at s.entries k))
    owned_less owner k true is =
        let its : has_pair pairs owner.0 k ≡ is_of owner e = kept.owned owner k ∙ ap (λ q. is_found_of owner (at s.entries q)) (sym (eqb-true call k is)) ∙ ap (is_found_of owner) there in
        rw its (by (e.owner.0 == owner.0))
      where
        by : (b : Bool) → (not (b && true) && b) ≡ false
        by true = refl
        by false = refl
    owned_less owner k false is = by (e.owner.0 == owner.0) (has_pair pairs owner.0 k) ∙ kept.owned owner k
      where
        by : (b was : Bool) → (not (b && false) && was) ≡ was
        by true was = refl
        by false was = refl

    pub kept_less : (new left : List (ℕ × ℕ)) → new ≡ without_last lasts (last_of e) → ((a b : ℕ) → has_pair left a b ≡ (not ((e.owner.0 == a) && (call == b)) && has_pair pairs a b))
        → IsKept (without_entry call s) new left
    kept_less new left is pair = record {
      guest = drops laws s kept.guest call;
      most = kept.most;
      listed = λ last k. rw (laws.less_at s.entries call k kept.guest.ascending, is) (listed_less last k (call == k) refl);
      owned = λ owner k. rw (laws.less_at s.entries call k kept.guest.ascending) (pair owner.0 k ∙ owned_less owner k (call == k) refl);
    }

  -- which entry has a guest frame, by the last ones from there on
  found_last : (k g : ℕ) → has_found (at s.entries k) g ≡ true → (last : ℕ) × (at lasts last ≡ Some k) × (g ≤ last)
  found_last k g has =
      let last = found_has_last (at s.entries k) g has in
      (last.0, (kept.listed last.0 k).1 last.1, last.2)

  pub none_admitted : RowLaws ℕ → (g : ℕ) → next_from lasts g ≡ None → admitted_machine s.entries g ≡ None
  none_admitted numbers g none =
      let nobody : (k : ℕ) → has_found (at s.entries k) g ≡ false = λ k. false_from_ne_true (has_found (at s.entries k) g) (λ has. bad k has) in
      rw (having_none laws s kept.guest g nobody) refl
    where
      bad : (k : ℕ) → has_found (at s.entries k) g ≡ true → ⊥
      bad k has =
          let last = found_last k g has in
          let clash : None ≡ Some k = sym ((numbers.no_next lasts g).0 none last.0 last.2) ∙ last.1 in cc

  -- no last one is without an entry
  pub some_entry : (last call : ℕ) → at lasts last ≡ Some call → at s.entries call ≡ None → ⊥
  some_entry last call is none = no_last call last none is

  pub admitted_by : RowLaws ℕ → (g last call : ℕ) (e : Entry) → IsAscending lasts → next_from lasts g ≡ Some last → at lasts last ≡ Some call → at s.entries call ≡ Some e → entry_machine e g ≡ admitted_machine s.entries g
  admitted_by numbers g last call e ascends next here there = by (has_guest e g) refl
    where
      lowest : IsLowestFrom lasts g last
      lowest = (numbers.next lasts g last ascends).0 next

      ends : has_found (at s.entries call) last ≡ true
      ends = found_last_has (at s.entries call) last ((kept.listed last call).0 here)

      -- who has it ends no sooner, and so has that last one too
      other : has_guest e g ≡ false → (k : ℕ) → has_found (at s.entries k) g ≡ true → ⊥
      other hasnt k has = elim (cases_lt ends_at.0 last) [
        | inl sooner ↦ (let bad : None ≡ Some k = sym (lowest.none ends_at.0 ends_at.2 sooner) ∙ (kept.listed ends_at.0 k).1 ends_at.1 in cc)
        | inr later ↦
            let also : has_found (at s.entries k) last ≡ true = found_between (at s.entries k) g ends_at.0 last has (found_last_has (at s.entries k) ends_at.0 ends_at.1) lowest.from later in
            let same : k ≡ call = kept.guest.apart k call last also ends in
            let its : has_guest e g ≡ true = sym (ap (λ o. has_found o g) there) ∙ ap (λ q. has_found (at s.entries q) g) (sym same) ∙ has in
            true≢false (sym its ∙ hasnt)
      ]
        where
          ends_at : (l : ℕ) × (option_and_then last_of (at s.entries k) ≡ Some l) × (g ≤ l)
          ends_at = found_has_last (at s.entries k) g has

      by : (b : Bool) → has_guest e g ≡ b → entry_machine e g ≡ admitted_machine s.entries g
      by true has = rw (having_is laws s kept.guest call g e there has) refl
      by false hasnt =
          let nobody : (k : ℕ) → has_found (at s.entries k) g ≡ false = λ k. false_from_ne_true (has_found (at s.entries k) g) (other hasnt k) in
          rw (hasnt, having_none laws s kept.guest g nobody) refl

  -- the least call of an owner, by the pairs
  pub lowest_is : (owner : Enclave) (found : Option ℕ) → IfSome found (λ k. has_pair pairs owner.0 k ≡ true)
      → IfSome found (λ k. (b : ℕ) → is_after_last None b ≡ true → b < k → has_pair pairs owner.0 b ≡ false)
      → IfNone found ((b : ℕ) → is_after_last None b ≡ true → has_pair pairs owner.0 b ≡ false)
      → found ≡ lowest_call_of owner s
  lowest_is owner found here least none = by (search_rows laws (is_of owner) s.entries kept.guest.ascending) found here least none
    where
      its : (k : ℕ) (e : Entry) → at s.entries k ≡ Some e → is_of owner e ≡ true → has_pair pairs owner.0 k ≡ false → ⊥
      its k e there of hasnt = true≢false (sym (kept.owned owner k ∙ ap (is_found_of owner) there ∙ of) ∙ hasnt)

      back : (k : ℕ) → has_pair pairs owner.0 k ≡ true → ((e : Entry) → at s.entries k ≡ Some e → is_of owner e ≡ false) → ⊥
      back k has fails = on (at s.entries k) refl (sym (kept.owned owner k) ∙ has)
        where
          on : (o : Option Entry) → at s.entries k ≡ o → is_found_of owner o ≡ true → ⊥
          on None there of = cc
          on (Some e) there of = true≢false (sym of ∙ fails e there)

      by : Search (is_of owner) s.entries → (found : Option ℕ) → IfSome found (λ k. has_pair pairs owner.0 k ≡ true)
          → IfSome found (λ k. (b : ℕ) → is_after_last None b ≡ true → b < k → has_pair pairs owner.0 b ≡ false)
          → IfNone found ((b : ℕ) → is_after_last None b ≡ true → has_pair pairs owner.0 b ≡ false)
          → found ≡ lowest_call_of owner s
      by (First k e first) None here least none = absurd (its k e first.here first.passes (none k refl))
      by (First k e first) (Some j) here least none = rw first.found (elim (cases_order j k) [
        | inl same ↦ ap Some same
        | inr (inl less) ↦ absurd (back j here (λ u there. first.before j u less there))
        | inr (inr more) ↦ absurd (its k e first.here first.passes (least k refl more))
      ])
      by (Missing missing) None here least none = rw missing.found refl
      by (Missing missing) (Some j) here least none = absurd (back j here (missing.none j))

-- an owner's least call, whose entry is dropped
module _ (laws : RowLaws Entry) (s : GuestState) (ascends : IsAscending s.entries) (owner : Enclave) where
  pub drop_step : (call : CallNo) → Some call ≡ option_map call_numbered (lowest_call_of owner s)
      → (without_owner owner (without_entry call.0 s) ≡ without_owner owner s) × (length (less s.entries call.0) < length s.entries)
  drop_step call is = by (search_rows laws (is_of owner) s.entries ascends)
    where
      by : Search (is_of owner) s.entries → (without_owner owner (without_entry call.0 s) ≡ without_owner owner s) × (length (less s.entries call.0) < length s.entries)
      by (First k e first) =
          let both : Some call ≡ Some (call_numbered k) = rw first.found at is in
          let same : call ≡ call_numbered k = cc in
          let there : at s.entries call.0 ≡ Some e = ap (λ c. at s.entries c.0) same ∙ first.here in
          (ap (λ rows. record s { entries = rows }) (rest_less (is_of owner) s.entries call.0 e there first.passes), length_less s.entries call.0 e there)
      by (Missing missing) = absurd (let bad : Some call ≡ None = rw missing.found at is in (cc))

  pub drop_end : None ≡ option_map call_numbered (lowest_call_of owner s) → without_owner owner s ≡ s
  drop_end is = by (search_rows laws (is_of owner) s.entries ascends)
    where
      by : Search (is_of owner) s.entries → without_owner owner s ≡ s
      by (First k e first) = absurd (let bad : None ≡ Some (call_numbered k) = rw first.found at is in (cc))
      by (Missing missing) = ap (λ rows. record s { entries = rows }) (rest_all (is_of owner) s.entries missing.found)
