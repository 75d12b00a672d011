-- That a guest stays one, and what its guest frames name after a change.
use Rattle.std.proofs.Common.{◌≡◌, ◌↔◌, ◌+◌, ◌-◌, ◌*◌, ◌/◌, ◌<◌, ◌≤◌, ℕ, Bool, true, false, cond, not, List, [], length, Option, None, Some, refl, sym, ap, ◌∙◌, ◌⊎◌, inl, inr, arith}
use Rattle.std.specs.Prelude.{◌==◌, nat_le, nat_lt, slice_get, IfSome, option_and_then}
use Rattle.std.specs.List.Sorted.{IsStrictlySortedBy}
use Rattle.std.specs.Option.{option_or}
use Rattle.std.proofs.lemmas.Bool.{and_parts, and_from, leb-true, ltb-true, le-leb, lt-ltb, cases_eq, eq-eqb, ne_eqb, eqb-true, false_from_ne_true, true≢false}
use Rattle.std.proofs.lemmas.Map.Entries.{option_filter}
use Rattle.std.proofs.lemmas.Option.{slice_get_past, slice_get_cases}
use Rattle.xm_num.specs.declared.Block.{Block}
use Rattle.xm_num.specs.declared.Enclave.{Enclave}
use Rattle.xm_num.specs.declared.Frame.{Frame}
use Rattle.xm_num.specs.RowLaws.{RowLaws}
use Rattle.xm_num.specs.Rows.{at, put, less, IsAscending}
use Rattle.guest_map.specs.Guests.{Entry, GuestState, IsDrawn, IsGuest, own_memory, own_machine, has_guest, entry_machine, entry_having, admitted_machine, to_machine, next_entry, with_entry, without_entry, without_owner, is_of, has_found, is_found_of}
use Rattle.guest_map.specs.GuestLaws.{GuestLaws}
use Rattle.guest_map.proofs.FindLemmas.{Search, search_rows, filter_at, filter_ascends}
use Rattle.guest_map.proofs.FindLemmas.Search.{First, Missing}

pub has_parts : (e : Entry) (g : ℕ) → has_guest e g ≡ true → (e.first ≤ g) × (g < e.first + length e.frames)
has_parts e g has =
    let parts = and_parts (nat_le e.first g) (nat_lt g (e.first + length e.frames)) has in
    (leb-true e.first g parts.0, ltb-true g (e.first + length e.frames) parts.1)

pub has_from : (e : Entry) (g : ℕ) → e.first ≤ g → g < e.first + length e.frames → has_guest e g ≡ true
has_from e g from below = and_from (nat_le e.first g) (nat_lt g (e.first + length e.frames)) (le-leb e.first g from) (lt-ltb g (e.first + length e.frames) below)

no_rows : IsAscending {V = Entry} []
unfolding IsStrictlySortedBy
no_rows = tt

-- a guest frame that an entry has was drawn
pub found_drawn : (s : GuestState) → IsGuest s → (call g : ℕ) → has_found (at s.entries call) g ≡ true → (64 * length s.blocks ≤ g) × (g < s.next_fresh)
found_drawn s guest call g has = by (at s.entries call) (guest.drawn call) has
  where
    by : (found : Option Entry) → IfSome found (IsDrawn s) → has_found found g ≡ true → (64 * length s.blocks ≤ g) × (g < s.next_fresh)
    by None drawn has = cc
    by (Some e) drawn has = let parts = has_parts e g has in (omega (arith, parts.0, drawn.above), omega (arith, parts.1, drawn.below))

pub has_at : (s : GuestState) (call g : ℕ) (e : Entry) → at s.entries call ≡ Some e → has_guest e g ≡ true → has_found (at s.entries call) g ≡ true
has_at s call g e there has = rw there has

module _ (laws : RowLaws Entry) where
  boots : (blocks : List Block) → IsGuest (own_memory blocks)
  boots blocks = record {
    ascending = no_rows;
    own = omega arith;
    drawn = λ call. rw (laws.none call) tt;
    apart = λ a b g has also. absurd (let bad : false ≡ true = rw (laws.none a) at has in (cc));
  }

  module _ (s : GuestState) (guest : IsGuest s) where
    -- an entry of the next fresh guest frames
    pub guest_put : (call next : ℕ) (e : Entry) → at s.entries call ≡ None → e.first ≡ s.next_fresh → next ≡ e.first + length e.frames
        → IsGuest (record { blocks = s.blocks; next_fresh = next; entries = put s.entries call e })
    guest_put call next e fresh first end = record {
      ascending = laws.put_ascends s.entries call e guest.ascending;
      own = omega (arith, guest.own, first, end);
      drawn = λ k. rw (laws.put_at s.entries call k e) (drawn (call == k) (at s.entries k) (guest.drawn k));
      apart = λ a b g has also. by a b g (call == a) refl (call == b) refl (rw (laws.put_at s.entries call a e) at has) (rw (laws.put_at s.entries call b e) at also);
    }
      where
        drawn : (b : Bool) (found : Option Entry) → IfSome found (IsDrawn s) → IfSome (cond b (Some e) found) (IsDrawn (record { blocks = s.blocks; next_fresh = next; entries = put s.entries call e }))
        drawn true found was = record { above = omega (arith, guest.own, first); below = omega (arith, end) }
        drawn false None was = tt
        drawn false (Some d) was = record { above = was.above; below = omega (arith, was.below, first, end) }

        apart : (k g : ℕ) → has_guest e g ≡ true → has_found (at s.entries k) g ≡ true → ⊥
        apart k g has also = omega (arith, first, (has_parts e g has).0, (found_drawn s guest k g also).1)

        by : (a b g : ℕ) (x : Bool) → (call == a) ≡ x → (y : Bool) → (call == b) ≡ y → has_found (cond x (Some e) (at s.entries a)) g ≡ true → has_found (cond y (Some e) (at s.entries b)) g ≡ true → a ≡ b
        by a b g true one true two has also = sym (eqb-true call a one) ∙ eqb-true call b two
        by a b g true one false two has also = absurd (apart b g has also)
        by a b g false one true two has also = absurd (apart a g also has)
        by a b g false one false two has also = guest.apart a b g has also

    -- some of its entries
    guest_part : (entries : List (ℕ × Entry)) → IsAscending entries → ((k : ℕ) → (at entries k ≡ None) ⊎ (at entries k ≡ at s.entries k)) → IsGuest (record s { entries = entries })
    guest_part entries ascends part = record {
      ascending = ascends;
      own = guest.own;
      drawn = drawn;
      apart = λ a b g has also. guest.apart a b g (kept a g has) (kept b g also);
    }
      where
        drawn : (k : ℕ) → IfSome (at entries k) (IsDrawn (record s { entries = entries }))
        drawn k = elim (part k) [
          | inl none ↦ rw none tt
          | inr same ↦ rw same (by (at s.entries k) (guest.drawn k))
        ]
          where
            by : (found : Option Entry) → IfSome found (IsDrawn s) → IfSome found (IsDrawn (record s { entries = entries }))
            by None was = tt
            by (Some e) was = record { above = was.above; below = was.below }

        kept : (k g : ℕ) → has_found (at entries k) g ≡ true → has_found (at s.entries k) g ≡ true
        kept k g has = elim (part k) [
          | inl none ↦ absurd (let bad : false ≡ true = rw none at has in (cc))
          | inr same ↦ rw same at has
        ]

    less_part : (call k : ℕ) → (at (less s.entries call) k ≡ None) ⊎ (at (less s.entries call) k ≡ at s.entries k)
    less_part call k = by (call == k) (laws.less_at s.entries call k guest.ascending)
      where
        by : (b : Bool) → at (less s.entries call) k ≡ cond b None (at s.entries k) → (at (less s.entries call) k ≡ None) ⊎ (at (less s.entries call) k ≡ at s.entries k)
        by true is = inl is
        by false is = inr is

    pub drops : (call : ℕ) → IsGuest (without_entry call s)
    drops call = guest_part (less s.entries call) (laws.less_ascends s.entries call guest.ascending) (less_part call)

    left : (owner : Enclave) (k : ℕ) → at (without_owner owner s).entries k ≡ cond (is_found_of owner (at s.entries k)) None (at s.entries k)
    left owner k = filter_at (λ e. not (is_of owner e)) s.entries k guest.ascending ∙ by (at s.entries k)
      where
        by : (found : Option Entry) → option_filter (λ e. not (is_of owner e)) found ≡ cond (is_found_of owner found) None found
        by None = refl
        by (Some e) = on (is_of owner e)
          where
            on : (b : Bool) → cond (not b) (Some e) None ≡ cond b None (Some e)
            on true = refl
            on false = refl

    drops_owner : (owner : Enclave) → IsGuest (without_owner owner s)
    drops_owner owner = guest_part (without_owner owner s).entries (filter_ascends (λ e. not (is_of owner e)) s.entries guest.ascending) (λ k. by k (is_found_of owner (at s.entries k)) (left owner k))
      where
        by : (k : ℕ) (b : Bool) → at (without_owner owner s).entries k ≡ cond b None (at s.entries k) → (at (without_owner owner s).entries k ≡ None) ⊎ (at (without_owner owner s).entries k ≡ at s.entries k)
        by k true is = inl is
        by k false is = inr is

    -- the entry that has a guest frame is the one that is found
    pub having_is : (call g : ℕ) (e : Entry) → at s.entries call ≡ Some e → has_guest e g ≡ true → entry_having s.entries g ≡ Some e
    having_is call g e there has = by (search_rows laws (λ e. has_guest e g) s.entries guest.ascending)
      where
        by : Search (λ e. has_guest e g) s.entries → entry_having s.entries g ≡ Some e
        by (First k d first) =
            let same : k ≡ call = guest.apart k call g (has_at s k g d first.here first.passes) (has_at s call g e there has) in
            let both : Some d ≡ Some e = sym first.here ∙ ap (at s.entries) same ∙ there in
            rw first.found both
        by (Missing missing) = absurd (true≢false (sym has ∙ missing.none call e there))

    pub having_none : (g : ℕ) → ((call : ℕ) → has_found (at s.entries call) g ≡ false) → entry_having s.entries g ≡ None
    having_none g none = by (search_rows laws (λ e. has_guest e g) s.entries guest.ascending)
      where
        by : Search (λ e. has_guest e g) s.entries → entry_having s.entries g ≡ None
        by (First k d first) = absurd (true≢false (sym (has_at s k g d first.here first.passes) ∙ none k))
        by (Missing missing) = rw missing.found refl

    -- no own guest frame is in an entry
    own_none : (call g : ℕ) → has_found (at s.entries call) g ≡ true → own_machine s.blocks g ≡ None
    own_none call g has =
        let past : slice_get s.blocks (g / 64) ≡ None = slice_get_past s.blocks (g / 64) (omega (arith, (found_drawn s guest call g has).0)) in
        rw past refl

    found : (call g : ℕ) (e : Entry) → at s.entries call ≡ Some e → has_guest e g ≡ true → to_machine s g ≡ entry_machine e g
    found call g e there has = rw (own_none call g (has_at s call g e there has), having_is call g e there has) refl

    all_none : (g : ℕ) → own_machine s.blocks g ≡ None → ((call : ℕ) → has_found (at s.entries call) g ≡ false) → to_machine s g ≡ None
    all_none g own none = rw (own, having_none g none) refl

    named : (g : ℕ) → (to_machine s g ≡ None) ↔ ((own_machine s.blocks g ≡ None) × ((call : ℕ) → has_found (at s.entries call) g ≡ false))
    named g = (λ none. (own none, admitted none), λ both. all_none g both.0 both.1)
      where
        own : to_machine s g ≡ None → own_machine s.blocks g ≡ None
        own none = by (own_machine s.blocks g) none
          where
            by : (o : Option Frame) → option_or o (admitted_machine s.entries g) ≡ None → o ≡ None
            by None none = refl
            by (Some x) none = none

        some : (e : Entry) → has_guest e g ≡ true → entry_machine e g ≡ None → ⊥
        some e has none =
            let parts = has_parts e g has in
            let past : slice_get e.frames (g - e.first) ≡ None = rw has at none in
            elim (slice_get_cases e.frames (g - e.first)).1 [
              | inl within ↦ (let bad : Some within.0 ≡ None = sym within.2 ∙ past in cc)
              | inr beyond ↦ omega (arith, beyond.0, parts.0, parts.1)
            ]

        admitted : to_machine s g ≡ None → (call : ℕ) → has_found (at s.entries call) g ≡ false
        admitted none call = false_from_ne_true (has_found (at s.entries call) g) (by (at s.entries call) refl)
          where
            by : (o : Option Entry) → at s.entries call ≡ o → has_found o g ≡ true → ⊥
            by None there has = cc
            by (Some e) there has = some e has (sym (found call g e there has) ∙ none)

  -- two guests have the same entry for a guest frame
  module _ (s t : GuestState) (one : IsGuest s) (other : IsGuest t) where
    having_same : (g : ℕ) → ((k : ℕ) (e : Entry) → has_guest e g ≡ true → at s.entries k ≡ Some e → at t.entries k ≡ Some e)
        → ((k : ℕ) (e : Entry) → has_guest e g ≡ true → at t.entries k ≡ Some e → at s.entries k ≡ Some e) → entry_having s.entries g ≡ entry_having t.entries g
    having_same g there back = by (search_rows laws (λ e. has_guest e g) s.entries one.ascending)
      where
        by : Search (λ e. has_guest e g) s.entries → entry_having s.entries g ≡ entry_having t.entries g
        by (First k e first) = having_is s one k g e first.here first.passes ∙ sym (having_is t other k g e (there k e first.passes first.here) first.passes)
        by (Missing missing) = rw missing.found (sym (having_none t other g (λ k. false_from_ne_true (has_found (at t.entries k) g) (on k (at t.entries k) refl))))
          where
            on : (k : ℕ) (o : Option Entry) → at t.entries k ≡ o → has_found o g ≡ true → ⊥
            on k None is has = cc
            on k (Some e) is has = true≢false (sym has ∙ missing.none k e (back k e has is))

  module _ (s : GuestState) (guest : IsGuest s) where
    abbrev through : ℕ → Option Entry → Option Frame
    through g o = option_or (own_machine s.blocks g) (option_and_then (λ e. entry_machine e g) o)

    admits : (call : ℕ) (owner : Enclave) (frames : List Frame) → at s.entries call ≡ None → IsGuest (with_entry call owner frames s)
    admits call owner frames fresh = guest_put s guest call (s.next_fresh + length frames) (next_entry owner frames s) fresh refl refl

    admitted : (call g : ℕ) (owner : Enclave) (frames : List Frame) → at s.entries call ≡ None
        → to_machine (with_entry call owner frames s) g ≡ cond (has_guest (next_entry owner frames s) g) (slice_get frames (g - s.next_fresh)) (to_machine s g)
    admitted call g owner frames fresh = by (has_guest e g) refl
      where
        e : Entry
        e = next_entry owner frames s

        t : GuestState
        t = with_entry call owner frames s

        here : at t.entries call ≡ Some e
        here = laws.put_at s.entries call call e ∙ rw (eq-eqb call call refl) refl

        beside : (k : ℕ) → (call ≡ k → ⊥) → at t.entries k ≡ at s.entries k
        beside k other = laws.put_at s.entries call k e ∙ rw (ne_eqb call k other) refl

        there : has_guest e g ≡ false → (k : ℕ) (d : Entry) → has_guest d g ≡ true → at t.entries k ≡ Some d → at s.entries k ≡ Some d
        there hasnt k d has is = elim (cases_eq call k) [
          | inl same ↦
              let both : Some d ≡ Some e = sym is ∙ ap (at t.entries) (sym same) ∙ here in
              let value : d ≡ e = cc in
              absurd (true≢false (sym has ∙ ap (λ x. has_guest x g) value ∙ hasnt))
          | inr other ↦ sym (beside k other) ∙ is
        ]

        back : (k : ℕ) (d : Entry) → has_guest d g ≡ true → at s.entries k ≡ Some d → at t.entries k ≡ Some d
        back k d has is = beside k (λ same. let bad : None ≡ Some d = sym fresh ∙ ap (at s.entries) same ∙ is in cc) ∙ is

        by : (b : Bool) → has_guest e g ≡ b → to_machine t g ≡ cond b (slice_get frames (g - s.next_fresh)) (to_machine s g)
        by true has = found t (admits call owner frames fresh) call g e here has ∙ rw has refl
        by false hasnt = ap (through g) (having_same t s (admits call owner frames fresh) guest g (there hasnt) back)

    dropped : (call g : ℕ) → to_machine (without_entry call s) g ≡ cond (has_found (at s.entries call) g) None (to_machine s g)
    dropped call g = by (has_found (at s.entries call) g) refl
      where
        t : GuestState
        t = without_entry call s

        here : at t.entries call ≡ None
        here = laws.less_at s.entries call call guest.ascending ∙ rw (eq-eqb call call refl) refl

        beside : (k : ℕ) → (call ≡ k → ⊥) → at t.entries k ≡ at s.entries k
        beside k other = laws.less_at s.entries call k guest.ascending ∙ rw (ne_eqb call k other) refl

        gone : has_found (at s.entries call) g ≡ true → (k : ℕ) → has_found (at t.entries k) g ≡ false
        gone has k = elim (cases_eq call k) [
          | inl same ↦ rw (← same, here) refl
          | inr other ↦ rw (beside k other) (false_from_ne_true (has_found (at s.entries k) g) (λ also. other (guest.apart call k g has also)))
        ]

        there : (k : ℕ) (d : Entry) → has_guest d g ≡ true → at t.entries k ≡ Some d → at s.entries k ≡ Some d
        there k d has is = elim (cases_eq call k) [
          | inl same ↦ absurd (let bad : None ≡ Some d = sym here ∙ ap (at t.entries) same ∙ is in (cc))
          | inr other ↦ sym (beside k other) ∙ is
        ]

        back : has_found (at s.entries call) g ≡ false → (k : ℕ) (d : Entry) → has_guest d g ≡ true → at s.entries k ≡ Some d → at t.entries k ≡ Some d
        back hasnt k d has is = beside k (λ same. true≢false (sym (has_at s k g d is has) ∙ ap (λ q. has_found (at s.entries q) g) (sym same) ∙ hasnt)) ∙ is

        by : (b : Bool) → has_found (at s.entries call) g ≡ b → to_machine t g ≡ cond b None (to_machine s g)
        by true has = all_none t (drops s guest call) g (own_none s guest call g has) (gone has)
        by false hasnt = ap (through g) (having_same t s (drops s guest call) guest g there (back hasnt))

    dropped_owner : (owner : Enclave) (g : ℕ) → to_machine (without_owner owner s) g ≡ cond (is_found_of owner (entry_having s.entries g)) None (to_machine s g)
    dropped_owner owner g = by (search_rows laws (λ e. has_guest e g) s.entries guest.ascending)
      where
        t : GuestState
        t = without_owner owner s

        there : (k : ℕ) (d : Entry) → at t.entries k ≡ Some d → at s.entries k ≡ Some d
        there k d is = on (is_found_of owner (at s.entries k)) (sym (left s guest owner k) ∙ is)
          where
            on : (b : Bool) → cond b None (at s.entries k) ≡ Some d → at s.entries k ≡ Some d
            on true bad = absurd (cc)
            on false is = is

        gone : (k : ℕ) (e : Entry) → at s.entries k ≡ Some e → has_guest e g ≡ true → is_of owner e ≡ true → (q : ℕ) → has_found (at t.entries q) g ≡ false
        gone k e is has of q = false_from_ne_true (has_found (at t.entries q) g) (on (at t.entries q) refl)
          where
            none : at t.entries k ≡ None
            none = left s guest owner k ∙ rw (is, of) refl

            on : (o : Option Entry) → at t.entries q ≡ o → has_found o g ≡ true → ⊥
            on None left also = cc
            on (Some d) left also =
                let same : q ≡ k = guest.apart q k g (has_at s q g d (there q d left) also) (has_at s k g e is has) in
                let bad : None ≡ Some d = sym none ∙ ap (at t.entries) (sym same) ∙ left in cc

        by : Search (λ e. has_guest e g) s.entries → to_machine t g ≡ cond (is_found_of owner (entry_having s.entries g)) None (to_machine s g)
        by (First k e first) = rw having (on (is_of owner e) refl)
          where
            having : entry_having s.entries g ≡ Some e
            having = having_is s guest k g e first.here first.passes

            on : (b : Bool) → is_of owner e ≡ b → to_machine t g ≡ cond b None (through g (Some e))
            on true of = all_none t (drops_owner s guest owner) g (own_none s guest k g (has_at s k g e first.here first.passes)) (gone k e first.here first.passes of)
            on false other =
                let here : at t.entries k ≡ Some e = left s guest owner k ∙ rw (first.here, other) refl in
                ap (through g) (having_is t (drops_owner s guest owner) k g e here first.passes)
        by (Missing missing) =
            let none : entry_having s.entries g ≡ None = rw missing.found refl in
            rw none (ap (through g) (having_none t (drops_owner s guest owner) g (λ q. false_from_ne_true (has_found (at t.entries q) g) (on q (at t.entries q) refl))))
          where
            on : (q : ℕ) (o : Option Entry) → at t.entries q ≡ o → has_found o g ≡ true → ⊥
            on q None is has = cc
            on q (Some d) is has = true≢false (sym has ∙ missing.none q d (there q d is))

  pub laws_hold : GuestLaws
  laws_hold = record {
    rows = laws;
    boots = boots;
    admits = λ s call owner frames guest fresh. admits s guest call owner frames fresh;
    drops = λ s call guest. drops s guest call;
    drops_owner = λ s owner guest. drops_owner s guest owner;
    found = λ s call g e guest. found s guest call g e;
    none = λ s g guest. named s guest g;
    admitted = λ s call g owner frames guest fresh. admitted s guest call g owner frames fresh;
    dropped = λ s call g guest. dropped s guest call g;
    dropped_owner = λ s owner g guest. dropped_owner s guest owner g;
    left = λ s owner call guest. left s guest owner call;
  }
