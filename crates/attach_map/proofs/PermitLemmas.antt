-- The least of some permits, by their order.
use Rattle.std.proofs.Common.{◌≡◌, ◌<◌, ◌^◌, ℕ, ℤ, pos, negsuc, Bool, true, false, cond, List, [], ◌∷◌, Option, None, Some, refl, sym, ap, subst, ◌∙◌, inl, inr, arith, eq-eqb}
use Rattle.std.specs.Prelude.{◌==◌, IsSome, is_some, IfSome, IfNone, option_map}
use Rattle.std.specs.List.{find}
use Rattle.std.specs.Map.{keys_of}
use Rattle.std.specs.Ordering.{nat_cmp}
use Rattle.std.proofs.lemmas.Bool.{cases_eq, cases_order, eqb-true, ne_eqb, false_from_ne_true}
use Rattle.std.proofs.lemmas.Map.Keys.{sorted_tail}
use Rattle.xm_num.specs.Rows.{at, IsAscending}
use Rattle.xm_num.specs.RowLaws.{RowLaws}
use Rattle.number_pairs.specs.Pairs.{has_pair, is_after_last}
use Rattle.attach_map.specs.Attaching.{PermitState, permit_at, is_named}
use Rattle.attach_map.specs.Permits.{is_under, Indexes}
use Rattle.attach_map.proofs.WaitingLemmas.{past_first}

module _ {V : Type 0} (laws : RowLaws V) (test : ℕ × V → Bool) where
  behind : (row : ℕ × V) (rows : List (ℕ × V)) → IsAscending (row ∷ rows) → (k : ℕ) (v : V) → at rows k ≡ Some v → at (row ∷ rows) k ≡ Some v
  behind row rows ascends k v there = elim (cases_eq k row.0) [
    | inl same ↦ absurd (let bad : None ≡ Some v = sym (past_first row rows ascends) ∙ ap (at rows) (sym same) ∙ there in (cc))
    | inr other ↦ laws.later row rows k other ∙ there
  ]

  -- no row passes
  pub none_found : (rows : List (ℕ × V)) → IsAscending rows → ((k : ℕ) (v : V) → at rows k ≡ Some v → test (k, v) ≡ false) → find test rows ≡ None
  none_found [] ascends fails = refl
  none_found (row ∷ rows) ascends fails =
      let here : test row ≡ false = fails row.0 row.1 (laws.head row rows) in
      let more = none_found rows (sorted_tail nat_cmp row.0 (keys_of rows) ascends) (λ k v there. fails k v (behind row rows ascends k v there)) in
      rw (here, more) refl

  -- a row passes, and none before it
  pub first_found : (rows : List (ℕ × V)) → IsAscending rows → (k : ℕ) (v : V) → at rows k ≡ Some v → test (k, v) ≡ true → ((b : ℕ) (u : V) → b < k → at rows b ≡ Some u → test (b, u) ≡ false) → find test rows ≡ Some (k, v)
  first_found [] ascends k v there passes before = absurd (let bad : None ≡ Some v = sym (laws.none k) ∙ there in (cc))
  first_found (row ∷ rows) ascends k v there passes before = elim (cases_order k row.0) [
    | inl same ↦
        let both : Some row.1 ≡ Some v = sym (laws.head row rows) ∙ ap (at (row ∷ rows)) (sym same) ∙ there in
        let value : row.1 ≡ v = cc in
        let here : row ≡ (k, v) = rw (same, ← value) refl in
        rw (here, passes) refl
    | inr (inl less) ↦ absurd (let bad : None ≡ Some v = sym (laws.before row rows k ascends less) ∙ there in (cc))
    | inr (inr more) ↦
        let fails : test row ≡ false = before row.0 row.1 more (laws.head row rows) in
        let later : at rows k ≡ Some v = sym (laws.later row rows k (λ same. omega (arith, more, same))) ∙ there in
        let rest = first_found rows (sorted_tail nat_cmp row.0 (keys_of rows) ascends) k v later passes (λ b u low is. before b u low (behind row rows ascends b u is)) in
        rw (fails, rest) refl
  ]

-- the least permit under a number, by the pairs
pub lowest_under : RowLaws PermitState → (key : PermitState → ℕ) (a : ℕ) (rows : List (ℕ × PermitState)) (pairs : List (ℕ × ℕ)) → IsAscending rows → Indexes key rows pairs → (found : Option ℕ)
    → IfSome found (λ k. has_pair pairs a k ≡ true)
    → IfSome found (λ k. (b : ℕ) → is_after_last None b ≡ true → b < k → has_pair pairs a b ≡ false)
    → IfNone found ((b : ℕ) → is_after_last None b ≡ true → has_pair pairs a b ≡ false)
    → found ≡ option_map (λ row. row.0) (find (λ row. key row.1 == a) rows)
lowest_under laws key a rows pairs ascends are found here least none = by found here least none
  where
    its : (b : ℕ) (u : PermitState) → at rows b ≡ Some u → has_pair pairs a b ≡ false → (key u == a) ≡ false
    its b u is not = let same : is_under key a (at rows b) ≡ false = sym (are a b) ∙ not in rw is at same

    by : (found : Option ℕ) → IfSome found (λ k. has_pair pairs a k ≡ true)
        → IfSome found (λ k. (b : ℕ) → is_after_last None b ≡ true → b < k → has_pair pairs a b ≡ false)
        → IfNone found ((b : ℕ) → is_after_last None b ≡ true → has_pair pairs a b ≡ false)
        → found ≡ option_map (λ row. row.0) (find (λ row. key row.1 == a) rows)
    by None here least none =
        let nowhere = none_found laws (λ row. key row.1 == a) rows ascends (λ k v there. its k v there (none k refl)) in
        rw nowhere refl
    by (Some k) here least none = at_row (at rows k) refl (sym (are a k) ∙ here)
      where
        at_row : (held : Option PermitState) → at rows k ≡ held → is_under key a held ≡ true → Some k ≡ option_map (λ row. row.0) (find (λ row. key row.1 == a) rows)
        at_row None there bad = absurd (cc)
        at_row (Some held) there passes =
            let first = first_found laws (λ row. key row.1 == a) rows ascends k held there passes (λ b u low is. its b u is (least b refl low)) in
            rw first refl

-- the permit of a name
module _ (laws : RowLaws PermitState) (rows : List (ℕ × PermitState)) (ascends : IsAscending rows) where
  pub name_found : (z : ℤ) (n : ℕ) → z ≡ pos n → IsSome (at rows n) → Some n ≡ option_map (λ row. row.0) (find (λ row. is_named z row.0) rows)
  name_found z n is some = by (at rows n) refl some
    where
      by : (held : Option PermitState) → at rows n ≡ held → IsSome held → Some n ≡ option_map (λ row. row.0) (find (λ row. is_named z row.0) rows)
      by None there some = absurd (cc)
      by (Some held) there some =
          let first = first_found laws (λ row. is_named (pos n) row.0) rows ascends n held there (eq-eqb n n refl) (λ b u low is. ne_eqb n b (λ same. omega (arith, low, same))) in
          rw (is, first) refl

  no_name : (z : ℤ) → ((n : ℕ) → z ≡ pos n → at rows n ≡ None) → (k : ℕ) (h : PermitState) → at rows k ≡ Some h → is_named z k ≡ false
  no_name (pos n) none k h there = false_from_ne_true (n == k) (λ same. let bad : None ≡ Some h = sym (none n refl) ∙ ap (at rows) (eqb-true n k same) ∙ there in (cc))
  no_name (negsuc n) none k h there = refl

  pub name_missed : (z : ℤ) → ((n : ℕ) → z ≡ pos n → at rows n ≡ None) → None ≡ option_map (λ row. row.0) (find (λ row. is_named z row.0) rows)
  name_missed z none = let nowhere = none_found laws (λ row. is_named z row.0) rows ascends (no_name z none) in rw nowhere refl

-- a name that is no number has no permit
pub past_all : (rows : List (ℕ × PermitState)) → ((k : ℕ) → IsSome (at rows k) → k < 2 ^ 32) → (z : ℤ) → ((n : ℕ) → n < 2 ^ 32 → z ≡ pos n → ⊥) → (n : ℕ) → z ≡ pos n → at rows n ≡ None
past_all rows small z none n is = by (at rows n) refl
  where
    by : (held : Option PermitState) → at rows n ≡ held → held ≡ None
    by None there = refl
    by (Some h) there = absurd (none n (small n (rw there refl)) is)

-- so a permit that is held has a name that is a number
pub held_named : (rows : List (ℕ × PermitState)) → ((k : ℕ) → IsSome (at rows k) → k < 2 ^ 32) → (z : ℤ) → ((n : ℕ) → n < 2 ^ 32 → z ≡ pos n → ⊥) → IsSome (permit_at rows z) → ⊥
held_named rows small (pos n) none some = none n (small n some) refl
held_named rows small (negsuc n) none some = let bad : is_some {T = PermitState} None ≡ true = some in cc

-- one number alone is the name
pub named_alone : (rows : List (ℕ × PermitState)) (z : ℤ) (n : ℕ) → z ≡ pos n → at rows n ≡ None → (m : ℕ) → z ≡ pos m → at rows m ≡ None
named_alone rows z n is none m also =
    let both : pos n ≡ pos m = sym is ∙ also in
    let same : n ≡ m = cc in
    ap (at rows) (sym same) ∙ none

pub none_is : {V : Type 0} (found : Option V) → is_some found ≡ false → found ≡ None
none_is None not = refl
none_is (Some v) not = let bad : true ≡ false = not in cc

-- where none is found, none passes
pub fails_each : {V : Type 0} → RowLaws V → (test : ℕ × V → Bool) (rows : List (ℕ × V)) → option_map (λ row. row.0) (find test rows) ≡ None → (k : ℕ) (v : V) → at rows k ≡ Some v → test (k, v) ≡ false
fails_each laws test [] none k v there = absurd (let bad : None ≡ Some v = sym (laws.none k) ∙ there in (cc))
fails_each {V} laws test (row ∷ rows) none k v there = by (λ none there. fails_each laws test rows none k v there) (test row) refl none
  where
    by : (option_map (λ row. row.0) (find test rows) ≡ None → at rows k ≡ Some v → test (k, v) ≡ false) → (b : Bool) → test row ≡ b → option_map (λ row. row.0) (cond b (Some row) (find test rows)) ≡ None → test (k, v) ≡ false
    by more true passes none = let bad : Some row.0 ≡ None = none in cc
    by more false fails none = elim (cases_eq k row.0) [
      | inl same ↦
          let both : Some row.1 ≡ Some v = sym (laws.head row rows) ∙ ap (at (row ∷ rows)) (sym same) ∙ there in
          let value : row.1 ≡ v = cc in
          let here : (k, v) ≡ row = rw (same, ← value) refl in
          ap test here ∙ fails
      | inr other ↦ more none (sym (laws.later row rows k other) ∙ there)
    ]

-- the row that is found stands at its number
pub found_row : {V : Type 0} → RowLaws V → (test : ℕ × V → Bool) (rows : List (ℕ × V)) → IsAscending rows → (k : ℕ) → option_map (λ row. row.0) (find test rows) ≡ Some k → IsSome (at rows k)
found_row laws test [] ascends k is = cc
found_row {V} laws test (row ∷ rows) ascends k is = by (λ is. found_row laws test rows (sorted_tail nat_cmp row.0 (keys_of rows) ascends) k is) (test row) is
  where
    by : (option_map (λ row. row.0) (find test rows) ≡ Some k → IsSome (at rows k)) → (b : Bool) → option_map (λ row. row.0) (cond b (Some row) (find test rows)) ≡ Some k → IsSome (at (row ∷ rows) k)
    by more true is = let same : row.0 ≡ k = cc in rw (← same, laws.head row rows) refl
    by more false is =
        let there : IsSome (at rows k) = more is in
        rw (laws.later row rows k (λ same. let bad : is_some {T = V} None ≡ true = subst IsSome (ap (at rows) same ∙ past_first row rows ascends) there in cc)) there
