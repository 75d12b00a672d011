-- Pairs as rows: which one of a range comes first, and which one is an owner's first.
use Rattle.std.proofs.Common.{◌≡◌, ◌<◌, ◌≤◌, ◌^◌, ℕ, Bool, true, false, not, ◌&&◌, List, [], ◌∷◌, Some, None, refl, sym, ap, ◌∙◌, subst, true≢false, inl, inr, arith, eq-eqb, ne_eqb}
use Rattle.std.specs.Prelude.{◌==◌, slice_get, IfSome, IsSome, ⊤, Option, option_map, if◌then◌else◌}
use Rattle.std.specs.List.{find}
use Rattle.std.specs.Ordering.{nat_cmp, is_gt}
use Rattle.std.specs.declared.cmp.Ordering.TheVariants.{Less, Equal, Greater}
use Rattle.std.specs.Cmp.{nat_cmp_is, unsigned_tied}
use Rattle.std.specs.BTreeMap.{BTreeMap, get}
use Rattle.std.specs.BTreeMap.Range.{IsRangeOf}
use Rattle.std.specs.declared.ops.Bound.TheVariants.{Included, Unbounded}
use Rattle.std.proofs.lemmas.Bool.{cases_lt, cases_order}
use Rattle.xm_num.specs.declared.Enclave.{Enclave}
use Rattle.xm_num.specs.RowLaws.{RowLaws}
use Rattle.xm_num.specs.Rows.{at, less, next_from, IsAscending}
use Rattle.name_server.specs.Names.{NamesState, is_owned_by, lowest_name}
use Rattle.name_server.specs.Index.{is_indexed, IsLeastOf, AreKept}

-- one number comes no later than another
abbrev IsUpTo : ℕ → ℕ → Type 0
IsUpTo a b = is_gt (nat_cmp a b) ≡ false

up_to_is : (a b : ℕ) → IsUpTo a b → a ≤ b
up_to_is a b up = elim (cases_order a b) [
  | inl same ↦ omega arith
  | inr (inl less) ↦ omega arith
  | inr (inr more) ↦ let bad : true ≡ false = ap is_gt (nat_cmp_is a b Greater more) ∙ up in absurd (true≢false bad)
]

up_to : (a b : ℕ) → a ≤ b → IsUpTo a b
up_to a b le = elim (cases_order a b) [
  | inl is ↦ let next : nat_cmp a b ≡ Equal = sym (nat_cmp_is a b Equal is) in rw next refl
  | inr (inl less) ↦ let next : nat_cmp a b ≡ Less = sym (nat_cmp_is a b Less less) in rw next refl
  | inr (inr more) ↦ absurd (omega arith)
]

module _ (laws : RowLaws Enclave) (m : BTreeMap ℕ Enclave) (low : ℕ) (r : List (ℕ × Enclave)) (range : IsRangeOf nat_cmp (Included low) Unbounded m r) where
  pub no_next : r ≡ [] → next_from m.entries low ≡ None
  unfolding at
  no_next none = (laws.no_next m.entries low).1 (λ q above. range.5 none q (up_to low q above, tt))

  -- nothing stands before the first of the range
  none_before : (first : ℕ × Enclave) (left : List (ℕ × Enclave)) → r ≡ first ∷ left → (q : ℕ) → low ≤ q → q < first.0 → get nat_cmp m q ≡ None
  none_before first left is q above before = by (get nat_cmp m q) refl
    where
      by : (found : Option Enclave) → get nat_cmp m q ≡ found → found ≡ None
      by None found = refl
      by (Some owner) found =
          let After : List (ℕ × Enclave) → Type 0 = λ r. IfSome (slice_get r 0) (λ e. IsUpTo e.0 q) in
          let some : IsSome (get nat_cmp m q) = rw found refl in
          absurd (omega (arith, up_to_is first.0 q (subst After is (range.2 q (up_to low q above, tt) some))))

  pub next : (first : ℕ × Enclave) (left : List (ℕ × Enclave)) → r ≡ first ∷ left → IsAscending m.entries → next_from m.entries low ≡ Some first.0
  unfolding at
  next first left is ascends =
      let Here : List (ℕ × Enclave) → Type 0 = λ r. IfSome (slice_get r 0) (λ e. (IsUpTo low e.0 × ⊤) × (get nat_cmp m e.0 ≡ Some e.1)) in
      let here = subst Here is range.1 in
      (laws.next m.entries low first.0 ascends).1 (record {
        from = up_to_is low first.0 here.0.0;
        here = rw here.1 refl;
        none = none_before first left is;
      })

and_false : (b : Bool) → (b && false) ≡ false
and_false true = refl
and_false false = refl

less_first : (row : ℕ × Enclave) (rows : List (ℕ × Enclave)) → less (row ∷ rows) row.0 ≡ rows
unfolding less
less_first row rows = rw (unsigned_tied row.0 row.0 ∙ eq-eqb row.0 row.0 refl) refl

module _ (laws : RowLaws Enclave) (owner : Enclave) where
  -- the rows behind the first one
  rest_at : (row : ℕ × Enclave) (rows : List (ℕ × Enclave)) (q : ℕ) → IsAscending (row ∷ rows)
      → at rows q ≡ (if row.0 == q then None else at (row ∷ rows) q)
  rest_at row rows q ascends = ap (λ table. at table q) (sym (less_first row rows)) ∙ laws.less_at (row ∷ rows) row.0 q ascends

  rest_ascends : (row : ℕ × Enclave) (rows : List (ℕ × Enclave)) → IsAscending (row ∷ rows) → IsAscending rows
  rest_ascends row rows ascends =
      let Ascends : List (ℕ × Enclave) → Type 0 = λ table. IsAscending table in
      subst Ascends (less_first row rows) (laws.less_ascends (row ∷ rows) row.0 ascends)

  -- whether a segid is one of the owner behind the first row
  rest_has : (row : ℕ × Enclave) (rows : List (ℕ × Enclave)) (q : ℕ) → IsAscending (row ∷ rows)
      → is_owned_by owner (at rows q) ≡ (not (row.0 == q) && is_owned_by owner (at (row ∷ rows) q))
  rest_has row rows q ascends = ap (is_owned_by owner) (rest_at row rows q ascends) ∙ by (row.0 == q) (at (row ∷ rows) q)
    where
      by : (b : Bool) (found : Option Enclave) → is_owned_by owner (if b then None else found) ≡ (not b && is_owned_by owner found)
      by true found = refl
      by false found = refl

  first_has : (row : ℕ × Enclave) (rows : List (ℕ × Enclave)) → is_owned_by owner (at (row ∷ rows) row.0) ≡ (row.1.0 == owner.0)
  first_has row rows = ap (is_owned_by owner) (laws.head row rows)

  abbrev first_of : List (ℕ × Enclave) → Option ℕ
  first_of rows = option_map (λ row. row.0) (find (λ row. row.1.0 == owner.0) rows)

  none_found : (rows : List (ℕ × Enclave)) → IsAscending rows → ((q : ℕ) → is_owned_by owner (at rows q) ≡ false) → first_of rows ≡ None
  none_found [] ascends none = refl
  none_found (row ∷ rows) ascends none =
      let other : (row.1.0 == owner.0) ≡ false = sym (first_has row rows) ∙ none row.0 in
      let rest = none_found rows (rest_ascends row rows ascends) (λ q. rest_has row rows q ascends ∙ ap (λ b. not (row.0 == q) && b) (none q) ∙ and_false (not (row.0 == q))) in
      rw other rest

  found_first : (rows : List (ℕ × Enclave)) (k : ℕ) → IsAscending rows → is_owned_by owner (at rows k) ≡ true
      → ((q : ℕ) → q < k → is_owned_by owner (at rows q) ≡ false) → first_of rows ≡ Some k
  found_first [] k ascends here none = absurd (true≢false (sym here ∙ ap (is_owned_by owner) (laws.none k)))
  found_first (row ∷ rows) k ascends here none = elim (cases_order row.0 k) [
    | inl same ↦
        let its : (row.1.0 == owner.0) ≡ true = sym (first_has row rows) ∙ ap (λ q. is_owned_by owner (at (row ∷ rows) q)) same ∙ here in
        rw its (ap Some same)
    | inr (inl before) ↦
        let other : (row.1.0 == owner.0) ≡ false = sym (first_has row rows) ∙ none row.0 before in
        let apart : (row.0 == k) ≡ false = ne_eqb row.0 k (λ e. omega arith) in
        let there : is_owned_by owner (at rows k) ≡ true = rest_has row rows k ascends ∙ rw apart here in
        let left : (q : ℕ) → q < k → is_owned_by owner (at rows q) ≡ false = λ q below. rest_has row rows q ascends ∙ ap (λ b. not (row.0 == q) && b) (none q below) ∙ and_false (not (row.0 == q)) in
        rw other (found_first rows k (rest_ascends row rows ascends) there left)
    | inr (inr after) ↦ absurd (true≢false (sym here ∙ ap (is_owned_by owner) (laws.before row rows k ascends after)))
  ]

  module _ (s : NamesState) (keys : List (ℕ × ℕ)) (kept : AreKept s keys) where
    pub no_lowest : ((k : ℕ) → k < 2 ^ 64 → is_indexed keys owner.0 k ≡ false) → lowest_name s owner ≡ None
    no_lowest none = none_found s.pairs kept.names.ascending (λ q. elim (cases_lt q (2 ^ 64)) [
      | inl below ↦ sym (kept.indexed owner q) ∙ none q below
      | inr past ↦ by (at s.pairs q) q refl past
    ])
      where
        by : (found : Option Enclave) (q : ℕ) → at s.pairs q ≡ found → 2 ^ 64 ≤ q → is_owned_by owner found ≡ false
        by None q is past = refl
        by (Some of) q is past = absurd (omega (arith, kept.most, (kept.names.drawn q (rw is refl)).1))

    pub lowest : (k : ℕ) → IsLeastOf keys owner.0 k → lowest_name s owner ≡ Some k
    lowest k least = found_first s.pairs k kept.names.ascending (sym (kept.indexed owner k) ∙ least.here) (λ q below. sym (kept.indexed owner q) ∙ least.none q below)
