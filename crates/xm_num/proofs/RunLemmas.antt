-- Tables as rows: changes of several numbers, and the first number of a range that has a row.
use Rattle.std.proofs.Common.{◌≡◌, ◌↔◌, ◌+◌, ◌-◌, ◌<◌, ◌≤◌, ℕ, zero, suc, Bool, true, false, cond, ◌&&◌, List, [], ◌∷◌, ◌++◌, length, Option, None, Some, refl, sym, ap, ◌∙◌, inl, inr, arith, eq-eqb, ne_eqb, lt-ltb}
use Rattle.std.specs.Prelude.{◌==◌, nat_le, nat_lt, IsSome, slice_get, if◌then◌else◌}
use Rattle.std.specs.Cmp.{unsigned_tied}
use Rattle.std.specs.Ordering.{nat_cmp}
use Rattle.std.specs.BTreeMap.{is_at}
use Rattle.std.specs.Map.{lookup_key, keys_of}
use Rattle.std.proofs.lemmas.Bool.{cases_order, cases_eq, leb-true, ltb-true, and_parts, and_from, le-leb, lt-leb}
use Rattle.std.proofs.lemmas.Bool.Decides.{nat_tests}
use Rattle.std.proofs.lemmas.Cmp.{nat_cmp_total}
use Rattle.std.proofs.lemmas.Map.{lookup-none}
use Rattle.std.proofs.lemmas.Map.Entries.{none_below_head}
use Rattle.std.proofs.lemmas.Map.Keys.{sorted_tail}
use Rattle.xm_num.specs.Rows.{at, put, less, put_all, less_all, lowest_in, next_from, IsAscending, IsLowestFrom}
use Rattle.xm_num.proofs.RowLemmas.{at_put, at_less, put_ascends, less_ascends, same_rows}

-- a number is among n + 1 from k on where it is k or among n after it
among_more : {A : Type 0} (k q n : ℕ) (here more other : A)
    → (if nat_le (k + 1) q && nat_lt q (k + 1 + n) then more else (if k == q then here else other)) ≡ (if nat_le k q && nat_lt q (k + suc n) then (if k == q then here else more) else other)
among_more k q n here more other = elim (cases_order k q) [
  | inl same ↦
      let later : nat_le (k + 1) q ≡ false = lt-leb (k + 1) q (omega arith) in
      let low : nat_le k q ≡ true = le-leb k q (omega arith) in
      let high : nat_lt q (k + suc n) ≡ true = lt-ltb q (k + suc n) (omega arith) in
      rw (later, low, high, eq-eqb k q same) refl
  | inr (inl after) ↦
      let later : nat_le (k + 1) q ≡ true = le-leb (k + 1) q (omega arith) in
      let low : nat_le k q ≡ true = le-leb k q (omega arith) in
      let high : nat_lt q (k + 1 + n) ≡ nat_lt q (k + suc n) = grind (arith, nat_tests) in
      rw (later, low, high, ne_eqb k q (λ e. omega arith)) refl
  | inr (inr before) ↦
      let later : nat_le (k + 1) q ≡ false = lt-leb (k + 1) q (omega arith) in
      let low : nat_le k q ≡ false = lt-leb k q (omega arith) in
      rw (later, low, ne_eqb k q (λ e. omega arith)) refl
]

none_among : (k q : ℕ) → (nat_le k q && nat_lt q (k + 0)) ≡ false
none_among k q = grind (arith, nat_tests)

abbrev between : ℕ → ℕ → ℕ → Bool
between low high q = nat_le low q && nat_lt q high

is_between : (low high q : ℕ) → between low high q ≡ true → (low ≤ q) × (q < high)
is_between low high q pass = let parts = and_parts (nat_le low q) (nat_lt q high) pass in (leb-true low q parts.0, ltb-true q high parts.1)

between_is : (low high q : ℕ) → low ≤ q → q < high → between low high q ≡ true
between_is low high q above below = and_from (nat_le low q) (nat_lt q high) (le-leb low q above) (lt-ltb q high below)

module _ {V : Type 0} where
  pub at_head : (row : ℕ × V) (rows : List (ℕ × V)) → at (row ∷ rows) row.0 ≡ Some row.1
  unfolding at
  at_head row rows = rw (unsigned_tied row.0 row.0 ∙ eq-eqb row.0 row.0 refl) refl

  pub at_later : (row : ℕ × V) (rows : List (ℕ × V)) (q : ℕ) → (q ≡ row.0 → ⊥) → at (row ∷ rows) q ≡ at rows q
  unfolding at
  at_later row rows q other = rw (unsigned_tied q row.0 ∙ ne_eqb q row.0 other) refl

  pub at_before : (row : ℕ × V) (rows : List (ℕ × V)) (q : ℕ) → IsAscending (row ∷ rows) → q < row.0 → at (row ∷ rows) q ≡ None
  unfolding at
  at_before row rows q ascends before = lookup-none (is_at (nat_cmp q)) (row ∷ rows) (none_below_head nat_cmp_total q row rows ascends (rw (lt-ltb q row.0 before) refl))

  pub at_none : (q : ℕ) → at {V = V} [] q ≡ None
  unfolding at
  at_none q = refl

  pub put_all_ascends : (rows : List (ℕ × V)) (k : ℕ) (vs : List V) → IsAscending rows → IsAscending (put_all rows k vs)
  put_all_ascends rows k [] ascends = ascends
  put_all_ascends rows k (v ∷ vs) ascends = put_all_ascends (put rows k v) (k + 1) vs (put_ascends rows k v ascends)

  pub less_all_ascends : (rows : List (ℕ × V)) (k n : ℕ) → IsAscending rows → IsAscending (less_all rows k n)
  less_all_ascends rows k zero ascends = ascends
  less_all_ascends rows k (suc n) ascends = less_all_ascends (less rows k) (k + 1) n (less_ascends rows k ascends)

  pub at_put_all : (rows : List (ℕ × V)) (k q : ℕ) (vs : List V) → at (put_all rows k vs) q ≡ (if nat_le k q && nat_lt q (k + length vs) then slice_get vs (q - k) else at rows q)
  at_put_all rows k q [] = rw (none_among k q) refl
  at_put_all rows k q (v ∷ vs) =
      at_put_all (put rows k v) (k + 1) q vs ∙ rw (at_put rows k q v) (among_more k q (length vs) (Some v) (slice_get vs (q - (k + 1))) (at rows q))
      ∙ place (nat_le k q && nat_lt q (k + suc (length vs))) refl
    where
      place : (b : Bool) → (nat_le k q && nat_lt q (k + suc (length vs))) ≡ b
          → (if b then (if k == q then Some v else slice_get vs (q - (k + 1))) else at rows q) ≡ (if b then slice_get (v ∷ vs) (q - k) else at rows q)
      place false outside = refl
      place true within = elim (cases_eq k q) [
        | inl same ↦ let first : q - k ≡ 0 = omega arith in rw (eq-eqb k q same, first) refl
        | inr other ↦
            let low : k ≤ q = leb-true k q (and_parts _ _ within).0 in
            let next : q - k ≡ suc (q - (k + 1)) = omega arith in
            rw (ne_eqb k q other, next) refl
      ]

  pub at_less_all : (rows : List (ℕ × V)) (k n q : ℕ) → IsAscending rows → at (less_all rows k n) q ≡ (if nat_le k q && nat_lt q (k + n) then None else at rows q)
  at_less_all rows k zero q ascends = rw (none_among k q) refl
  at_less_all rows k (suc n) q ascends =
      at_less_all (less rows k) (k + 1) n q (less_ascends rows k ascends) ∙ rw (at_less rows k q ascends) (among_more k q n None None (at rows q))
      ∙ alike (nat_le k q && nat_lt q (k + suc n)) (k == q)
    where
      alike : (b same : Bool) → (if b then (if same then None else None) else at rows q) ≡ (if b then None else at rows q)
      alike true true = refl
      alike true false = refl
      alike false same = refl

  -- a number that passes a test and has a row, and before which no number does both
  record IsFirst (p : ℕ → Bool) (rows : List (ℕ × V)) (k : ℕ) : Type 0 where
    passes : p k ≡ true
    here : IsSome (at rows k)
    none : (q : ℕ) → q < k → p q ≡ true → at rows q ≡ None

  first_is : (p : ℕ → Bool) (rows : List (ℕ × V)) (k : ℕ) → IsAscending rows → lookup_key p rows ≡ Some k → IsFirst p rows k
  first_is p [] k ascends is = cc
  first_is p (row ∷ rows) k ascends is = by (p row.0) refl (first_is p rows k (sorted_tail nat_cmp row.0 (keys_of rows) ascends)) is
    where
      by : (b : Bool) → p row.0 ≡ b → (lookup_key p rows ≡ Some k → IsFirst p rows k) → cond b (Some row.0) (lookup_key p rows) ≡ Some k → IsFirst p (row ∷ rows) k
      by true passes more is =
          let same : row.0 ≡ k = cc in
          record { passes = ap p (sym same) ∙ passes; here = rw (← same, at_head row rows) refl; none = λ q before pass. at_before row rows q ascends (omega arith) }
      by false fails more is =
          let found = more is in
          let other : (q : ℕ) → p q ≡ true → q ≡ row.0 → ⊥ = λ q pass e. let bad : true ≡ false = sym pass ∙ ap p e ∙ fails in (cc) in
          record {
            passes = found.passes;
            here = rw (at_later row rows k (other k found.passes)) found.here;
            none = λ q before pass. at_later row rows q (other q pass) ∙ found.none q before pass;
          }

  none_is : (p : ℕ → Bool) (rows : List (ℕ × V)) → lookup_key p rows ≡ None → (q : ℕ) → p q ≡ true → at rows q ≡ None
  none_is p [] is q pass = at_none q
  none_is p (row ∷ rows) is q pass = by (p row.0) refl (λ none. none_is p rows none q pass) is
    where
      by : (b : Bool) → p row.0 ≡ b → (lookup_key p rows ≡ None → at rows q ≡ None) → cond b (Some row.0) (lookup_key p rows) ≡ None → at (row ∷ rows) q ≡ None
      by true found more is = cc
      by false fails more is = at_later row rows q (λ e. let bad : true ≡ false = sym pass ∙ ap p e ∙ fails in (cc)) ∙ more is

  is_first : (p : ℕ → Bool) (rows : List (ℕ × V)) (k : ℕ) → IsAscending rows → IsFirst p rows k → lookup_key p rows ≡ Some k
  is_first p rows k ascends first = by (lookup_key p rows) refl
    where
      clash : (q : ℕ) → at rows q ≡ None → IsSome (at rows q) → ⊥
      clash q none some = let bad : IsSome {T = V} None = rw none at some in cc

      by : (o : Option ℕ) → lookup_key p rows ≡ o → o ≡ Some k
      by None is = absurd (clash k (none_is p rows is k first.passes) first.here)
      by (Some j) is =
          let found = first_is p rows j ascends is in
          elim (cases_order j k) [
            | inl same ↦ ap Some same
            | inr (inl before) ↦ absurd (clash j (first.none j before found.passes) found.here)
            | inr (inr after) ↦ absurd (clash k (found.none k after first.passes) first.here)
          ]

  is_none : (p : ℕ → Bool) (rows : List (ℕ × V)) → ((q : ℕ) → p q ≡ true → at rows q ≡ None) → lookup_key p rows ≡ None
  is_none p [] none = refl
  is_none p (row ∷ rows) none = by (p row.0) refl (is_none p rows)
    where
      by : (b : Bool) → p row.0 ≡ b → (((q : ℕ) → p q ≡ true → at rows q ≡ None) → lookup_key p rows ≡ None) → cond b (Some row.0) (lookup_key p rows) ≡ None
      by true pass more = let bad : Some row.1 ≡ None = sym (at_head row rows) ∙ none row.0 pass in cc
      by false fails more = more (λ q pass. sym (at_later row rows q (λ e. let bad : true ≡ false = sym pass ∙ ap p e ∙ fails in (cc))) ∙ none q pass)

  pub lowest_is : (rows : List (ℕ × V)) (low high k : ℕ) → IsAscending rows → (lowest_in rows low high ≡ Some k) ↔ (IsLowestFrom rows low k × (k < high))
  unfolding lowest_in
  lowest_is rows low high k ascends = (to, from)
    where
      to : lookup_key (between low high) rows ≡ Some k → IsLowestFrom rows low k × (k < high)
      to is =
          let found = first_is (between low high) rows k ascends is in
          let within = is_between low high k found.passes in
          (record { from = within.0; here = found.here; none = λ q above before. found.none q before (between_is low high q above (omega arith)) }, within.1)

      from : IsLowestFrom rows low k × (k < high) → lookup_key (between low high) rows ≡ Some k
      from h =
          is_first (between low high) rows k ascends (record {
            passes = between_is low high k h.0.from h.1;
            here = h.0.here;
            none = λ q before pass. h.0.none q (is_between low high q pass).0 before;
          })

  pub no_lowest_is : (rows : List (ℕ × V)) (low high : ℕ) → (lowest_in rows low high ≡ None) ↔ ((q : ℕ) → low ≤ q → q < high → at rows q ≡ None)
  unfolding lowest_in
  no_lowest_is rows low high = (
    λ is q above below. none_is (between low high) rows is q (between_is low high q above below),
    λ none. is_none (between low high) rows (λ q pass. let within = is_between low high q pass in none q within.0 within.1),
  )

  pub next_is : (rows : List (ℕ × V)) (low k : ℕ) → IsAscending rows → (next_from rows low ≡ Some k) ↔ IsLowestFrom rows low k
  unfolding next_from
  next_is rows low k ascends = (to, from)
    where
      to : lookup_key (nat_le low) rows ≡ Some k → IsLowestFrom rows low k
      to is =
          let found = first_is (nat_le low) rows k ascends is in
          record { from = leb-true low k found.passes; here = found.here; none = λ q above before. found.none q before (le-leb low q above) }

      from : IsLowestFrom rows low k → lookup_key (nat_le low) rows ≡ Some k
      from h =
          is_first (nat_le low) rows k ascends (record { passes = le-leb low k h.from; here = h.here; none = λ q before pass. h.none q (leb-true low q pass) before })

  pub no_next_is : (rows : List (ℕ × V)) (low : ℕ) → (next_from rows low ≡ None) ↔ ((q : ℕ) → low ≤ q → at rows q ≡ None)
  unfolding next_from
  no_next_is rows low = (
    λ is q above. none_is (nat_le low) rows is q (le-leb low q above),
    λ none. is_none (nat_le low) rows (λ q pass. none q (leb-true low q pass)),
  )

  -- a run that was put where no row was, and is taken away again
  pub taken_back : (rows : List (ℕ × V)) (k : ℕ) (vs : List V) → IsAscending rows → lowest_in rows k (k + length vs) ≡ None → less_all (put_all rows k vs) k (length vs) ≡ rows
  taken_back rows k vs ascends free =
      same_rows (less_all (put_all rows k vs) k (length vs)) rows (less_all_ascends (put_all rows k vs) k (length vs) (put_all_ascends rows k vs ascends)) ascends
      (λ q. at_less_all (put_all rows k vs) k (length vs) q (put_all_ascends rows k vs ascends) ∙ rw (at_put_all rows k q vs) (by q (between k (k + length vs) q) refl))
    where
      by : (q : ℕ) (b : Bool) → between k (k + length vs) q ≡ b → (if b then None else (if b then slice_get vs (q - k) else at rows q)) ≡ at rows q
      by q true within = let reach = is_between k (k + length vs) q within in sym ((no_lowest_is rows k (k + length vs)).0 free q reach.0 reach.1)
      by q false outside = refl

  pub put_all-push : (rows : List (ℕ × V)) (k : ℕ) (vs : List V) (v : V) → put_all rows k (vs ++ v ∷ []) ≡ put (put_all rows k vs) (k + length vs) v
  put_all-push rows k [] v = let here : k + 0 ≡ k = omega arith in rw here refl
  put_all-push rows k (w ∷ vs) v = let here : k + suc (length vs) ≡ k + 1 + length vs = omega arith in rw here (put_all-push (put rows k w) (k + 1) vs v)
