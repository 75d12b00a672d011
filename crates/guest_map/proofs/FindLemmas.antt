-- The first row that passes a test, and the rows that don't.
use Rattle.std.proofs.Common.{◌≡◌, ◌<◌, ℕ, Bool, true, false, cond, not, List, [], ◌∷◌, length, filter, None, Some, refl, sym, ap, ◌∙◌, inl, inr, arith}
use Rattle.std.specs.Prelude.{find}
use Rattle.std.specs.BTreeMap.{is_at}
use Rattle.std.specs.List.{AllByRecursion}
use Rattle.std.specs.List.Sorted.{IsStrictlySortedBy}
use Rattle.std.specs.Map.{lookup, remove_entry, keys_of}
use Rattle.std.specs.Ordering.{nat_cmp}
use Rattle.std.specs.declared.cmp.Ordering.TheVariants.{Less}
use Rattle.std.proofs.lemmas.Bool.{cases_eq}
use Rattle.std.proofs.lemmas.Cmp.{nat_cmp_total, eq_by_cmp_equiv, tied_itself}
use Rattle.std.proofs.lemmas.Map.{lookup-none}
use Rattle.std.proofs.lemmas.Map.Keys.{IsDistinct-from_sorted, sorted_tail}
use Rattle.std.proofs.lemmas.Map.Entries.{none_past_head, lookup-filter-values, option_filter}
use Rattle.xm_num.specs.Rows.{at, less, IsAscending}
use Rattle.xm_num.specs.RowLaws.{RowLaws}

-- the row is the first that passes
pub record IsFirst {V : Type 0} (test : V → Bool) (rows : List (ℕ × V)) (k : ℕ) (v : V) : Type 0 where
  pub here : at rows k ≡ Some v
  pub passes : test v ≡ true
  pub before : (b : ℕ) (u : V) → b < k → at rows b ≡ Some u → test u ≡ false
  pub found : find (λ row. test row.1) rows ≡ Some (k, v)

-- no row passes
pub record IsMissing {V : Type 0} (test : V → Bool) (rows : List (ℕ × V)) : Type 0 where
  pub none : (k : ℕ) (v : V) → at rows k ≡ Some v → test v ≡ false
  pub found : find (λ row. test row.1) rows ≡ None

pub data Search {V : Type 0} (test : V → Bool) (rows : List (ℕ × V)) : Type 0 where
  First : (k : ℕ) (v : V) → IsFirst test rows k v → Search test rows
  Missing : IsMissing test rows → Search test rows

module _ {V : Type 0} (laws : RowLaws V) where
  -- the number of the first row stands in no later one
  past_first : (row : ℕ × V) (rows : List (ℕ × V)) → IsAscending (row ∷ rows) → at rows row.0 ≡ None
  unfolding at
  past_first row rows ascends =
      lookup-none (is_at (nat_cmp row.0)) rows (none_past_head (eq_by_cmp_equiv nat_cmp_total) row.0 row rows (IsDistinct-from_sorted nat_cmp (keys_of (row ∷ rows)) ascends) (rw (tied_itself nat_cmp_total row.0) refl))

  behind : (row : ℕ × V) (rows : List (ℕ × V)) → IsAscending (row ∷ rows) → (k : ℕ) (v : V) → at rows k ≡ Some v → at (row ∷ rows) k ≡ Some v
  behind row rows ascends k v there = elim (cases_eq k row.0) [
    | inl same ↦ absurd (let bad : None ≡ Some v = sym (past_first row rows ascends) ∙ ap (at rows) (sym same) ∙ there in (cc))
    | inr other ↦ laws.later row rows k other ∙ there
  ]

  module _ (test : V → Bool) where
    -- a row fails where the first one does and those behind it
    fails_too : (row : ℕ × V) (rows : List (ℕ × V)) → test row.1 ≡ false → (k : ℕ) (v : V) → (at rows k ≡ Some v → test v ≡ false) → at (row ∷ rows) k ≡ Some v → test v ≡ false
    fails_too row rows fails k v more there = elim (cases_eq k row.0) [
      | inl same ↦
          let both : Some row.1 ≡ Some v = sym (laws.head row rows) ∙ ap (at (row ∷ rows)) (sym same) ∙ there in
          let value : row.1 ≡ v = cc in
          rw (← value) fails
      | inr other ↦ more (sym (laws.later row rows k other) ∙ there)
    ]

    pub search_rows : (rows : List (ℕ × V)) → IsAscending rows → Search test rows
    search_rows [] ascends = Missing (record { none = λ k v there. absurd (let bad : None ≡ Some v = sym (laws.none k) ∙ there in (cc)); found = refl })
    search_rows (row ∷ rows) ascends = by (test row.1) refl (search_rows rows (sorted_tail nat_cmp row.0 (keys_of rows) ascends))
      where
        past : test row.1 ≡ false → Search test rows → Search test (row ∷ rows)
        past fails (First k v first) = First k v (record {
          here = behind row rows ascends k v first.here;
          passes = first.passes;
          before = λ b u less. fails_too row rows fails b u (first.before b u less);
          found = rw (fails, first.found) refl;
        })
        past fails (Missing missing) = Missing (record {
          none = λ k v. fails_too row rows fails k v (missing.none k v);
          found = rw (fails, missing.found) refl;
        })

        by : (b : Bool) → test row.1 ≡ b → Search test rows → Search test (row ∷ rows)
        by true passes more = First row.0 row.1 (record {
          here = laws.head row rows;
          passes = passes;
          before = λ b u less there. absurd (let bad : None ≡ Some u = sym (laws.before row rows b ascends less) ∙ there in (cc));
          found = rw passes refl;
        })
        by false fails more = past fails more

module _ {V : Type 0} (test : V → Bool) where
  pub filter_at : (rows : List (ℕ × V)) (k : ℕ) → IsAscending rows → at (filter (λ row. test row.1) rows) k ≡ option_filter test (at rows k)
  unfolding at
  filter_at rows k ascends = lookup-filter-values (eq_by_cmp_equiv nat_cmp_total) test k rows (IsDistinct-from_sorted nat_cmp (keys_of rows) ascends)

  all_filtered : (P : ℕ → Type 0) (rows : List (ℕ × V)) → AllByRecursion P (keys_of rows) → AllByRecursion P (keys_of (filter (λ row. test row.1) rows))
  all_filtered P [] all = tt
  all_filtered P (row ∷ rows) all = by (test row.1) (all_filtered P rows all.1)
    where
      by : (b : Bool) → AllByRecursion P (keys_of (filter (λ row. test row.1) rows)) → AllByRecursion P (keys_of (cond b (row ∷ filter (λ row. test row.1) rows) (filter (λ row. test row.1) rows)))
      by true more = (all.0, more)
      by false more = more

  pub filter_ascends : (rows : List (ℕ × V)) → IsAscending rows → IsAscending (filter (λ row. test row.1) rows)
  unfolding IsStrictlySortedBy
  filter_ascends [] ascends = tt
  filter_ascends (row ∷ rows) ascends = by (test row.1) (filter_ascends rows ascends.1)
    where
      by : (b : Bool) → IsAscending (filter (λ row. test row.1) rows) → IsAscending (cond b (row ∷ filter (λ row. test row.1) rows) (filter (λ row. test row.1) rows))
      by true more = (all_filtered (λ y. nat_cmp row.0 y ≡ Less) rows ascends.0, more)
      by false more = more

  abbrev rest : List (ℕ × V) → List (ℕ × V)
  rest rows = filter (λ row. not (test row.1)) rows

  rest_removed : (key : ℕ → Bool) (rows : List (ℕ × V)) (v : V) → lookup key rows ≡ Some v → test v ≡ true → rest (remove_entry key rows) ≡ rest rows
  rest_removed key [] v there passes = cc
  rest_removed key (row ∷ rows) v there passes = by (key row.0) there (rest_removed key rows v)
    where
      by : (b : Bool) → cond b (Some row.1) (lookup key rows) ≡ Some v → (lookup key rows ≡ Some v → test v ≡ true → rest (remove_entry key rows) ≡ rest rows) → rest (cond b rows (row ∷ remove_entry key rows)) ≡ rest (row ∷ rows)
      by true there more = let same : row.1 ≡ v = cc in rw (same, passes) refl
      by false there more = rw (more there passes) refl

  -- the rows that don't pass are left where one that passes is taken out
  pub rest_less : (rows : List (ℕ × V)) (k : ℕ) (v : V) → at rows k ≡ Some v → test v ≡ true → rest (less rows k) ≡ rest rows
  unfolding at less
  rest_less rows k v there passes = rest_removed (is_at (nat_cmp k)) rows v there passes

  pub rest_all : (rows : List (ℕ × V)) → find (λ row. test row.1) rows ≡ None → rest rows ≡ rows
  rest_all [] none = refl
  rest_all (row ∷ rows) none = by (test row.1) none (rest_all rows)
    where
      by : (b : Bool) → cond b (Some row) (find (λ row. test row.1) rows) ≡ None → (find (λ row. test row.1) rows ≡ None → rest rows ≡ rows) → cond (not b) (row ∷ rest rows) (rest rows) ≡ row ∷ rows
      by true none more = let bad : Some row ≡ None = none in cc
      by false none more = rw (more none) refl

module _ {V : Type 0} where
  shorter : (key : ℕ → Bool) (rows : List (ℕ × V)) (v : V) → lookup key rows ≡ Some v → length (remove_entry key rows) < length rows
  shorter key [] v there = cc
  shorter key (row ∷ rows) v there = by (key row.0) there (shorter key rows v)
    where
      by : (b : Bool) → cond b (Some row.1) (lookup key rows) ≡ Some v → (lookup key rows ≡ Some v → length (remove_entry key rows) < length rows) → length (cond b rows (row ∷ remove_entry key rows)) < length (row ∷ rows)
      by true there more = omega arith
      by false there more = omega (arith, more there)

  pub length_less : (rows : List (ℕ × V)) (k : ℕ) (v : V) → at rows k ≡ Some v → length (less rows k) < length rows
  unfolding at less
  length_less rows k v there = shorter (is_at (nat_cmp k)) rows v there
