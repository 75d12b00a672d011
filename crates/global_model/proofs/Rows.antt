-- What holds of each value of a table.
use Rattle.std.proofs.Common.{◌≡◌, ◌+◌, ℕ, List, [], ◌∷◌, Bool, true, false, cond, All, Some, subst}
use Rattle.std.specs.Map.{values_of, lookup}
use Rattle.std.specs.Ordering.{nat_cmp}
use Rattle.std.specs.BTreeMap.{is_at}
use Rattle.std.proofs.lemmas.List.Elements.{All-head, All-tail}
use Rattle.std.proofs.lemmas.Map.Views.{All-values-insert_entry, All-map-remove_entry}
use Rattle.xm_num.specs.Rows.{at, put, less, put_all}

-- each of the values has the property
abbrev pub AllRows : {V : Type 0} → (V → Type 0) → List (ℕ × V) → Type 0
AllRows P rows = All P (values_of rows)

module _ {V : Type 0} (P : V → Type 0) where
  pub all_put : (rows : List (ℕ × V)) (k : ℕ) (v : V) → AllRows P rows → P v → AllRows P (put rows k v)
  unfolding put
  all_put rows k v all has = All-values-insert_entry nat_cmp k v P rows all has

  pub all_less : (rows : List (ℕ × V)) (k : ℕ) → AllRows P rows → AllRows P (less rows k)
  unfolding less
  all_less rows k all = All-map-remove_entry (is_at (nat_cmp k)) (λ row. row.1) P rows all

  pub all_put_all : (rows : List (ℕ × V)) (k : ℕ) (vs : List V) → AllRows P rows → All P vs → AllRows P (put_all rows k vs)
  all_put_all rows k [] all each = all
  all_put_all rows k (v ∷ vs) all each = all_put_all (put rows k v) (k + 1) vs (all_put rows k v all (All-head P v vs each)) (All-tail P v vs each)

  all_found : (test : ℕ → Bool) (rows : List (ℕ × V)) (v : V) → AllRows P rows → lookup test rows ≡ Some v → P v
  all_found test [] v all is = cc
  all_found test (row ∷ rows) v all is = by (test row.0) (all_found test rows v (All-tail P row.1 (values_of rows) all)) is
    where
      by : (b : Bool) → (lookup test rows ≡ Some v → P v) → cond b (Some row.1) (lookup test rows) ≡ Some v → P v
      by true later found = let same : row.1 ≡ v = cc in subst P same (All-head P row.1 (values_of rows) all)
      by false later found = later found

  pub all_at : (rows : List (ℕ × V)) (k : ℕ) (v : V) → AllRows P rows → at rows k ≡ Some v → P v
  unfolding at
  all_at rows k v all is = all_found (is_at (nat_cmp k)) rows v all is
