-- Tables as rows: a number and what stands at it, in ascending order of the numbers.
use Rattle.std.specs.Prelude.{◌≡◌, ◌+◌, ◌<◌, ◌≤◌, ℕ, zero, suc, List, [], ◌∷◌, Bool, ◌&&◌, nat_le, nat_lt, Option, None, IsSome}
use Rattle.std.specs.List.{list_any}
use Rattle.std.specs.List.Sorted.{IsStrictlySortedBy}
use Rattle.std.specs.Ordering.{nat_cmp}
use Rattle.std.specs.BTreeMap.{insert_entry, is_at}
use Rattle.std.specs.Map.{lookup, lookup_key, remove_entry, keys_of}

-- the numbers ascend, and none has two rows
abbrev pub IsAscending : {V : Type 0} → List (ℕ × V) → Type 0
IsAscending rows = IsStrictlySortedBy nat_cmp (keys_of rows)

-- what stands at a number
unfoldable pub at : {V : Type 0} → List (ℕ × V) → ℕ → Option V
at rows k = lookup (is_at (nat_cmp k)) rows

-- the rows with this at the number
unfoldable pub put : {V : Type 0} → List (ℕ × V) → ℕ → V → List (ℕ × V)
put rows k v = insert_entry nat_cmp rows k v

-- the rows without the number
unfoldable pub less : {V : Type 0} → List (ℕ × V) → ℕ → List (ℕ × V)
less rows k = remove_entry (is_at (nat_cmp k)) rows

-- some number from `low` on and below `high` has a row
unfoldable pub any_between : {V : Type 0} → List (ℕ × V) → ℕ → ℕ → Bool
any_between rows low high = list_any (λ row. nat_le low row.0 && nat_lt row.0 high) rows

-- the lowest number from `low` on and below `high` that has a row
unfoldable pub lowest_in : {V : Type 0} → List (ℕ × V) → ℕ → ℕ → Option ℕ
lowest_in rows low high = lookup_key (λ k. nat_le low k && nat_lt k high) rows

-- the lowest number from `low` on that has a row
unfoldable pub next_from : {V : Type 0} → List (ℕ × V) → ℕ → Option ℕ
next_from rows low = lookup_key (λ k. nat_le low k) rows

-- the rows with these at the numbers from that one on
abbrev pub put_all : {V : Type 0} → List (ℕ × V) → ℕ → List V → List (ℕ × V)
put_all rows k [] = rows
put_all rows k (v ∷ vs) = put_all (put rows k v) (k + 1) vs

-- the rows without so many numbers from that one on
abbrev pub less_all : {V : Type 0} → List (ℕ × V) → ℕ → ℕ → List (ℕ × V)
less_all rows k zero = rows
less_all rows k (suc n) = less_all (less rows k) (k + 1) n

-- the number is the lowest from `low` on that has a row
pub record IsLowestFrom {V : Type 0} (rows : List (ℕ × V)) (low k : ℕ) : Type 0 where
  pub from : low ≤ k
  pub here : IsSome (at rows k)
  pub none : (q : ℕ) → low ≤ q → q < k → at rows q ≡ None
