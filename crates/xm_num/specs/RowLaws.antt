-- Laws of tables as rows, for proofs that need several of them.
use Rattle.std.specs.Prelude.{◌≡◌, ◌+◌, ◌-◌, ◌<◌, ◌≤◌, ◌==◌, ◌&&◌, ◌↔◌, ℕ, List, [], ◌∷◌, ◌++◌, length, slice_get, nat_le, nat_lt, None, Some, if◌then◌else◌}
use Rattle.xm_num.specs.Rows.{at, put, less, put_all, less_all, lowest_in, next_from, IsAscending, IsLowestFrom}

pub record RowLaws (V : Type 0) : Type 0 where
  -- what stands at a number: in no rows, in the first row, behind it, and before it
  pub none : (k : ℕ) → at {V = V} [] k ≡ None
  pub head : (row : ℕ × V) (table : List (ℕ × V)) → at (row ∷ table) row.0 ≡ Some row.1
  pub later : (row : ℕ × V) (table : List (ℕ × V)) (k : ℕ) → (k ≡ row.0 → ⊥) → at (row ∷ table) k ≡ at table k
  pub before : (row : ℕ × V) (table : List (ℕ × V)) (k : ℕ) → IsAscending (row ∷ table) → k < row.0 → at (row ∷ table) k ≡ None
  -- after a change of one number, and of several
  pub put_at : (table : List (ℕ × V)) (k q : ℕ) (v : V) → at (put table k v) q ≡ (if k == q then Some v else at table q)
  pub less_at : (table : List (ℕ × V)) (k q : ℕ) → IsAscending table → at (less table k) q ≡ (if k == q then None else at table q)
  pub put_all_at : (table : List (ℕ × V)) (k q : ℕ) (vs : List V)
      → at (put_all table k vs) q ≡ (if nat_le k q && nat_lt q (k + length vs) then slice_get vs (q - k) else at table q)
  pub less_all_at : (table : List (ℕ × V)) (k n q : ℕ) → IsAscending table
      → at (less_all table k n) q ≡ (if nat_le k q && nat_lt q (k + n) then None else at table q)
  -- changes keep the order, and look-ups tell ascending rows apart
  pub put_ascends : (table : List (ℕ × V)) (k : ℕ) (v : V) → IsAscending table → IsAscending (put table k v)
  pub less_ascends : (table : List (ℕ × V)) (k : ℕ) → IsAscending table → IsAscending (less table k)
  pub put_all_ascends : (table : List (ℕ × V)) (k : ℕ) (vs : List V) → IsAscending table → IsAscending (put_all table k vs)
  pub same : (a b : List (ℕ × V)) → IsAscending a → IsAscending b → ((k : ℕ) → at a k ≡ at b k) → a ≡ b
  -- a run with one value more, and a run that is taken away again
  pub push : (table : List (ℕ × V)) (k : ℕ) (vs : List V) (v : V) → put_all table k (vs ++ v ∷ []) ≡ put (put_all table k vs) (k + length vs) v
  pub back : (table : List (ℕ × V)) (k : ℕ) (vs : List V) → IsAscending table → lowest_in table k (k + length vs) ≡ None
      → less_all (put_all table k vs) k (length vs) ≡ table
  -- which numbers `lowest_in` and `next_from` find
  pub no_lowest : (table : List (ℕ × V)) (low high : ℕ) → (lowest_in table low high ≡ None) ↔ ((q : ℕ) → low ≤ q → q < high → at table q ≡ None)
  pub next : (table : List (ℕ × V)) (low k : ℕ) → IsAscending table → (next_from table low ≡ Some k) ↔ IsLowestFrom table low k
  pub no_next : (table : List (ℕ × V)) (low : ℕ) → (next_from table low ≡ None) ↔ ((q : ℕ) → low ≤ q → at table q ≡ None)
