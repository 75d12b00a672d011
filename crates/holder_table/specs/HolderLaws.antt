-- Laws of rows that say who holds what, for proofs that need several of them.
use Rattle.std.specs.Prelude.{◌≡◌, ◌==◌, ◌&&◌, ℕ, [], Bool, true, None, Some, if◌then◌else◌}
use Rattle.std.specs.List.{list_any}
use Rattle.holder_table.specs.declared.Held.{Held}
use Rattle.holder_table.specs.Holding.{Holding, IsAscending, held, with_held, without_held, without_enclave}

pub record HolderLaws (V : Type 0) : Type 0 where
  -- what is held where nothing is, and after a change
  pub none : (e c : ℕ) → held {V = V} [] e c ≡ None
  pub with_at : (rows : Holding V) (to call e c : ℕ) (h : Held V)
      → held (with_held rows to call h) e c ≡ (if (to == e) && (call == c) then Some h else held rows e c)
  pub without_at : (rows : Holding V) (to call e c : ℕ) → IsAscending rows
      → held (without_held rows to call) e c ≡ (if (to == e) && (call == c) then None else held rows e c)
  pub enclave_at : (rows : Holding V) (gone e c : ℕ) → held (without_enclave rows gone) e c ≡ (if gone == e then None else held rows e c)
  -- changes keep the order, and look-ups tell ascending rows apart
  pub with_ascends : (rows : Holding V) (to call : ℕ) (h : Held V) → IsAscending rows → IsAscending (with_held rows to call h)
  pub without_ascends : (rows : Holding V) (to call : ℕ) → IsAscending rows → IsAscending (without_held rows to call)
  pub enclave_ascends : (rows : Holding V) (gone : ℕ) → IsAscending rows → IsAscending (without_enclave rows gone)
  pub same : (a b : Holding V) → IsAscending a → IsAscending b → ((e c : ℕ) → held a e c ≡ held b e c) → a ≡ b
  -- what holds of some row holds of one that is found, and the other way round
  pub found : (test : (ℕ × ℕ) × Held V → Bool) (rows : Holding V) (e c : ℕ) (h : Held V) → held rows e c ≡ Some h → test ((e, c), h) ≡ true → list_any test rows ≡ true
  pub seen : (test : (ℕ × ℕ) × Held V → Bool) (rows : Holding V) → IsAscending rows → list_any test rows ≡ true
      → (e : ℕ) × (c : ℕ) × (h : Held V) × (held rows e c ≡ Some h) × (test ((e, c), h) ≡ true)
