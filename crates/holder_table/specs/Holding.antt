-- What is held of an exporter's segments: rows by their names, which ascend. A name is an enclave and a number of its calls.
use Rattle.std.specs.Prelude.{◌≡◌, ◌≤◌, ◌==◌, ◌&&◌, ℕ, ℤ, List, Bool, true, not, Option, Some, IsSome}
use Rattle.std.specs.List.{list_any, filter}
use Rattle.std.specs.List.Sorted.{IsStrictlySortedBy}
use Rattle.std.specs.declared.cmp.Ordering.{Ordering}
use Rattle.std.specs.Ordering.{nat_cmp, int_eq, ordering_then}
use Rattle.std.specs.BTreeMap.{insert_entry, is_at}
use Rattle.std.specs.BTreeMap.Range.{IsLeBy}
use Rattle.std.specs.Map.{lookup, remove_entry, keys_of}
use Rattle.holder_table.specs.declared.Held.{Held}

-- who holds what: an enclave and its call, and what it holds by that call
abbrev pub Holding : Type 0 → Type 0
Holding V = List ((ℕ × ℕ) × Held V)

-- names come by their enclaves, and those of one enclave by its calls
abbrev pub name_order : ℕ × ℕ → ℕ × ℕ → Ordering
name_order a b = ordering_then (nat_cmp a.0 b.0) (nat_cmp a.1 b.1)

-- the names ascend, and none has two rows
abbrev pub IsAscending : {V : Type 0} → Holding V → Type 0
IsAscending rows = IsStrictlySortedBy name_order (keys_of rows)

-- what the enclave holds by the call
unfoldable pub held : {V : Type 0} → Holding V → ℕ → ℕ → Option (Held V)
held rows to call = lookup (is_at (name_order (to, call))) rows

-- the rows where the enclave holds this by the call
unfoldable pub with_held : {V : Type 0} → Holding V → ℕ → ℕ → Held V → Holding V
with_held rows to call h = insert_entry name_order rows (to, call) h

-- the rows where the enclave holds nothing by the call
unfoldable pub without_held : {V : Type 0} → Holding V → ℕ → ℕ → Holding V
without_held rows to call = remove_entry (is_at (name_order (to, call))) rows

-- the rows of other enclaves
unfoldable pub without_enclave : {V : Type 0} → Holding V → ℕ → Holding V
without_enclave rows gone = filter (λ row. not (row.0.0 == gone)) rows

-- it is of the segid
abbrev pub is_of : {V : Type 0} → ℤ → Held V → Bool
is_of segid h = int_eq h.segid.0 segid

-- some row names the segid
unfoldable pub is_named : {V : Type 0} → Holding V → ℤ → Bool
is_named rows segid = list_any (λ row. is_of segid row.1) rows

-- some row of the enclave names the segid
unfoldable pub is_holder : {V : Type 0} → Holding V → ℤ → ℕ → Bool
is_holder rows segid to = list_any (λ row. (row.0.0 == to) && is_of segid row.1) rows

-- of the enclaves from `low` on it is the least that has a row of the segid
pub record IsNextHolder {V : Type 0} (rows : Holding V) (segid : ℤ) (low to : ℕ) : Type 0 where
  pub from : low ≤ to
  pub here : is_holder rows segid to ≡ true
  pub least : (e : ℕ) → low ≤ e → is_holder rows segid e ≡ true → to ≤ e

-- it is the least call by which the enclave holds something
pub record IsLeastCall {V : Type 0} (rows : Holding V) (to call : ℕ) : Type 0 where
  pub here : IsSome (held rows to call)
  pub least : (c : ℕ) → IsSome (held rows to c) → call ≤ c

-- of the rows from the name `low` on it is the least
pub record IsNextRow {V : Type 0} (rows : Holding V) (low name : ℕ × ℕ) (h : Held V) : Type 0 where
  pub from : IsLeBy name_order low name
  pub here : held rows name.0 name.1 ≡ Some h
  pub least : (e c : ℕ) → IsLeBy name_order low (e, c) → IsSome (held rows e c) → IsLeBy name_order name (e, c)
