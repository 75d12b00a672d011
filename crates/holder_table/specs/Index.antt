-- How rows are found by their segids.
use Rattle.std.specs.Prelude.{◌≡◌, ◌≤◌, ℕ, ℤ, List, Bool, true, false, Option, None, Some}
use Rattle.std.specs.List.{list_any}
use Rattle.std.specs.declared.cmp.Ordering.{Ordering}
use Rattle.std.specs.Ordering.{int_cmp, ordering_then}
use Rattle.std.specs.BTreeMap.{is_at}
use Rattle.xm_num.specs.declared.Segid.{Segid}
use Rattle.holder_table.specs.declared.Held.{Held}
use Rattle.holder_table.specs.Holding.{Holding, name_order, held, is_of, IsAscending}

-- segids come in order, and the names of each one too
abbrev pub key_order : Segid × (ℕ × ℕ) → Segid × (ℕ × ℕ) → Ordering
key_order a b = ordering_then (int_cmp a.0.0 b.0.0) (name_order a.1 b.1)

-- the name stands at the segid
abbrev pub is_indexed : List (Segid × (ℕ × ℕ)) → Segid → ℕ → ℕ → Bool
is_indexed keys segid to call = list_any (is_at (key_order (segid, (to, call)))) keys

-- something is held, of the segid
abbrev pub is_held_of : {V : Type 0} → ℤ → Option (Held V) → Bool
is_held_of segid None = false
is_held_of segid (Some h) = is_of segid h

-- of the enclaves from `low` on it is the least that has a name at the segid
pub record IsNextIndexed (keys : List (Segid × (ℕ × ℕ))) (segid : Segid) (low to : ℕ) : Type 0 where
  pub from : low ≤ to
  pub here : (call : ℕ) × (is_indexed keys segid to call ≡ true)
  pub least : (e c : ℕ) → low ≤ e → is_indexed keys segid e c ≡ true → to ≤ e

-- the names ascend, and each stands in the index at the segid of its row and nowhere else
pub record AreKept {V : Type 0} (rows : Holding V) (keys : List (Segid × (ℕ × ℕ))) : Type 0 where
  pub ascending : IsAscending rows
  pub indexed : (segid : Segid) (to call : ℕ) → is_indexed keys segid to call ≡ is_held_of segid.0 (held rows to call)
