-- What a name server knows of names, and what each call changes of it.
use Rattle.std.specs.Prelude.{ℕ, ◌+◌, ◌≤◌, ◌==◌, IsSome, ℤ, pos, negsuc, Bool, false, List, [], Option, option_map, if◌then◌else◌}
use Rattle.std.specs.List.{find}
use Rattle.std.specs.Option.{option_map_or}
use Rattle.xm_num.specs.declared.Enclave.{Enclave}
use Rattle.xm_num.specs.declared.Segid.{Segid}
use Rattle.xm_num.specs.Rows.{at, put, less, IsAscending}

pub record NamesState : Type 0 where
  -- how many segids were drawn
  pub drawn : ℕ
  -- the owners of the names, by their segids, ascending
  pub pairs : List (ℕ × Enclave)

-- the segids of the names ascend, and were drawn
pub record AreNames (s : NamesState) : Type 0 where
  pub ascending : IsAscending s.pairs
  pub drawn : (segid : ℕ) → IsSome (at s.pairs segid) → (1 ≤ segid) × (segid ≤ s.drawn)

abbrev pub no_names : NamesState
no_names = record { drawn = 0; pairs = [] }

-- the next segid is drawn for the owner
abbrev pub with_name : Enclave → NamesState → NamesState
with_name owner s = record { drawn = s.drawn + 1; pairs = put s.pairs (s.drawn + 1) owner }

-- the segid is no name
abbrev pub without_name : ℕ → NamesState → NamesState
without_name segid s = record s { pairs = less s.pairs segid }

-- this is the owner that was found
abbrev pub is_owned_by : Enclave → Option Enclave → Bool
is_owned_by owner found = option_map_or (λ of. of.0 == owner.0) found false

-- the segid names something of the owner
abbrev pub has_name : NamesState → ℕ → Enclave → Bool
has_name s segid owner = is_owned_by owner (at s.pairs segid)

-- the segid is no name any more, where it was one of the owner
abbrev pub without_pair : ℕ → Enclave → NamesState → NamesState
without_pair segid owner s = if has_name s segid owner then without_name segid s else s

-- the owner's least segid
abbrev pub lowest_name : NamesState → Enclave → Option ℕ
lowest_name s owner = option_map (λ row. row.0) (find (λ row. row.1.0 == owner.0) s.pairs)

abbrev pub segid_numbered : ℕ → Segid
segid_numbered n = record { 0 = pos n }

abbrev pub not_below_zero : ℤ → ℕ
not_below_zero (pos n) = n
not_below_zero (negsuc n) = 0

-- the number of a segid, and for one below 0, which is never drawn, 0, which isn't either
abbrev pub drawn_number : Segid → ℕ
drawn_number segid = not_below_zero segid.0
