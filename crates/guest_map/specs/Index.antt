-- How entries are found by their guest frames and by their owners.
use Rattle.std.specs.Prelude.{◌≡◌, ◌↔◌, ◌+◌, ◌-◌, ◌≤◌, ◌==◌, ℕ, List, length, Option, None, Some, option_and_then, if◌then◌else◌}
use Rattle.xm_num.specs.declared.Enclave.{Enclave}
use Rattle.xm_num.specs.Rows.{at, put, less}
use Rattle.number_pairs.specs.Pairs.{has_pair}
use Rattle.guest_map.specs.Guests.{Entry, GuestState, IsGuest, is_found_of}

-- the last guest frame of the entry, where it has some
abbrev pub last_of : Entry → Option ℕ
last_of e = if length e.frames == 0 then None else Some (e.first + length e.frames - 1)

-- the lasts with a call at one, where there is one
abbrev pub with_last : List (ℕ × ℕ) → Option ℕ → ℕ → List (ℕ × ℕ)
with_last lasts None call = lasts
with_last lasts (Some last) call = put lasts last call

-- the lasts without one, where there is one
abbrev pub without_last : List (ℕ × ℕ) → Option ℕ → List (ℕ × ℕ)
without_last lasts None = lasts
without_last lasts (Some last) = less lasts last

-- the lasts are those of the entries, each with the call of its entry
abbrev pub AreLasts : List (ℕ × Entry) → List (ℕ × ℕ) → Type 0
AreLasts entries lasts = (last call : ℕ) → (at lasts last ≡ Some call) ↔ (option_and_then last_of (at entries call) ≡ Some last)

-- the pairs are the entries' owners and calls
abbrev pub AreOwners : List (ℕ × Entry) → List (ℕ × ℕ) → Type 0
AreOwners entries pairs = (owner : Enclave) (call : ℕ) → has_pair pairs owner.0 call ≡ is_found_of owner (at entries call)

-- what is kept of a guest, of 4,096 blocks at most
pub record IsKept (s : GuestState) (lasts pairs : List (ℕ × ℕ)) : Type 0 where
  pub guest : IsGuest s
  pub most : length s.blocks ≤ 4096
  pub listed : AreLasts s.entries lasts
  pub owned : AreOwners s.entries pairs
