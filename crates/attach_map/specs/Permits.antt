-- How permits are kept.
use Rattle.std.specs.Prelude.{◌≡◌, ◌<◌, ◌==◌, ◌^◌, ℕ, List, Bool, false, Option, None, Some, IsSome}
use Rattle.xm_num.specs.Rows.{at, IsAscending}
use Rattle.number_pairs.specs.Pairs.{has_pair}
use Rattle.attach_map.specs.Attaching.{PermitState}

-- the permit is one with this number, of its process or its owner
abbrev pub is_under : (PermitState → ℕ) → ℕ → Option PermitState → Bool
is_under key a None = false
is_under key a (Some held) = key held == a

-- the pairs are these numbers of permits, each with the permit's own
abbrev pub Indexes : (PermitState → ℕ) → List (ℕ × PermitState) → List (ℕ × ℕ) → Type 0
Indexes key rows pairs = (a k : ℕ) → has_pair pairs a k ≡ is_under key a (at rows k)

abbrev pub process_of : PermitState → ℕ
process_of held = held.pid

abbrev pub owner_of : PermitState → ℕ
owner_of held = held.permit.owner.0

-- permits by their numbers, which fit their type, and in order by process and by owner
pub record AreIndexed (rows : List (ℕ × PermitState)) (by_process by_owner : List (ℕ × ℕ)) : Type 0 where
  pub ascending : IsAscending rows
  pub small : (k : ℕ) → IsSome (at rows k) → k < 2 ^ 32
  pub processes : Indexes process_of rows by_process
  pub owners : Indexes owner_of rows by_owner
