-- The numbers of the channels in which something waits.
use Rattle.std.specs.Prelude.{◌≡◌, ◌≢◌, ◌+◌, ◌*◌, ◌≤◌, ℕ, List, length, Bool, not}
use Rattle.std.specs.List.{list_any}
use Rattle.std.specs.Ordering.{nat_cmp}
use Rattle.std.specs.BTreeMap.{is_at}
use Rattle.byte_link.specs.Channel.{Channel}
use Rattle.node_machine.specs.declared.pair.Pair.{Pair}
use Rattle.node_machine.specs.Machine.{pair_at, is_idle}

-- the number is among these
abbrev pub has : List ℕ → ℕ → Bool
has keys n = list_any (is_at (nat_cmp n)) keys

-- the set has the number of a link exactly where something waits in it
abbrev pub IsNoted : List ℕ → ℕ → Channel → Type 0
IsNoted keys number link = has keys number ≡ not (is_idle link)

-- both have the same numbers but this one
abbrev pub SameBut : ℕ → List ℕ → List ℕ → Type 0
SameBut number keys more = (n : ℕ) → n ≢ number → has more n ≡ has keys n

-- the number of the channel up from the child at a place, and of the one down to it
abbrev pub up_number : ℕ → ℕ
up_number i = i * 2

abbrev pub down_number : ℕ → ℕ
down_number i = i * 2 + 1

-- the numbers are those of the channels in which something waits
pub record IsIndex (keys : List ℕ) (pairs : List Pair) : Type 0 where
  pub few : length pairs ≤ 256
  pub up : (i : ℕ) → has keys (up_number i) ≡ not (is_idle (pair_at pairs i).up)
  pub down : (i : ℕ) → has keys (down_number i) ≡ not (is_idle (pair_at pairs i).down)
