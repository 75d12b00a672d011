use Rattle.std.proofs.Common.{◌≡◌, ◌+◌, ◌*◌, ◌<◌, ◌≤◌, ℕ, false}
use Rattle.exporter_pins.specs.Layout.{owner_at, is_owner}
use Rattle.exporter_pins.proofs.owners.place_in.Given as goal

abbrev pub invariant-loop-i : goal.invariant-loop-i
invariant-loop-i l = (place : ℕ) → 64 * l.group ≤ place → place < 64 * l.group + l.i → is_owner l.pid (owner_at l.slots place) ≡ false
