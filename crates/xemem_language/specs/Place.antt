-- Where a command may stand.
use Rattle.std.specs.Prelude.{◌≡◌, ◌+◌, ℕ, List, [], ◌∷◌, Bool, true, ◌&&◌, ◌==◌, nat_le}
use Rattle.xemem_language.specs.declared.command.Command.{Command}
use Rattle.xemem_language.specs.declared.command.Command.TheVariants as commands
use Rattle.xemem_language.specs.Ranges.{IsInRange}

-- the first command is `pool`, the second is `host`, and neither stands later
abbrev pub is_in_place : ℕ → Command → Bool
is_in_place before (commands.Pool blocks) = before == 0
is_in_place before (commands.Host blocks ns) = before == 1
is_in_place before command = nat_le 2 before

-- the command is one of those that are built, and may stand after so many others
abbrev pub may_stand_by : (Command → Bool) → ℕ → Command → Bool
may_stand_by built before command = is_in_place before command && built command

-- each command is built and may stand after those before it, of which there are so many, and its numbers are in their ranges
abbrev pub ArePlacedBy : (Command → Bool) → ℕ → List Command → Type 0
ArePlacedBy built before [] = Unit {0}
ArePlacedBy built before (command ∷ commands) =
    (may_stand_by built before command ≡ true) × IsInRange command × ArePlacedBy built (before + 1) commands
