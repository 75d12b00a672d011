-- Where a command that is built may stand.
use Rattle.std.specs.Prelude.{ℕ, List, Bool}
use Rattle.xemem_language.specs.declared.command.Command.{Command}
use Rattle.xemem_language.specs.Place.{ArePlacedBy, may_stand_by}
use Rattle.enclave_rules.specs.Built.{is_built}

-- the command is built, and may stand after so many others
abbrev pub may_stand : ℕ → Command → Bool
may_stand before command = may_stand_by is_built before command

-- each command may stand after those before it, of which there are so many, and its numbers are in their ranges
abbrev pub IsPlacedAfter : ℕ → List Command → Type 0
IsPlacedAfter before commands = ArePlacedBy is_built before commands

abbrev pub IsPlaced : List Command → Type 0
IsPlaced commands = IsPlacedAfter 0 commands
