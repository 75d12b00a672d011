-- Lines that leave blocks and own pages alone, and the lines of a command behind its `do` line.
use Rattle.std.specs.Prelude.{List}
use Rattle.std.specs.List.{AllByRecursion}
use Rattle.xemem_language.specs.declared.command.Command.{Command}
use Rattle.xemem_language.specs.declared.command.Command.TheVariants as commands
use Rattle.xemem_language.specs.declared.line.Line.{Line}
use Rattle.xemem_language.specs.declared.line.Line.TheVariants as lines
use Rattle.xemem_language.specs.Ranges.{IsSpelled}

-- the line has a spelling, but perhaps for the record that it sends and the segid that it names
abbrev pub IsTellable : Line → Type 0
IsTellable (lines.Drew e call segid) = Unit {0}
IsTellable (lines.Named e call segid) = Unit {0}
IsTellable (lines.Unnamed segid) = Unit {0}
IsTellable (lines.Grant owner e call segid access) = Unit {0}
IsTellable (lines.Remove e segid) = Unit {0}
IsTellable (lines.AnswerSegid e p call segid) = Unit {0}
IsTellable (lines.Name segid owner) = Unit {0}
IsTellable (lines.Sent x y r) = Unit {0}
IsTellable line = IsSpelled line

-- plain: it begins no command, is no refusal, and leaves blocks and own pages alone
abbrev pub IsPlain : Line → Type 0
IsPlain (lines.Do command) = ⊥
IsPlain (lines.Refused cause) = ⊥
IsPlain (lines.Born e kind parent ns blocks) = ⊥
IsPlain (lines.Alloc e p at frames) = ⊥
IsPlain (lines.Touched e p page frame) = ⊥
IsPlain line = IsTellable line

abbrev pub ArePlain : List Line → Type 0
ArePlain journal = AllByRecursion IsPlain journal

-- an act: it begins no command
abbrev pub IsAct : Line → Type 0
IsAct (lines.Do command) = ⊥
IsAct line = IsTellable line

abbrev pub AreActs : List Line → Type 0
AreActs journal = AllByRecursion IsAct journal

-- a command that bears no enclave, and allocates and touches nothing
abbrev pub IsQuiet : Command → Type 0
IsQuiet (commands.Host blocks ns) = ⊥
IsQuiet (commands.Boot kind parent blocks ns) = ⊥
IsQuiet (commands.Alloc e p at pages) = ⊥
IsQuiet (commands.Touch e p addr want) = ⊥
IsQuiet command = Unit {0}

-- a command that bears an enclave
abbrev pub BearsOne : Command → Type 0
BearsOne (commands.Host blocks ns) = Unit {0}
BearsOne (commands.Boot kind parent blocks ns) = Unit {0}
BearsOne command = ⊥
