-- Journals line by line: laws along them, their commands and their deliveries. A past has its newest line first.
use Rattle.std.specs.Prelude.{ℕ, List, [], ◌∷◌, length, filter, Bool, true, false, Option, None, Some}
use Rattle.xemem_language.specs.declared.command.Command.{Command}
use Rattle.xemem_language.specs.declared.line.Line.{Line}
use Rattle.xemem_language.specs.declared.line.Line.TheVariants as lines

-- each of the lines is lawful after the past and the lines before it
abbrev pub Follows : (List Line → Line → Type 0) → List Line → List Line → Type 0
Follows Law past [] = Unit {0}
Follows Law past (line ∷ journal) = Law past line × Follows Law (line ∷ past) journal

-- the lines of a journal on top of a past
abbrev pub onto : List Line → List Line → List Line
onto [] past = past
onto (line ∷ journal) past = onto journal (line ∷ past)

-- the command at hand
abbrev pub command_at : List Line → Option Command
command_at [] = None
command_at (lines.Do command ∷ past) = Some command
command_at (line ∷ past) = command_at past

-- the commands of the `do` lines
abbrev pub do_commands : List Line → List Command
do_commands [] = []
do_commands (lines.Do command ∷ journal) = command ∷ do_commands journal
do_commands (line ∷ journal) = do_commands journal

-- a delivery: bytes, or an end mark, are taken
abbrev pub is_delivery : Line → Bool
is_delivery (lines.Took x y count) = true
is_delivery (lines.End x y torn) = true
is_delivery line = false

-- how many deliveries a journal tells
abbrev pub deliveries_in : List Line → ℕ
deliveries_in journal = length (filter is_delivery journal)
