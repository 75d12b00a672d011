-- The commands that a scenario's bytes spell, and what ends them. Which commands are built is said from above.
use Rattle.std.specs.Prelude.{◌+◌, ℕ, List, [], ◌∷◌, ◌++◌, length, Bool, true, not, ◌==◌, nat_lt, if◌then◌else◌, Option, None, Some, Result, Ok, Err, slice_index}
use Rattle.std.specs.Option.{option_to_list}
use Rattle.xemem_language.specs.declared.command.Command.{Command}
use Rattle.xemem_language.specs.Place.{is_in_place}
use Rattle.command_reader.specs.declared.fault.SyntaxFault.{SyntaxFault}
use Rattle.command_reader.specs.declared.fault.SyntaxFault.TheVariants as faults
use Rattle.text_words.specs.Words.{words_of, lines_of}
use Rattle.command_reader.specs.Forms.{command_of}

-- a line without words, and one whose first word begins with `#`, is a comment
abbrev pub is_comment : List (List ℕ) → Bool
is_comment [] = true
is_comment (first ∷ words) = slice_index first 0 == 35

abbrev pub as_said : Result Command SyntaxFault → Result (Option Command) SyntaxFault
as_said (Ok command) = Ok (Some command)
as_said (Err fault) = Err fault

-- what a line says: nothing where it is a comment, else a command, or what is wrong with it
abbrev pub line_command : List ℕ → Result (Option Command) SyntaxFault
line_command line = let words = words_of line in if is_comment words then Ok None else as_said (command_of words)

-- ---- scenarios

-- the most lines of a scenario, comments counted, and the most bytes of a line
abbrev pub most_lines : ℕ
most_lines = 65536

abbrev pub most_line_bytes : ℕ
most_line_bytes = 4096

-- why a scenario stops at a line: there are too many lines, this one is too long, something is wrong with it, or its command
-- isn't built
pub data Stop : Type 0 where
  TooMany : Stop
  TooLong : Stop
  Faulty : (fault : SyntaxFault) → Stop
  Unbuilt : Stop

-- the line at which a scenario stops, from 1, and why
pub record Ending : Type 0 where
  pub line : ℕ
  pub stop : Stop

-- the commands before the line at which the scenario stops, or all of them
pub record Scenario : Type 0 where
  pub commands : List Command
  pub ending : Option Ending

-- a command may stand after so many others, or why it may not
abbrev pub placed : (Command → Bool) → ℕ → Option Command → Result (Option Command) Stop
placed built before None = Ok None
placed built before (Some command) =
    if not (is_in_place before command) then Err (Faulty faults.Place)
    else (if not (built command) then Err Unbuilt else Ok (Some command))

abbrev pub judged : (Command → Bool) → ℕ → Result (Option Command) SyntaxFault → Result (Option Command) Stop
judged built before (Ok found) = placed built before found
judged built before (Err fault) = Err (Faulty fault)

-- what the line of that number says after so many commands, or why the scenario stops there
abbrev pub said : (Command → Bool) → ℕ → ℕ → List ℕ → Result (Option Command) Stop
said built before number line =
    if nat_lt most_lines number then Err TooMany
    else (if nat_lt most_line_bytes (length line) then Err TooLong
    else judged built before (line_command line))

abbrev pub onto_scenario : List Command → Scenario → Scenario
onto_scenario found rest = record { commands = found ++ rest.commands; ending = rest.ending }

-- what a line says, and then what the lines behind it say
abbrev pub scenario_with : ℕ → Result (Option Command) Stop → (List Command → Scenario) → Scenario
scenario_with number (Err stop) rest = record { commands = []; ending = Some (record { line = number; stop = stop }) }
scenario_with number (Ok found) rest = onto_scenario (option_to_list found) (rest (option_to_list found))

-- the commands of the lines from that number on, after so many commands
abbrev pub scenario_from : (Command → Bool) → ℕ → ℕ → List (List ℕ) → Scenario
scenario_from built before number [] = record { commands = []; ending = None }
scenario_from built before number (line ∷ lines) =
    scenario_with number (said built before number line) (λ found. scenario_from built (before + length found) (number + 1) lines)

abbrev pub scenario_by : (Command → Bool) → List ℕ → Scenario
scenario_by built bytes = scenario_from built 0 1 (lines_of bytes)
