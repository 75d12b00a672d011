-- The commands of a scenario, by the forms that are built.
use Rattle.std.specs.Prelude.{ℕ, List, Option, Result}
use Rattle.xemem_language.specs.declared.command.Command.{Command}
use Rattle.enclave_rules.specs.Built.{is_built}
use Rattle.scenario_text.specs.Scenario.{Scenario, Stop, scenario_by}
use Rattle.scenario_text.specs.Scenario as texts

-- the commands that a scenario's bytes spell, and what ends them
abbrev pub scenario_of : List ℕ → Scenario
scenario_of bytes = scenario_by is_built bytes

-- those of the lines from that number on, after so many commands
abbrev pub scenario_left : ℕ → ℕ → List (List ℕ) → Scenario
scenario_left before number lines = texts.scenario_from is_built before number lines

-- what the line of that number says after so many commands, or why the scenario stops there
abbrev pub line_says : ℕ → ℕ → List ℕ → Result (Option Command) Stop
line_says before number line = texts.said is_built before number line
