-- The exit number and the text of a status.
use Rattle.std.specs.Prelude.{ℕ, List, [], ◌++◌, codes, decimal}
use Rattle.node_world.specs.declared.world.Which.{Which}
use Rattle.node_world.specs.declared.world.Which.TheVariants as whiches
use Rattle.scenario_text.specs.declared.SyntaxFault.{SyntaxFault}
use Rattle.scenario_text.specs.declared.SyntaxFault.TheVariants as faults
use Rattle.scenario_run.specs.declared.status.Status.{Status}
use Rattle.scenario_run.specs.declared.status.Status.TheVariants as statuses

-- The numbers of the statuses; 7 is kept for a journal that breaks a law.
abbrev pub exit_number_of : Status → ℕ
exit_number_of statuses.Ok = 0
exit_number_of statuses.Usage = 1
exit_number_of (statuses.Syntax line fault) = 2
exit_number_of statuses.ReadFault = 3
exit_number_of statuses.WriteFault = 4
exit_number_of (statuses.Limit which number) = 5
exit_number_of statuses.Memory = 6
exit_number_of (statuses.Unbuilt line) = 8

abbrev pub limit_word : Which → List ℕ
limit_word whiches.Scenario = codes "Scenario"
limit_word whiches.Lines = codes "Lines"
limit_word whiches.LineBytes = codes "LineBytes"
limit_word whiches.Deliveries = codes "Deliveries"
limit_word whiches.Words = codes "Words"

-- the word at this place isn't what it should be
abbrev pub misfit_text : ℕ → List ℕ → List ℕ
misfit_text place what = codes "word " ++ decimal place ++ codes " is not a " ++ what ++ codes " here"

abbrev pub fault_text : SyntaxFault → List ℕ
fault_text faults.Word = codes "unknown command"
fault_text faults.Count = codes "wrong number of words"
fault_text (faults.Keyword place) = misfit_text place (codes "keyword")
fault_text (faults.Number place) = misfit_text place (codes "number")
fault_text faults.Place = codes "command out of place"

abbrev pub text_of_status : Status → List ℕ
text_of_status statuses.Ok = []
text_of_status statuses.Usage = codes "usage: xemem run | xemem load SEED CALLS"
text_of_status (statuses.Syntax line fault) = codes "line " ++ decimal line ++ codes ": " ++ fault_text fault
text_of_status statuses.ReadFault = codes "read fault"
text_of_status statuses.WriteFault = codes "write fault"
text_of_status (statuses.Limit which number) = codes "limit " ++ limit_word which ++ codes " " ++ decimal number
text_of_status statuses.Memory = codes "out of memory"
text_of_status (statuses.Unbuilt line) = codes "line " ++ decimal line ++ codes ": not built yet"
