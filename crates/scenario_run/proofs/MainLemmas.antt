-- What the top call leaves, from what its reading gave and what its run left.
use Rattle.std.proofs.Common.{◌≡◌, ◌⊎◌, ◌++◌, ℕ, List, Option, None, Some, refl, sym, ap, ◌∙◌, subst, append-nil, inl, inr}
use Rattle.std.specs.Io.KnownBytes.{Appends}
use Rattle.xm_edge.specs.Whole.{GivesAll}
use Rattle.global_model.specs.Due.{journal_of}
use Rattle.scenario_text.specs.declared.SyntaxFault.{SyntaxFault}
use Rattle.scenario_text.specs.Scenario.{Ending, Stop, TooMany, TooLong, Faulty, Unbuilt, most_lines, most_line_bytes}
use Rattle.scenario_run.specs.Scenario.{scenario_of}
use Rattle.node_world.specs.declared.world.Which.{Which}
use Rattle.node_world.specs.declared.world.Which.TheVariants as whiches
use Rattle.node_world.specs.World.{WorldView, IsOfWorlds, IsShort, most_of}
use Rattle.scenario_run.specs.declared.status.Status.{Status}
use Rattle.scenario_run.specs.declared.status.Status.TheVariants as statuses
use Rattle.scenario_run.specs.Run.{Ends, LeavesWritten, LeavesIn, ending_status, stop_status}
use Rattle.scenario_run.specs.Main.{most, WritesHistory, StopsAtLine, StopsFull}
use Rattle.scenario_run.proofs.RunLemmas.{too_long}

-- ---- which ending has a status

stops_ok : (line : ℕ) (stop : Stop) → statuses.Ok ≡ stop_status line stop → ⊥
stops_ok line TooMany is = cc
stops_ok line TooLong is = cc
stops_ok line (Faulty fault) is = cc
stops_ok line Unbuilt is = cc

ends_ok : (ending : Option Ending) → statuses.Ok ≡ ending_status ending → ending ≡ None
ends_ok None is = refl
ends_ok (Some ending) is = absurd (stops_ok ending.line ending.stop is)

stops_syntax : (at : ℕ) (stop : Stop) (line : ℕ) (fault : SyntaxFault) → statuses.Syntax line fault ≡ stop_status at stop → (at ≡ line) × (stop ≡ Faulty fault)
stops_syntax at TooMany line fault is = cc
stops_syntax at TooLong line fault is = cc
stops_syntax at (Faulty found) line fault is = (cc, (let same : found ≡ fault = cc in ap (λ f. Faulty f) same))
stops_syntax at Unbuilt line fault is = cc

stops_unbuilt : (at : ℕ) (stop : Stop) (line : ℕ) → statuses.Unbuilt line ≡ stop_status at stop → (at ≡ line) × (stop ≡ Unbuilt)
stops_unbuilt at TooMany line is = cc
stops_unbuilt at TooLong line is = cc
stops_unbuilt at (Faulty fault) line is = cc
stops_unbuilt at Unbuilt line is = (cc, refl)

stops_lines : (at : ℕ) (stop : Stop) (number : ℕ) → statuses.Limit whiches.Lines number ≡ stop_status at stop → (number ≡ most_lines) × (stop ≡ TooMany)
stops_lines at TooMany number is = (cc, refl)
stops_lines at TooLong number is = cc
stops_lines at (Faulty fault) number is = cc
stops_lines at Unbuilt number is = cc

stops_line_bytes : (at : ℕ) (stop : Stop) (number : ℕ) → statuses.Limit whiches.LineBytes number ≡ stop_status at stop → (number ≡ most_line_bytes) × (stop ≡ TooLong)
stops_line_bytes at TooMany number is = cc
stops_line_bytes at TooLong number is = (cc, refl)
stops_line_bytes at (Faulty fault) number is = cc
stops_line_bytes at Unbuilt number is = cc

-- no line ends a scenario because there are too many bytes
stops_scenario : (at : ℕ) (stop : Stop) (number : ℕ) → statuses.Limit whiches.Scenario number ≡ stop_status at stop → ⊥
stops_scenario at TooMany number is = cc
stops_scenario at TooLong number is = cc
stops_scenario at (Faulty fault) number is = cc
stops_scenario at Unbuilt number is = cc

ends_scenario : (ending : Option Ending) (number : ℕ) → statuses.Limit whiches.Scenario number ≡ ending_status ending → ⊥
ends_scenario None number is = cc
ends_scenario (Some ending) number is = stops_scenario ending.line ending.stop number is

-- an ending, by its line and why
ending_is : (ending : Ending) (line : ℕ) (stop : Stop) → ending.line ≡ line → ending.stop ≡ stop → Some ending ≡ Some (record { line = line; stop = stop })
ending_is ending line stop at stops = ap (λ (l : ℕ). Some (record { line = l; stop = ending.stop })) at ∙ ap (λ (s : Stop). Some (record { line = line; stop = s })) stops

ends_syntax : (ending : Option Ending) (line : ℕ) (fault : SyntaxFault) → statuses.Syntax line fault ≡ ending_status ending → ending ≡ Some (record { line = line; stop = Faulty fault })
ends_syntax None line fault is = cc
ends_syntax (Some ending) line fault is = let so = stops_syntax ending.line ending.stop line fault is in ending_is ending line (Faulty fault) so.0 so.1

ends_unbuilt : (ending : Option Ending) (line : ℕ) → statuses.Unbuilt line ≡ ending_status ending → ending ≡ Some (record { line = line; stop = Unbuilt })
ends_unbuilt None line is = cc
ends_unbuilt (Some ending) line is = let so = stops_unbuilt ending.line ending.stop line is in ending_is ending line Unbuilt so.0 so.1

ends_lines : (ending : Option Ending) (number : ℕ) → statuses.Limit whiches.Lines number ≡ ending_status ending → (number ≡ most_lines) × (line : ℕ) × (ending ≡ Some (record { line = line; stop = TooMany }))
ends_lines None number is = cc
ends_lines (Some ending) number is = let so = stops_lines ending.line ending.stop number is in (so.0, ending.line, ending_is ending ending.line TooMany refl so.1)

ends_line_bytes : (ending : Option Ending) (number : ℕ) → statuses.Limit whiches.LineBytes number ≡ ending_status ending → (number ≡ most_line_bytes) × (line : ℕ) × (ending ≡ Some (record { line = line; stop = TooLong }))
ends_line_bytes None number is = cc
ends_line_bytes (Some ending) number is = let so = stops_line_bytes ending.line ending.stop number is in (so.0, ending.line, ending_is ending ending.line TooLong refl so.1)

-- ---- what each status tells

-- what a run left, by the status that it is
left_by : (put put_new : Option (List ℕ)) (bytes : List ℕ) (w : WorldView) (status other : Status) → LeavesIn put put_new status bytes w → status ≡ other → LeavesIn put put_new other bytes w
left_by put put_new bytes w status other leaves is = subst (λ s. LeavesIn put put_new s bytes w) is leaves

pub main_headline : (left left_new put put_new : Option (List ℕ)) (bytes : List ℕ) (w : WorldView) (status : Status) → GivesAll left left_new bytes most → LeavesIn put put_new status bytes w → status ≡ statuses.Ok → WritesHistory left left_new put put_new w
main_headline left left_new put put_new bytes w status read leaves is =
    let l = left_by put put_new bytes w status statuses.Ok leaves is in
    let end = l.2 in
    let to = end.2 in
    record { bytes = bytes; read = read; whole = to.0 ∙ ends_ok end.0 end.1; written = l.0; wrote = l.1; run = to.1; ran = to.2 }

-- a run that ends at this line
stops_at : (left left_new put put_new : Option (List ℕ)) (bytes written : List ℕ) (w : WorldView) (status : Status) (ending : Ending) → GivesAll left left_new bytes most → Appends put put_new written → (end : Ends status bytes w written) → end.0 ≡ Some ending
    → StopsAtLine ending left left_new put put_new w
stops_at left left_new put put_new bytes written w status ending read wrote end is =
    let to = end.2 in
    record { bytes = bytes; read = read; stops = to.0 ∙ is; written = written; wrote = wrote; run = to.1; ran = to.2 }

pub main_syntax : (left left_new put put_new : Option (List ℕ)) (bytes : List ℕ) (w : WorldView) (status : Status) → GivesAll left left_new bytes most → LeavesIn put put_new status bytes w → (line : ℕ) (fault : SyntaxFault) → status ≡ statuses.Syntax line fault
    → StopsAtLine (record { line = line; stop = Faulty fault }) left left_new put put_new w
main_syntax left left_new put put_new bytes w status read leaves line fault is =
    let l = left_by put put_new bytes w status (statuses.Syntax line fault) leaves is in
    stops_at left left_new put put_new bytes l.0 w (statuses.Syntax line fault) (record { line = line; stop = Faulty fault }) read l.1 l.2 (ends_syntax l.2.0 line fault l.2.1)

pub main_unbuilt : (left left_new put put_new : Option (List ℕ)) (bytes : List ℕ) (w : WorldView) (status : Status) → GivesAll left left_new bytes most → LeavesIn put put_new status bytes w → (line : ℕ) → status ≡ statuses.Unbuilt line
    → StopsAtLine (record { line = line; stop = Unbuilt }) left left_new put put_new w
main_unbuilt left left_new put put_new bytes w status read leaves line is =
    let l = left_by put put_new bytes w status (statuses.Unbuilt line) leaves is in
    stops_at left left_new put put_new bytes l.0 w (statuses.Unbuilt line) (record { line = line; stop = Unbuilt }) read l.1 l.2 (ends_unbuilt l.2.0 line l.2.1)

pub main_lines : (left left_new put put_new : Option (List ℕ)) (bytes : List ℕ) (w : WorldView) (status : Status) → GivesAll left left_new bytes most → LeavesIn put put_new status bytes w → (number : ℕ) → status ≡ statuses.Limit whiches.Lines number
    → (number ≡ most_lines) × (line : ℕ) × StopsAtLine (record { line = line; stop = TooMany }) left left_new put put_new w
main_lines left left_new put put_new bytes w status read leaves number is =
    let l = left_by put put_new bytes w status (statuses.Limit whiches.Lines number) leaves is in
    let so = ends_lines l.2.0 number l.2.1 in
    (so.0, so.1, stops_at left left_new put put_new bytes l.0 w (statuses.Limit whiches.Lines number) (record { line = so.1; stop = TooMany }) read l.1 l.2 so.2)

pub main_line_bytes : (left left_new put put_new : Option (List ℕ)) (bytes : List ℕ) (w : WorldView) (status : Status) → GivesAll left left_new bytes most → LeavesIn put put_new status bytes w → (number : ℕ) → status ≡ statuses.Limit whiches.LineBytes number
    → (number ≡ most_line_bytes) × (line : ℕ) × StopsAtLine (record { line = line; stop = TooLong }) left left_new put put_new w
main_line_bytes left left_new put put_new bytes w status read leaves number is =
    let l = left_by put put_new bytes w status (statuses.Limit whiches.LineBytes number) leaves is in
    let so = ends_line_bytes l.2.0 number l.2.1 in
    (so.0, so.1, stops_at left left_new put put_new bytes l.0 w (statuses.Limit whiches.LineBytes number) (record { line = so.1; stop = TooLong }) read l.1 l.2 so.2)

-- no run ends because the scenario has too many bytes
pub main_limit : (put put_new : Option (List ℕ)) (bytes : List ℕ) (w : WorldView) (status : Status) → LeavesIn put put_new status bytes w → (number : ℕ) → status ≡ statuses.Limit whiches.Scenario number → ⊥
main_limit put put_new bytes w status leaves number is =
    let l = left_by put put_new bytes w status (statuses.Limit whiches.Scenario number) leaves is in
    ends_scenario l.2.0 number l.2.1

pub main_full : (left left_new put put_new : Option (List ℕ)) (bytes : List ℕ) (w : WorldView) (status : Status) → GivesAll left left_new bytes most → LeavesIn put put_new status bytes w → (which : Which) (number : ℕ) → IsOfWorlds which
    → status ≡ statuses.Limit which number → (number ≡ most_of which) × StopsFull which left left_new put put_new w
main_full left left_new put put_new bytes w status read leaves whiches.Scenario number worlds is = absurd worlds
main_full left left_new put put_new bytes w status read leaves whiches.Lines number worlds is = absurd worlds
main_full left left_new put put_new bytes w status read leaves whiches.LineBytes number worlds is = absurd worlds
main_full left left_new put put_new bytes w status read leaves whiches.Deliveries number worlds is =
    let l = left_by put put_new bytes w status (statuses.Limit whiches.Deliveries number) leaves is in
    let fills = l.2.1 in
    (l.2.0, record { bytes = bytes; read = read; written = l.0; wrote = l.1; run = fills.1; filled = fills.2 })
main_full left left_new put put_new bytes w status read leaves whiches.Words number worlds is =
    let l = left_by put put_new bytes w status (statuses.Limit whiches.Words number) leaves is in
    let fills = l.2.1 in
    (l.2.0, record { bytes = bytes; read = read; written = l.0; wrote = l.1; run = fills.1; filled = fills.2 })

-- a source that tells its bytes gave all of them
given_all : (left left_new : Option (List ℕ)) (bytes given : List ℕ) → left ≡ Some bytes → GivesAll left left_new given most → given ≡ bytes
given_all left None bytes given is read = let no_bytes = subst (λ l. GivesAll l None given most) is read in absurd no_bytes.0
given_all left (Some rest) bytes given is read =
    let gives = subst (λ l. GivesAll l (Some rest) given most) is read in
    sym (append-nil given) ∙ ap (λ end. given ++ end) (sym gives.1) ∙ sym gives.0

-- it ended as its scenario does
as_it_ends : (status : Status) (bytes written : List ℕ) (w : WorldView) → Ends status bytes w written → (status ≡ ending_status (scenario_of bytes).ending) ⊎ (status ≡ statuses.Memory)
as_it_ends status bytes written w end = let to = end.2 in inl (end.1 ∙ ap ending_status (sym to.0))

-- by the status
ends : (status : Status) (bytes written : List ℕ) (w : WorldView) → LeavesWritten status bytes w written → IsShort (journal_of (scenario_of bytes).commands) → (status ≡ statuses.WriteFault → ⊥)
    → (status ≡ ending_status (scenario_of bytes).ending) ⊎ (status ≡ statuses.Memory)
ends statuses.Ok bytes written w leaves short puts = as_it_ends statuses.Ok bytes written w leaves
ends statuses.Usage bytes written w leaves short puts = absurd leaves
ends (statuses.Syntax line fault) bytes written w leaves short puts = as_it_ends (statuses.Syntax line fault) bytes written w leaves
ends statuses.ReadFault bytes written w leaves short puts = absurd leaves
ends statuses.WriteFault bytes written w leaves short puts = absurd (puts refl)
ends (statuses.Limit whiches.Scenario number) bytes written w leaves short puts = as_it_ends (statuses.Limit whiches.Scenario number) bytes written w leaves
ends (statuses.Limit whiches.Lines number) bytes written w leaves short puts = as_it_ends (statuses.Limit whiches.Lines number) bytes written w leaves
ends (statuses.Limit whiches.LineBytes number) bytes written w leaves short puts = as_it_ends (statuses.Limit whiches.LineBytes number) bytes written w leaves
ends (statuses.Limit whiches.Deliveries number) bytes written w leaves short puts = let fills = leaves.1 in absurd (too_long whiches.Deliveries bytes written fills.1 short)
ends (statuses.Limit whiches.Words number) bytes written w leaves short puts = let fills = leaves.1 in absurd (too_long whiches.Words bytes written fills.1 short)
ends statuses.Memory bytes written w leaves short puts = inr refl
ends (statuses.Unbuilt line) bytes written w leaves short puts = as_it_ends (statuses.Unbuilt line) bytes written w leaves

pub main_complete : (left left_new put put_new : Option (List ℕ)) (given bytes : List ℕ) (w : WorldView) (status : Status) → GivesAll left left_new given most → LeavesIn put put_new status given w → left ≡ Some bytes
    → IsShort (journal_of (scenario_of bytes).commands) → (status ≡ statuses.WriteFault → ⊥) → (status ≡ ending_status (scenario_of bytes).ending) ⊎ (status ≡ statuses.Memory)
main_complete left left_new put put_new given bytes w status read leaves is short puts =
    let all = given_all left left_new bytes given is read in
    let l = subst (λ bs. LeavesIn put put_new status bs w) all leaves in
    ends status bytes l.0 w l.2 short puts
