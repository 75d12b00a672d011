-- What a run writes, and what it leaves of its world.
use Rattle.std.specs.Prelude.{◌≡◌, ◌++◌, ◌∷◌, [], ℕ, List, take, Option, None, Some, Result, Ok, Err}
use Rattle.std.specs.Io.KnownBytes.{Appends}
use Rattle.xm_edge.specs.Whole.{AppendsFront}
use Rattle.xemem_language.specs.declared.command.Command.{Command}
use Rattle.xemem_language.specs.declared.line.Line.{Line}
use Rattle.scenario_text.specs.Reading.{IsReadAs}
use Rattle.scenario_text.specs.Scenario.{Ending, Stop, TooMany, TooLong, Faulty, Unbuilt}
use Rattle.scenario_run.specs.Scenario.{scenario_of}
use Rattle.xemem_language.specs.Spelling.{text_of}
use Rattle.global_model.specs.Due.{journal_of}
use Rattle.global_model.specs.Journals.{do_commands}
use Rattle.history_laws.specs.History.{IsHistory, IsWhole}
use Rattle.node_world.specs.declared.world.Which.{Which}
use Rattle.node_world.specs.declared.world.Which.TheVariants as whiches
use Rattle.node_world.specs.declared.world.Progress.TheVariants as progresses
use Rattle.node_world.specs.World.{WorldView, IsCut, IsOfWorlds, IsShort, most_of}
use Rattle.scenario_run.specs.declared.status.Status.{Status}
use Rattle.scenario_run.specs.declared.status.Status.TheVariants as statuses
use Rattle.scenario_run.specs.declared.execute.Fault.{Fault}
use Rattle.scenario_run.specs.declared.execute.Fault.TheVariants as faults

-- ---- whole runs

-- the commands are the first ones of the scenario
pub record IsFront (commands : List Command) (bytes : List ℕ) : Type 0 where
  pub rest : List Command
  pub is : (scenario_of bytes).commands ≡ commands ++ rest

-- What was written is the text of a lawful history that is whole, whose commands are those of the scenario, and is read
-- back as this history. It passes no limit.
pub record IsRun (bytes written : List ℕ) : Type 0 where
  pub journal : List Line
  pub text : written ≡ text_of journal
  pub read : IsReadAs written journal
  pub commands : do_commands journal ≡ (scenario_of bytes).commands
  pub history : IsHistory journal
  pub whole : IsWhole journal
  pub short : IsShort journal

-- What was written is the text of a lawful history that is whole, whose commands are the first ones of the scenario, and is
-- read back as this history.
pub record IsRunSoFar (bytes written : List ℕ) : Type 0 where
  pub journal : List Line
  pub text : written ≡ text_of journal
  pub read : IsReadAs written journal
  pub commands : IsFront (do_commands journal) bytes
  pub history : IsHistory journal
  pub whole : IsWhole journal

-- What was written is a front of such a text.
pub record IsRunCut (bytes written : List ℕ) : Type 0 where
  pub text : List ℕ
  pub run : IsRunSoFar bytes text
  pub count : ℕ
  pub front : written ≡ take count text

-- What was written is the text of a lawful history whose commands are the first ones of the scenario, and is read back as
-- this history. It is the journal of the commands `done` and of one more, up to the line that would pass the limit, and that
-- line is one of the last command's.
pub record IsRunFull (which : Which) (bytes written : List ℕ) : Type 0 where
  pub journal : List Line
  pub text : written ≡ text_of journal
  pub read : IsReadAs written journal
  pub commands : IsFront (do_commands journal) bytes
  pub history : IsHistory journal
  pub done : List Command
  pub command : Command
  pub next : IsFront (done ++ command ∷ []) bytes
  pub cut : IsCut which done command journal

-- the world has this journal, and each step on it was carried through
pub record HasRun (world : WorldView) (journal : List Line) : Type 0 where
  pub has : world.journal ≡ journal
  pub going : world.progress ≡ progresses.Going

-- the world has this journal, and the last step on it met the limit
pub record HasFilled (which : Which) (world : WorldView) (journal : List Line) : Type 0 where
  pub has : world.journal ≡ journal
  pub full : world.progress ≡ progresses.Full which

-- the scenario ends so, and its commands were run
abbrev pub RunsTo : Option Ending → List ℕ → WorldView → List ℕ → Type 0
RunsTo ending bytes world written = ((scenario_of bytes).ending ≡ ending) × (run : IsRun bytes written) × HasRun world run.journal

-- what a limit on journals leaves that is met on the way
abbrev pub FillsOn : Which → List ℕ → WorldView → List ℕ → Type 0
FillsOn which bytes world written = IsOfWorlds which × (run : IsRunFull which bytes written) × HasFilled which world run.journal

-- how a run ends at the line of that number
abbrev pub stop_status : ℕ → Stop → Status
stop_status line TooMany = statuses.Limit whiches.Lines (most_of whiches.Lines)
stop_status line TooLong = statuses.Limit whiches.LineBytes (most_of whiches.LineBytes)
stop_status line (Faulty fault) = statuses.Syntax line fault
stop_status line Unbuilt = statuses.Unbuilt line

-- a command or a comment, or how the run ends at the line of that number
abbrev pub judged_status : ℕ → Result (Option Command) Stop → Result (Option Command) Status
judged_status line (Ok found) = Ok found
judged_status line (Err stop) = Err (stop_status line stop)

-- how a run ends whose scenario ends so
abbrev pub ending_status : Option Ending → Status
ending_status None = statuses.Ok
ending_status (Some ending) = stop_status ending.line ending.stop

-- The scenario ends so that a run of it ends with this status, and its commands were run.
abbrev pub Ends : Status → List ℕ → WorldView → List ℕ → Type 0
Ends status bytes world written = (ending : Option Ending) × (status ≡ ending_status ending) × RunsTo ending bytes world written

-- what a limit leaves
abbrev pub LimitLeaves : Which → ℕ → List ℕ → WorldView → List ℕ → Type 0
LimitLeaves whiches.Deliveries number bytes world written = (number ≡ most_of whiches.Deliveries) × FillsOn whiches.Deliveries bytes world written
LimitLeaves whiches.Words number bytes world written = (number ≡ most_of whiches.Words) × FillsOn whiches.Words bytes world written
LimitLeaves which number bytes world written = Ends (statuses.Limit which number) bytes world written

-- what was written, and what the world is left with, by the status of a run over these bytes
abbrev pub LeavesWritten : Status → List ℕ → WorldView → List ℕ → Type 0
LeavesWritten (statuses.Limit which number) bytes world written = LimitLeaves which number bytes world written
LeavesWritten statuses.Memory bytes world written = IsRunSoFar bytes written
LeavesWritten statuses.WriteFault bytes world written = IsRunCut bytes written
LeavesWritten statuses.Usage bytes world written = ⊥
LeavesWritten statuses.ReadFault bytes world written = ⊥
LeavesWritten status bytes world written = Ends status bytes world written

-- the same of a sink that may not tell its bytes
abbrev pub LeavesIn : Option (List ℕ) → Option (List ℕ) → Status → List ℕ → WorldView → Type 0
LeavesIn old new status bytes world = (written : List ℕ) × Appends old new written × LeavesWritten status bytes world written

-- how a run ends at a fault
abbrev pub status_of : Fault → Status
status_of faults.Memory = statuses.Memory
status_of faults.Write = statuses.WriteFault
status_of (faults.Limit which number) = statuses.Limit which number

-- ---- one command

-- the world's journal is that of its commands, it passes no limit, and each step was carried through
pub record IsGoing (world : WorldView) : Type 0 where
  pub told : world.journal ≡ journal_of (do_commands world.journal)
  pub short : IsShort world.journal
  pub going : world.progress ≡ progresses.Going

-- what lines that failed to be written have appended: nothing for want of memory, a front of their text where a write failed
abbrev pub LinesLeave : Option (List ℕ) → Option (List ℕ) → List Line → Fault → Type 0
LinesLeave old new written faults.Memory = Appends old new []
LinesLeave old new written faults.Write = AppendsFront old new (text_of written)
LinesLeave old new written (faults.Limit which number) = ⊥

-- the text of the lines was appended by which a journal grew
pub record Writes (old new : Option (List ℕ)) (before after : List Line) : Type 0 where
  pub lines : List Line
  pub grown : after ≡ before ++ lines
  pub wrote : Appends old new (text_of lines)

-- a front of that text was appended
pub record WritesFront (old new : Option (List ℕ)) (before after : List Line) : Type 0 where
  pub lines : List Line
  pub grown : after ≡ before ++ lines
  pub wrote : AppendsFront old new (text_of lines)

-- the next line would have passed a limit: what stands before it was written
pub record IsFilled (old new : Option (List ℕ)) (which : Which) (number : ℕ) (before : WorldView) (command : Command) (after : WorldView) : Type 0 where
  pub limit : IsOfWorlds which
  pub most : number ≡ most_of which
  pub full : after.progress ≡ progresses.Full which
  pub cut : IsCut which (do_commands before.journal) command after.journal
  pub wrote : Writes old new before.journal after.journal

-- what a command that failed has appended: nothing for want of memory, a front of its lines where a write failed
abbrev pub FaultLeaves : Option (List ℕ) → Option (List ℕ) → WorldView → Command → WorldView → Fault → Type 0
FaultLeaves old new before command after faults.Memory = Appends old new []
FaultLeaves old new before command after faults.Write = WritesFront old new before.journal (journal_of (do_commands before.journal ++ command ∷ []))
FaultLeaves old new before command after (faults.Limit which number) = IsFilled old new which number before command after
