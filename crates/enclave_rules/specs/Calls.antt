-- What an enclave writes for a call of a process, and what is shown of it, by its view.
use Rattle.std.specs.Prelude.{◌≡◌, ℕ, List, Option, None, Some, true}
use Rattle.std.specs.List.{AllByRecursion}
use Rattle.std.specs.Option.{option_map_or}
use Rattle.xm_num.specs.declared.Enclave.{Enclave}
use Rattle.xm_num.specs.declared.Pid.{Pid}
use Rattle.xm_num.specs.declared.Segid.{Segid}
use Rattle.xm_num.specs.declared.Cause.{Cause}
use Rattle.xm_num.specs.declared.Cause.TheVariants as causes
use Rattle.xemem_language.specs.declared.line.Line.{Line}
use Rattle.xemem_language.specs.declared.line.Line.TheVariants as lines
use Rattle.xemem_language.specs.declared.call.Call.{Call}
use Rattle.xemem_language.specs.declared.call.Call.TheVariants as calls
use Rattle.xemem_language.specs.declared.call.Show.{Show}
use Rattle.xemem_language.specs.declared.call.Show.TheVariants as shows
use Rattle.enclave_rules.specs.Hand.{Hand, Calls}
use Rattle.enclave_rules.specs.View.{View}
use Rattle.enclave_rules.specs.Steps.{refusal, process_at, alloc_lines, route_lines, state_lines}
use Rattle.enclave_rules.specs.Segments.{make_acts, make_refusal, name_rows, remove_acts, remove_refusal, unready}

-- the refusal, or what is written where there is none
abbrev pub refused_or : Option Cause → List Line → List Line
refused_or None acts = acts
refused_or (Some cause) acts = refusal cause

-- the call that is at hand
abbrev pub at_hand : View → Pid → Call → Hand
at_hand v p call = Calls (record { enclave = v.me; pid = p; call = call })

-- a make, and a remove: the process lives, is ready, and meets the call's own conditions
abbrev pub make_lines : View → Pid → ℕ → ℕ → ℕ → List Line
make_lines v p addr size mode =
    option_map_or (λ process. refused_or (unready v p) (refused_or (make_refusal process addr size) (make_acts (at_hand v p (calls.Make addr size mode)) v p)))
    (process_at v p) (refusal causes.NoProcess)

abbrev pub remove_lines : View → Pid → Segid → List Line
remove_lines v p segid =
    option_map_or (λ process. refused_or (unready v p) (refused_or (remove_refusal v p segid) (remove_acts v segid)))
    (process_at v p) (refusal causes.NoProcess)

-- the lines of a call
abbrev pub call_lines : View → Pid → Call → List Line
call_lines v p (calls.Alloc at n) = alloc_lines v p at n
call_lines v p (calls.Make addr size mode) = make_lines v p addr size mode
call_lines v p (calls.Remove segid) = remove_lines v p segid

-- the causes for which an enclave itself refuses: that it doesn't live is for others to say
abbrev pub IsOwnCause : Cause → Type 0
IsOwnCause causes.NoEnclave = ⊥
IsOwnCause cause = Unit {0}

-- the line is one that an enclave may write for a call: a refusal, or one of its own; `holder` is the one with the name server
abbrev pub IsCallLine : Enclave → Enclave → Line → Type 0
IsCallLine holder y (lines.Refused cause) = IsOwnCause cause
IsCallLine holder y (lines.Alloc e p at frames) = e ≡ y
IsCallLine holder y (lines.Issue e p call) = e ≡ y
IsCallLine holder y (lines.Drew e call segid) = holder ≡ y
IsCallLine holder y (lines.Named e call segid) = e ≡ y
IsCallLine holder y (lines.Unnamed segid) = holder ≡ y
IsCallLine holder y (lines.Remove e segid) = e ≡ y
IsCallLine holder y (lines.AnswerSegid e p call segid) = e ≡ y
IsCallLine holder y (lines.Sent a b r) = a ≡ y
IsCallLine holder y (lines.Dropped e) = e ≡ y
IsCallLine holder y line = ⊥

abbrev pub AreCallLines : Enclave → Enclave → List Line → Type 0
AreCallLines holder y journal = AllByRecursion (IsCallLine holder y) journal

-- the enclave has what is to be shown: the host has the pool, and the holder of the name server the names
abbrev pub HasShown : View → Show → Type 0
HasShown v shows.Routes = Unit {0}
HasShown v shows.Pool = v.me.0 ≡ 0
HasShown v shows.Names = v.core.holder ≡ true

-- the lines that show it
abbrev pub show_lines : View → Show → List Line
show_lines v shows.Routes = route_lines v
show_lines v shows.Pool = state_lines 0 v.host.states
show_lines v shows.Names = name_rows v.names.pairs

-- the line shows something of an enclave, and changes nothing
abbrev pub IsShowLine : Line → Type 0
IsShowLine (lines.AtWay e over) = Unit {0}
IsShowLine (lines.AtWayOwn e) = Unit {0}
IsShowLine (lines.AtWayNone e) = Unit {0}
IsShowLine (lines.AtRoute e of over) = Unit {0}
IsShowLine (lines.BlockFree b) = Unit {0}
IsShowLine (lines.BlockLent b e) = Unit {0}
IsShowLine (lines.BlockHeld b e) = Unit {0}
IsShowLine (lines.Name segid owner) = Unit {0}
IsShowLine line = ⊥

abbrev pub AreShowLines : List Line → Type 0
AreShowLines journal = AllByRecursion IsShowLine journal
