-- The processes of an enclave, their pages and their waiting calls, and the frames that are in no use.
use Rattle.std.specs.Prelude.{◌+◌, ℕ, List, [], map, filter, Bool, true, not, ◌||◌, ◌&&◌, ◌==◌, Option, None, is_some, option_map}
use Rattle.std.specs.List.{list_any}
use Rattle.std.specs.Option.{option_map_or}
use Rattle.xm_num.specs.declared.Block.{Block}
use Rattle.xm_num.specs.declared.CallNo.{CallNo}
use Rattle.xm_num.specs.declared.Frame.{Frame}
use Rattle.xm_num.specs.declared.Page.{Page}
use Rattle.xm_num.specs.declared.Pid.{Pid}
use Rattle.xm_num.specs.Rows.{at, less, put, put_all}
use Rattle.xemem_language.specs.declared.line.Line.{Line}
use Rattle.xemem_language.specs.declared.line.Line.TheVariants as lines
use Rattle.attach_map.specs.declared.Pending.TheVariants as pendings
use Rattle.attach_map.specs.Attaching.{ProcessState, PermitState, AttacherState, waiting_call_of, wanted_permit}
use Rattle.exporter_pins.specs.Holdings.{Export, is_covered}
use Rattle.enclave_rules.specs.Pages.{frames_of, own_page}

abbrev pub no_memory : AttacherState
no_memory = record { started = 0; processes = []; issued = 0; waiting = []; permits = [] }

abbrev pub new_process : ℕ → ℕ → ProcessState
new_process uid gid = record { uid = uid; gid = gid; pages = [] }

-- the process with these frames as own pages from that one on
abbrev pub with_pages : ℕ → List Frame → ProcessState → ProcessState
with_pages page frames process = record process { pages = put_all process.pages page (map own_page frames) }

-- a process that lives, changed so
abbrev pub with_process : ℕ → (ProcessState → ProcessState) → AttacherState → AttacherState
with_process p change m = option_map_or (λ process. record m { processes = put m.processes p (change process) }) (at m.processes p) m

-- the process's next call waits; so far only a make does
abbrev pub with_issued : Pid → CallNo → AttacherState → AttacherState
with_issued p call m = record m {
  issued = m.issued + 1;
  waiting = put m.waiting call.0 (record { call = call; pid = p; living = true; what = pendings.Make });
}

-- the call waits no longer
abbrev pub with_answered : CallNo → AttacherState → AttacherState
with_answered call m = record m { waiting = less m.waiting call.0 }

-- the permit for which the call waits, of a segment of so many pages, and the process that then holds it
abbrev pub permit_for : AttacherState → ℕ → ℕ → Option PermitState
permit_for m call pages =
    option_map_or (λ w. option_map (λ permit. record { pid = w.pid.0; permit = permit }) (wanted_permit w.what pages)) (at m.waiting call) None

-- the call waits no longer, and the permit for which it waited is held under its number
abbrev pub with_granted : CallNo → ℕ → AttacherState → AttacherState
with_granted call pages m = record m {
  waiting = less m.waiting call.0;
  permits = option_map_or (put m.permits call.0) (permit_for m call.0 pages) m.permits;
}

-- the permit of that number is held no longer
abbrev pub with_released : CallNo → AttacherState → AttacherState
with_released call m = record m { permits = less m.permits call.0 }

-- a call of the process waits
abbrev pub is_busy : AttacherState → ℕ → Bool
is_busy m p = is_some (waiting_call_of m.waiting p)

-- what a line at the enclave changes of it
abbrev pub memory_line : AttacherState → Line → AttacherState
memory_line m (lines.Proc e p uid gid) = record m { started = m.started + 1; processes = put m.processes p.0 (new_process uid gid) }
memory_line m (lines.Alloc e p page frames) = with_process p.0 (with_pages page.0 frames) m
memory_line m (lines.Issue e p call) = with_issued p call m
memory_line m (lines.AnswerSegid e p call segid) = with_answered call m
memory_line m (lines.AnswerApid e p call apid pages) = with_granted call pages m
memory_line m (lines.AnswerRefused e p call cause) = with_answered call m
memory_line m (lines.Release e call) = with_released call m
memory_line m line = m

-- one of the pages is an own page with the frame
abbrev pub has_own : ℕ → List (ℕ × Page) → Bool
has_own f pages = list_any (λ row. row.1.own && (row.1.frame.0 == f)) pages

-- an own page of a process has the frame
abbrev pub is_used : AttacherState → ℕ → Bool
is_used m f = list_any (λ row. has_own f row.1.pages) m.processes

-- the frames of the blocks that are in no use, in their order: no own page and no export has them
abbrev pub unused : List Block → AttacherState → List (ℕ × Export) → List Frame
unused blocks m exports = filter (λ f. not (is_used m f.0 || is_covered exports f.0)) (frames_of blocks)
