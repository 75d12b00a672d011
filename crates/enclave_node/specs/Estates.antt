-- What an enclave has of frames, pages and exports, and what its calls change of it.
use Rattle.std.specs.Prelude.{◌≡◌, ◌+◌, ℕ, Bool, ◌&&◌, List, [], ◌∷◌, take, Option, None, Some, is_none, if◌then◌else◌}
use Rattle.std.specs.Option.{option_map_or}
use Rattle.xm_num.specs.declared.Block.{Block}
use Rattle.xm_num.specs.declared.CallNo.{CallNo}
use Rattle.xm_num.specs.declared.Frame.{Frame}
use Rattle.xm_num.specs.declared.Pid.{Pid}
use Rattle.xm_num.specs.declared.Segid.{Segid}
use Rattle.xm_num.specs.Rows.{at, put, less}
use Rattle.exporter_pins.specs.Holdings.{Export, Holdings, is_asked, live_export, asked_export, with_live, with_export, without_owner}
use Rattle.attach_map.specs.declared.Waiting.{Waiting}
use Rattle.attach_map.specs.Attaching.{AttacherState, pages_in, process_started}
use Rattle.enclave_rules.specs.Exports.{segid_number, is_segid, region_frames, without_live}
use Rattle.enclave_rules.specs.Grants.{Grants}
use Rattle.enclave_rules.specs.Memory.{no_memory, unused, with_pages, with_process, with_issued, with_answered}
use Rattle.enclave_rules.specs.Segments.{is_waiting_make, are_own_pages}

-- the blocks of an enclave, its processes with their pages and waiting calls, its exports, and the grants of these
pub record Estate : Type 0 where
  pub blocks : List Block
  pub memory : AttacherState
  pub exports : List (ℕ × Export)
  pub grants : Grants

abbrev pub new_estate : List Block → Estate
new_estate blocks = record { blocks = blocks; memory = no_memory; exports = []; grants = [] }

abbrev pub with_start : ℕ → ℕ → Estate → Estate
with_start uid gid e = record e { memory = process_started e.memory uid gid }

abbrev pub unused_of : Estate → List Frame
unused_of e = unused e.blocks e.memory e.exports

-- the process has the lowest unused frames as own pages from that one on
abbrev pub with_lowest : ℕ → ℕ → ℕ → Estate → Estate
with_lowest p page n e = record e { memory = with_process p (with_pages page (take n (unused_of e))) e.memory }

-- the frames are those of an export that the process's next call asks for
abbrev pub with_asked_for : AttacherState → ℕ → ℕ → List Frame → Holdings → Holdings
with_asked_for m p mode frames h = option_map_or (λ process. with_export (m.issued + 1) (asked_export p process.uid process.gid mode frames) h) (at m.processes p) h

-- what a process exports of its pages, under that mode
abbrev pub with_export_of : ℕ → ℕ → ℕ → ℕ → ℕ → AttacherState → List (ℕ × Export) → List (ℕ × Export)
with_export_of call p page n mode m exports =
    option_map_or (λ process. put exports call (asked_export p process.uid process.gid mode (region_frames process.pages page n))) (at m.processes p) exports

-- the next call is a make of those pages
abbrev pub with_make : Pid → ℕ → ℕ → ℕ → Estate → Estate
with_make p page n mode e = record e {
  memory = with_issued p (record { 0 = e.memory.issued + 1 }) e.memory;
  exports = with_export_of (e.memory.issued + 1) p.0 page n mode e.memory e.exports;
}

-- so many pages of the process from that one on are own ones
abbrev pub owns_pages : AttacherState → ℕ → ℕ → ℕ → Bool
owns_pages m p page n = are_own_pages (pages_in m p) page n

-- the make that waits takes the segid: its export is asked for, and no live one has it
abbrev pub takes_segid : List (ℕ × Export) → ℕ → Segid → Waiting → Bool
takes_segid exports call segid waiting =
    is_segid segid && (is_waiting_make waiting && (is_asked (at exports call) && is_none (live_export exports (segid_number segid))))

-- the process whose make takes it
abbrev pub taker : Estate → ℕ → Segid → Option Pid
taker e call segid = option_map_or (λ waiting. if takes_segid e.exports call segid waiting then Some waiting.pid else None) (at e.memory.waiting call) None

-- its export is live, and it waits no longer
abbrev pub with_named_make : CallNo → ℕ → Estate → Estate
with_named_make call segid e = record e { memory = with_answered call e.memory; exports = with_live call.0 segid e.exports }

abbrev pub with_segment_ended : ℕ → Estate → Estate
with_segment_ended segid e = record e { exports = without_live segid e.exports }

-- the process has the frames one after the other
abbrev pub HasAll : List (ℕ × ℕ) → ℕ → List Frame → Type 0
HasAll owners p [] = Unit {0}
HasAll owners p (f ∷ frames) = (at owners f.0 ≡ Some p) × HasAll (less owners f.0) p frames

-- it gives them back
abbrev pub freed : List Frame → Holdings → Holdings
freed [] h = h
freed (f ∷ frames) h = freed frames (without_owner f.0 h)
