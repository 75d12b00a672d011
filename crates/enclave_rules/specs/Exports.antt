-- The exports of an enclave: those that are asked and those that are live.
use Rattle.std.specs.Prelude.{◌/◌, ℕ, ℤ, pos, negsuc, nat_abs, nat_le, List, map, Bool, false}
use Rattle.std.specs.List.{range_with_len}
use Rattle.std.specs.Option.{option_map_or}
use Rattle.xm_num.specs.declared.CallNo.{CallNo}
use Rattle.xm_num.specs.declared.Frame.{Frame}
use Rattle.xm_num.specs.declared.Page.{Page}
use Rattle.xm_num.specs.declared.Segid.{Segid}
use Rattle.xm_num.specs.Rows.{at, less, put}
use Rattle.xm_num.specs.Sizes.{page_bytes}
use Rattle.xemem_language.specs.declared.call.Call.{Call}
use Rattle.xemem_language.specs.declared.call.Call.TheVariants as calls
use Rattle.xemem_language.specs.declared.line.Line.{Line}
use Rattle.xemem_language.specs.declared.line.Line.TheVariants as lines
use Rattle.attach_map.specs.Attaching.{ProcessState, AttacherState}
use Rattle.exporter_pins.specs.Holdings.{Export, asked_export, live_export, with_live}
use Rattle.enclave_rules.specs.Hand.{Hand, Nothing, Calls, Reads}

-- a segid's number, and the segid of a number
abbrev pub segid_number : Segid → ℕ
segid_number segid = nat_abs segid.0

-- a number that isn't negative, and has 64 bits with its sign
abbrev pub fits_signed : ℤ → Bool
fits_signed (pos n) = nat_le n 9223372036854775807
fits_signed (negsuc n) = false

abbrev pub is_segid : Segid → Bool
is_segid segid = fits_signed segid.0

-- the frame of a page, where it is mapped
abbrev pub frame_at : List (ℕ × Page) → ℕ → Frame
frame_at pages page = option_map_or (λ found. found.frame) (at pages page) (record { 0 = 0 })

-- the frames of so many pages from that one on
abbrev pub region_frames : List (ℕ × Page) → ℕ → ℕ → List Frame
region_frames pages page count = map (frame_at pages) (range_with_len page count)

-- what a process exports from an address on, so many bytes, under that mode
abbrev pub region_export : ℕ → ProcessState → ℕ → ℕ → ℕ → Export
region_export p process addr size mode =
    asked_export p process.uid process.gid mode (region_frames process.pages (addr / page_bytes) (size / page_bytes))

-- the export of a make, where its process lives
abbrev pub with_asked : ℕ → CallNo → Call → AttacherState → List (ℕ × Export) → List (ℕ × Export)
with_asked p call (calls.Make addr size mode) m exports =
    option_map_or (λ process. put exports call.0 (region_export p process addr size mode)) (at m.processes p) exports
with_asked p call other m exports = exports

-- the call at hand is what is exported
abbrev pub with_issued_export : Hand → ℕ → CallNo → AttacherState → List (ℕ × Export) → List (ℕ × Export)
with_issued_export (Calls asked) p call m exports = with_asked p call asked.call m exports
with_issued_export Nothing p call m exports = exports
with_issued_export (Reads rec) p call m exports = exports

-- the exports without the live one of that segid
abbrev pub without_live : ℕ → List (ℕ × Export) → List (ℕ × Export)
without_live segid exports = option_map_or (λ row. less exports row.0) (live_export exports segid) exports

-- what a line at the enclave changes of them, by what is at hand and by its processes
abbrev pub exports_line : Hand → AttacherState → List (ℕ × Export) → Line → List (ℕ × Export)
exports_line hand m exports (lines.Issue e p call) = with_issued_export hand p.0 call m exports
exports_line hand m exports (lines.Named e call segid) = with_live call.0 (segid_number segid) exports
exports_line hand m exports (lines.Remove e segid) = without_live (segid_number segid) exports
exports_line hand m exports line = exports
