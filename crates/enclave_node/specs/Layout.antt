-- What the parts of a node keep beside what is seen of them.
use Rattle.std.specs.Prelude.{◌≡◌, ◌+◌, ◌<◌, ℕ, List, [], is_some, Some, None, true, false}
use Rattle.xm_num.specs.declared.Page.{Page}
use Rattle.xm_num.specs.declared.Block.{Block}
use Rattle.xm_num.specs.Rows.{at, any_between, IsAscending}
use Rattle.xemem_wire.specs.Decoding.{Decoding}
use Rattle.exporter_pins.specs.Holdings.{Holdings, is_asked}
use Rattle.attach_map.specs.Attaching.{ProcessState, AttacherState}
use Rattle.attach_map.specs.declared.Waiting.{Waiting}
use Rattle.enclave_rules.specs.Pages.{AreBlocks, frames_of}
use Rattle.enclave_rules.specs.Memory.{is_used}
use Rattle.enclave_rules.specs.Segments.{is_waiting_make}

-- the decoders of channels: their numbers ascend, and each whole record was given
pub record AreFeeds (feeds : List (ℕ × Decoding)) : Type 0 where
  pub ascend : IsAscending feeds
  pub given : (k : ℕ) (feed : Decoding) → at feeds k ≡ Some feed → feed.records ≡ []

-- the process has the page as an own one with that frame
pub record IsOwn (m : AttacherState) (p page frame : ℕ) : Type 0 where
  pub process : ProcessState
  pub found : Page
  pub lives : at m.processes p ≡ Some process
  pub mapped : at process.pages page ≡ Some found
  pub own : found.own ≡ true
  pub frame_is : found.frame.0 ≡ frame

-- The frames and exports go with the processes and their calls: a process has just the frames of its own pages, no two pages have
-- one frame, no call to come has an export, and a make that waits has one that was asked for.
pub record AreTied (blocks : List Block) (h : Holdings) (m : AttacherState) : Type 0 where
  pub blocks_ascend : AreBlocks blocks
  pub frames_are : h.frames ≡ frames_of blocks
  pub owners_ascend : IsAscending h.owners
  pub exports_ascend : IsAscending h.exports
  pub waiting_ascend : IsAscending m.waiting
  pub used : (k : ℕ) → is_some (at h.owners k) ≡ is_used m k
  pub owned : (p page k : ℕ) → IsOwn m p page k → at h.owners k ≡ Some p
  pub single : (p a b k : ℕ) → IsOwn m p a k → IsOwn m p b k → a ≡ b
  pub ahead : (call : ℕ) → m.issued < call → at h.exports call ≡ None
  pub asked : (call : ℕ) (waiting : Waiting) → at m.waiting call ≡ Some waiting → is_waiting_make waiting ≡ true → is_asked (at h.exports call) ≡ true

-- the process lives, and of so many pages from that one on none is mapped
pub record HasRoom (m : AttacherState) (p page n : ℕ) : Type 0 where
  pub process : ProcessState
  pub lives : at m.processes p ≡ Some process
  pub free : any_between process.pages page (page + n) ≡ false
