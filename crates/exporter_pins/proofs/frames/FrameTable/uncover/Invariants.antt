use Rattle.std.proofs.Common.{◌≡◌, ◌+◌, ℕ, take}
use Rattle.exporter_pins.specs.Layout.{cover_at, frame_times}
use Rattle.exporter_pins.proofs.frames.FrameTable.uncover.Given as goal

abbrev pub invariant-loop-frame : goal.invariant-loop-frame
invariant-loop-frame l =
    record {
      covers : (k : ℕ) → cover_at l.fn.self.covers k ≡ frame_times (take l.frame-index l.frames) k + cover_at l.self.covers k;
      frames : l.self.frames ≡ l.fn.self.frames;
      owners : l.self.owners ≡ l.fn.self.owners;
    }
