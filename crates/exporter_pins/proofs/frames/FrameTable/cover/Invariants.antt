use Rattle.std.proofs.Common.{◌≡◌, ◌+◌, ℕ, take}
use Rattle.exporter_pins.specs.Layout.{cover_at, frame_times}
use Rattle.exporter_pins.proofs.frames.FrameTable.cover.Given as goal

abbrev pub invariant-loop-i : goal.invariant-loop-i
invariant-loop-i l =
    record {
      covers : (k : ℕ) → cover_at l.self.covers k ≡ frame_times (take l.i l.frames) k + cover_at l.fn.self.covers k;
      frames : l.self.frames ≡ l.fn.self.frames;
      owners : l.self.owners ≡ l.fn.self.owners;
    }
