use Rattle.std.proofs.Common.{◌≡◌, length}
use Rattle.exporter_pins.specs.Holdings.{owned_by_others}
use Rattle.exporter_pins.proofs.frames.FrameTable.free_process.Given as goal

abbrev pub decreases-loop-number : goal.decreases-loop-number
decreases-loop-number l = length l.self.owners

abbrev pub invariant-loop-number : goal.invariant-loop-number
invariant-loop-number l =
    record {
      owners : owned_by_others l.pid.0 l.self.owners ≡ owned_by_others l.pid.0 l.fn.self.owners;
      frames : l.self.frames ≡ l.fn.self.frames;
      covers : l.self.covers ≡ l.fn.self.covers;
    }
