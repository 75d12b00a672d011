use Rattle.std.proofs.Common.{◌≡◌, ℕ, take, ◌&&◌, None}
use Rattle.std.specs.Prelude.{if◌then◌else◌}
use Rattle.xm_num.specs.Rows.{at, IsAscending}
use Rattle.exporter_pins.specs.Holdings.{has_frame}
use Rattle.exporter_pins.specs.Layout.{is_owner}
use Rattle.exporter_pins.proofs.frames.FrameTable.give_back.Given as goal

abbrev pub invariant-loop-frame : goal.invariant-loop-frame
invariant-loop-frame l =
    record {
      owners : (k : ℕ) → at l.self.owners k ≡ (if has_frame (take l.frame-index l.frames) k && is_owner l.pid.0 (at l.fn.self.owners k) then None else at l.fn.self.owners k);
      frames : l.self.frames ≡ l.fn.self.frames;
      covers : l.self.covers ≡ l.fn.self.covers;
      ascending : IsAscending l.self.owners;
    }
