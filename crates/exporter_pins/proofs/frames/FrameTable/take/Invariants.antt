use Rattle.std.proofs.Common.{◌≡◌, ◌++◌, length}
use Rattle.exporter_pins.specs.Holdings.{own_all}
use Rattle.exporter_pins.specs.Layout.{free_in}
use Rattle.exporter_pins.proofs.frames.FrameTable.take.Given as goal

abbrev pub invariant-loop-turn : goal.invariant-loop-turn
invariant-loop-turn l =
    record {
      list : free_in l.fn.self ≡ l.list ++ free_in l.self;
      len : length l.list ≡ l.turn;
      owners : l.self.owners ≡ own_all l.fn.self.owners l.pid.0 l.list;
      frames : l.self.frames ≡ l.fn.self.frames;
      covers : l.self.covers ≡ l.fn.self.covers;
    }
