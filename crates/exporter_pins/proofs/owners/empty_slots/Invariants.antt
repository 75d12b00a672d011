use Rattle.std.proofs.Common.{◌≡◌, take, replicate, None}
use Rattle.exporter_pins.proofs.owners.empty_slots.Given as goal

abbrev pub invariant-loop-frame : goal.invariant-loop-frame
invariant-loop-frame l =
    record {
      list : l.list ≡ take l.frame-index l.frames;
      slots : l.slots.items ≡ replicate l.frame-index None;
    }
