use Rattle.std.proofs.Common.{◌≡◌, ◌≤◌, ◌-◌, length, take, is_some}
use Rattle.std.specs.Io.KnownBytes.{Appends}
use Rattle.xm_edge.proofs.whole.write_all.Given as goal

abbrev pub invariant-loop-at : goal.invariant-loop-at
invariant-loop-at g l = record {
  put : Appends (g.K.Sink.contents l.initial.sink) (g.K.Sink.contents l.sink) (take l.at l.piece);
  within : l.at ≤ length l.piece;
  tells : is_some (g.K.Sink.contents l.sink) ≡ is_some (g.K.Sink.contents l.initial.sink);
  faults : g.K.Sink.faults l.sink ≡ g.K.Sink.faults l.initial.sink;
}

abbrev pub decreases-loop-at : goal.decreases-loop-at
decreases-loop-at g l = length l.piece - l.at
