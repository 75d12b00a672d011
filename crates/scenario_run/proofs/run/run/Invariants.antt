use Rattle.std.proofs.Common.{◌≡◌, ◌+◌, ◌<◌, ◌≤◌, length}
use Rattle.scenario_run.proofs.RunLemmas.{SoFar}
use Rattle.scenario_run.proofs.run.run.Given as goal

abbrev pub invariant-loop-rest : goal.invariant-loop-rest
invariant-loop-rest g l = record {
  so_far : SoFar l.bytes l.world l.before l.number l.rest (g.K.Sink.contents l.initial.sink) (g.K.Sink.contents l.sink);
  count : l.number + length l.rest ≤ length l.bytes + 1;
  before : l.before < l.number;
  faults : g.K.Sink.faults l.sink ≡ g.K.Sink.faults l.initial.sink;
}

abbrev pub decreases-loop-rest : goal.decreases-loop-rest
decreases-loop-rest g l = length l.rest
