use Rattle.std.proofs.Common.{◌≡◌, ◌++◌, length}
use Rattle.enclave_rules.specs.Steps.{told_askers}
use Rattle.enclave_node.proofs.SideLemmas.{unasked}
use Rattle.enclave_node.proofs.state.State.tell_askers.Given as goal

abbrev pub invariant-loop-asker : goal.invariant-loop-asker
invariant-loop-asker g l = record {
  lines : l.out ++ told_askers l.self l.self.ways.askers ≡ l.fn.out ++ told_askers l.fn.self l.fn.self.ways.askers;
  view : unasked l.self ≡ unasked l.fn.self;
}

abbrev pub decreases-loop-asker : goal.decreases-loop-asker
decreases-loop-asker g l = length l.self.ways.askers
