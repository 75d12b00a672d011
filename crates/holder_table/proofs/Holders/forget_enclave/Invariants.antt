use Rattle.std.proofs.Common.{◌≡◌, length}
use Rattle.holder_table.specs.Holding.{IsAscending, without_enclave}
use Rattle.holder_table.proofs.Holders.forget_enclave.Given as goal

abbrev pub invariant-loop-call : goal.invariant-loop-call
invariant-loop-call g l = record {
  same : without_enclave l.self l.gone.0 ≡ without_enclave l.initial.self l.gone.0;
  was : IsAscending l.self → IsAscending l.initial.self;
}

abbrev pub decreases-loop-call : goal.decreases-loop-call
decreases-loop-call g l = length l.self
