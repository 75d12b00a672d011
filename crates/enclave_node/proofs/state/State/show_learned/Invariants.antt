use Rattle.std.proofs.Common.{◌≡◌, ◌++◌, ◌-◌}
use Rattle.enclave_node.specs.Sides.{learned_lines}
use Rattle.enclave_node.proofs.RowLemmas.{rows_from}
use Rattle.enclave_node.proofs.state.State.show_learned.Given as goal

abbrev pub invariant-loop-of : goal.invariant-loop-of
invariant-loop-of g l = l.out ++ learned_lines l.self.me (rows_from l.number l.self.ways.routes) ≡ l.fn.out ++ learned_lines l.self.me l.self.ways.routes

abbrev pub decreases-loop-of : goal.decreases-loop-of
decreases-loop-of g l = 65536 - l.number
