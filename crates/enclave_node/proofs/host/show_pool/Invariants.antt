use Rattle.std.proofs.Common.{◌≡◌, ◌++◌, drop}
use Rattle.enclave_rules.specs.Steps as steps
use Rattle.enclave_node.proofs.host.show_pool.Given as goal

abbrev pub invariant-loop-number : goal.invariant-loop-number
invariant-loop-number l = l.out ++ steps.state_lines l.number (drop l.number l.pool) ≡ l.initial.out ++ steps.state_lines 0 l.pool
