use Rattle.std.proofs.Common.{◌≡◌, ◌++◌, drop}
use Rattle.enclave_rules.specs.Steps.{told_lines}
use Rattle.enclave_node.proofs.births.tell_heard.Given as goal

abbrev pub invariant-loop-of : goal.invariant-loop-of
invariant-loop-of l = l.out ++ told_lines l.me (drop l.of-index l.heard) ≡ l.initial.out ++ told_lines l.me l.heard
