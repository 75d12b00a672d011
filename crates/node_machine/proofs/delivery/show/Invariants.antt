use Rattle.std.proofs.Common.{◌≡◌, ◌++◌, ◌-◌, length}
use Rattle.byte_link.specs.Channel.{waiting_bytes}
use Rattle.enclave_rules.specs.Steps.{bytes_lines}
use Rattle.node_machine.proofs.ByteLemmas.{lines_from}
use Rattle.node_machine.proofs.delivery.show.Given as goal

abbrev pub invariant-loop-at : goal.invariant-loop-at
invariant-loop-at l = l.out ++ lines_from l.from l.to l.at (waiting_bytes l.link) ≡ l.fn.out ++ bytes_lines l.from l.to (length (waiting_bytes l.link)) 0 (waiting_bytes l.link)

abbrev pub decreases-loop-at : goal.decreases-loop-at
decreases-loop-at l = length (waiting_bytes l.link) - l.at
