use Rattle.std.proofs.Common.{◌≡◌, ◌-◌, take, drop}
use Rattle.byte_link.specs.Channel.{waiting_bytes}
use Rattle.node_machine.proofs.delivery.bytes_at.Given as goal

abbrev pub invariant-loop-i : goal.invariant-loop-i
invariant-loop-i l = l.bytes ≡ take (l.i - l.at) (drop l.at (waiting_bytes l.link))
