use Rattle.std.proofs.Common.{◌∙◌, arith}
use Rattle.byte_link.specs.Channel.{waiting_bytes}
use Rattle.node_machine.proofs.ByteLemmas.{read_at}
use Rattle.node_machine.proofs.delivery.bytes_at.Goals as goal

pub returns : goal.returns
returns c = c.loop-i.invariant ∙ read_at (waiting_bytes c.args.link.now) c.args.at c.loop-i.i (λ within. omega arith)
