use Rattle.std.proofs.Common.{◌++◌, ◌∙◌, ap, length, arith}
use Rattle.xemem_wire.specs.Spelling.{spelling_of}
use Rattle.node_machine.proofs.delivery.send_over.Goals as goal

pub send-requires-clause-filled : goal.send-requires-clause-filled
send-requires-clause-filled c =
    let bytes = c.deref.ensures.value ∙ c.in_ok-encode.ensures.ok ∙ ap (λ xs. xs ++ spelling_of c.args.rec.now) c.clear.ensures.items in
    omega (arith, ap length bytes, c.laws.ensures.least c.args.rec.now)
