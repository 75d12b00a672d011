use Rattle.std.proofs.Common.{arith, ◌<◌, length}
use Rattle.xemem_wire.proofs.KeptLemmas.{rest_short}
use Rattle.xemem_wire.proofs.read.short_length.Goals as goal

pub overflow_cast-result : goal.overflow_cast-result
overflow_cast-result c =
    let short : length c.args.rest.now < 16404 = rest_short c.args.rest.now (λ i. omega (arith, c.type_inv.rest i)) c.requires.fine c.requires.partial in
    omega arith

pub returns-clause-short : goal.returns-clause-short
returns-clause-short c =
    let short : length c.args.rest.now < 16404 = rest_short c.args.rest.now (λ i. omega (arith, c.type_inv.rest i)) c.requires.fine c.requires.partial in
    omega arith
