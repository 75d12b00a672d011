use Rattle.std.proofs.Common.{◌≡◌, ap, ◌∙◌, Err, arith}
use Rattle.frame_pool.specs.declared.PoolFault.TheVariants as faults
use Rattle.enclave_node.proofs.PoolLemmas.{fresh, fresh_lent}
use Rattle.enclave_node.proofs.host.HostPart.new.Goals as goal

pub returns-in-Err-clause-short : goal.returns-in-Err-clause-short
returns-in-Err-clause-short c =
    let made = fresh c.in-Ok.pool c.args.pool c.args.n c.in-Ok.ensures.all_free in
    (λ is. let same : c.in-Err.fault ≡ faults.NoBlocks = cc in omega (arith, made.count, c.in-Err.ensures.short.0 (ap Err same)), λ lt. absurd (omega arith))

pub returns-in-Ok-lend-clause-blocks : goal.returns-in-Ok-lend-clause-blocks
returns-in-Ok-lend-clause-blocks c =
    let made = fresh c.in-Ok.pool c.args.pool c.args.n c.in-Ok.ensures.all_free in
    c.in-Ok-lend.ensures.blocks ∙ made.lowest c.if-pool-n.false

pub returns-in-Ok-lend-clause-part : goal.returns-in-Ok-lend-clause-part
returns-in-Ok-lend-clause-part c =
    let made = fresh c.in-Ok.pool c.args.pool c.args.n c.in-Ok.ensures.all_free in
    c.in-Ok-lend.ensures.after ∙ fresh_lent c.in-Ok.pool c.args.pool c.args.n c.new-2.result made c.if-pool-n.false c.new-2.ensures
