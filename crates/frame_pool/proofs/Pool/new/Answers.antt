use Rattle.std.proofs.Common.{◌≡◌, replicate, rules}
use Rattle.frame_pool.specs.declared.BlockState.TheVariants.{Free}
use Rattle.frame_pool.proofs.FreeLemmas.{pool_new}
use Rattle.frame_pool.proofs.Pool.new.Goals as goal

pub invariant_of-result : goal.invariant_of-result
invariant_of-result c =
    let all : c.in_ok-vec.field-0.items ≡ replicate c.args.blocks Free = search rules in
    rw all (pool_new c.args.blocks c.requires.some c.requires.most)
