use Rattle.std.proofs.Common.{length, ap, arith}
use Rattle.frame_pool.proofs.FreeLemmas.{length-free_from}
use Rattle.frame_pool.proofs.Pool.free_count.Goals as goal

pub returns-clause-range : goal.returns-clause-range
returns-clause-range c =
    let count = c.self.invariant.counted in
    let few = length-free_from 0 c.self.inside.states.items in
    let long = ap length c.self.view_is in
    omega (arith, long)
