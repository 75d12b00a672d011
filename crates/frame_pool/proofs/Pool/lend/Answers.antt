use Rattle.std.proofs.Common.{◌≡◌, length, take, ap, ◌∙◌, rules}
use Rattle.frame_pool.specs.Blocks.{free_blocks, with_lent}
use Rattle.frame_pool.specs.Layout.{behind}
use Rattle.frame_pool.proofs.FreeLemmas.{written_back}
use Rattle.frame_pool.proofs.LentLemmas.{length-lend_from, pool_lent}
use Rattle.frame_pool.proofs.Pool.lend.Goals as goal

pub invariant_of-self : goal.invariant_of-self
invariant_of-self c =
    let states = c.self.inside.states.items in
    let blocks = take c.args.n (free_blocks states) in
    let found : c.in_ok-blocks.blocks ≡ blocks = search rules in
    let new : c.lend_states.new.states ≡ with_lent blocks c.args.to states = cc in
    let low : c.low_behind-self-inside.result ≡ behind blocks c.self.inside.low = cc in
    let long = ap length new ∙ length-lend_from 0 blocks c.args.to states in
    rw (written_back c.self.inside.states.len c.lend_states.new.states states c.self.inside.states.ok.0 long, new, low) (pool_lent c.args.to c.args.n _ _ states c.self.invariant)
