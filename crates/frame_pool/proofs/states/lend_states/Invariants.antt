use Rattle.std.proofs.Common.{◌≡◌, drop}
use Rattle.frame_pool.specs.Blocks.{with_lent}
use Rattle.frame_pool.proofs.states.lend_states.Given as goal

abbrev pub invariant-loop-block : goal.invariant-loop-block
invariant-loop-block l = with_lent (drop l.block-index l.blocks) l.to l.states ≡ with_lent l.blocks l.to l.fn.states
