use Rattle.std.proofs.Common.{get_or, arith}
use Rattle.std.proofs.lemmas.List.{get_or_default}
use Rattle.std.proofs.lemmas.List.Edits.{map_over_more}
use Rattle.frame_pool.specs.declared.BlockState.TheVariants.{Free}
use Rattle.frame_pool.specs.Blocks.{held_of}
use Rattle.frame_pool.proofs.states.hold_states.Goals as goal

pub loop-state-preserved : goal.loop-state-preserved
loop-state-preserved c =
    let i = c.loop-state.state-index in
    let states = c.loop-state.states in
    let state = get_or states i Free in
    let step = map_over_more (held_of c.args.of) c.args.states.now states i state (omega arith) c.loop-state.invariant (get_or_default states i Free state (omega arith)) in
    rw c.held.ensures step
