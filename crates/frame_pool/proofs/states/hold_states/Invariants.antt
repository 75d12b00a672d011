use Rattle.std.proofs.Common.{◌≡◌, ◌++◌, take, drop, map}
use Rattle.frame_pool.specs.Blocks.{held_of}
use Rattle.frame_pool.proofs.states.hold_states.Given as goal

abbrev pub invariant-loop-state : goal.invariant-loop-state
invariant-loop-state l = l.states ≡ map (held_of l.of) (take l.state-index l.fn.states) ++ drop l.state-index l.fn.states
