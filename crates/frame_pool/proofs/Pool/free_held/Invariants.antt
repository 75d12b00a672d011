use Rattle.std.proofs.Common.{◌≡◌, ◌++◌, take, drop, map}
use Rattle.frame_pool.specs.Blocks.{freed_of}
use Rattle.frame_pool.specs.Layout.{IsPool}
use Rattle.frame_pool.proofs.Pool.free_held.Given as goal

abbrev pub invariant-loop-i : goal.invariant-loop-i
invariant-loop-i l = record {
  pool : IsPool l.self-inside.states.items l.self-inside.free l.self-inside.low;
  freed : l.self-inside.states.items ≡ map (freed_of l.of) (take l.i l.fn.self) ++ drop l.i l.fn.self;
}
