use Rattle.std.proofs.Common.{◌≡◌, ◌≤◌, ◌-◌, ◌++◌, length, take, drop}
use Rattle.frame_pool.specs.Blocks.{free_from, free_blocks}
use Rattle.frame_pool.proofs.states.first_free.Given as goal

abbrev pub invariant-loop-number : goal.invariant-loop-number
invariant-loop-number l = record {
  few : length l.blocks ≤ l.n;
  found : l.blocks ++ take (l.n - length l.blocks) (free_from l.number (drop l.number l.states)) ≡ take l.n (free_blocks l.states);
}
