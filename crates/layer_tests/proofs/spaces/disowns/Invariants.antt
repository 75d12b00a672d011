use Rattle.std.proofs.Common.{ℕ, ◌≤◌, ◌<◌}
use Rattle.std.specs.Prelude.{IsSome}
use Rattle.xm_num.specs.Rows.{at}
use Rattle.page_table.specs.Spaces.{own_frame}
use Rattle.layer_tests.proofs.spaces.disowns.Given as goal

abbrev pub invariant-loop-page : goal.invariant-loop-page
invariant-loop-page g l = (v : ℕ) → l.at ≤ v → v < l.page → IsSome (own_frame (at (g.S.AddressSpace.pages l.held-inside.space) v))
