use Rattle.std.proofs.Common.{refl, arith}
use Rattle.node_world.proofs.Steps.{start}
use Rattle.node_world.proofs.Counts.{nothing}
use Rattle.node_world.proofs.world.World.new.Goals as goal

pub invariant_of-result : goal.invariant_of-result
invariant_of-result c = rw (c.new.ensures, c.new-2.ensures) (record {
  words = refl;
  deliveries = refl;
  short = record { words = omega arith; deliveries = omega arith };
  history = λ going. record { placed = tt; told = refl; shown = start; appended = nothing };
  limit = λ which full. absurd (cc);
})
