use Rattle.layer_tests.proofs.RightLemmas.{right_at, right_spent}
use Rattle.layer_tests.proofs.spaces.end.Goals as goal

pub unmap-requires : goal.unmap-requires
unmap-requires g c = right_at _ c.held.inside.right c.in-Some.last c.held.invariant c.in-Some.is

pub close-requires-in-Some : goal.close-requires-in-Some
close-requires-in-Some g c = right_spent _ _ c.held.inside.right c.in-Some.last c.held.invariant c.in-Some.is c.unmap.ensures.out
