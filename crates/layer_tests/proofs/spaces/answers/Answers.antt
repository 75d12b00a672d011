use Rattle.layer_tests.proofs.RightLemmas.{right_at, right_spent}
use Rattle.layer_tests.proofs.spaces.answers.Goals as goal

pub unmap-requires : goal.unmap-requires
unmap-requires g c = right_at _ c.held.inside.right c.in-Unmap-Some.right c.held.invariant c.in-Unmap-Some.is-1

pub invariant_of-result : goal.invariant_of-result
invariant_of-result g c = right_spent _ _ c.held.inside.right c.in-Unmap-Some.right c.held.invariant c.in-Unmap-Some.is-1 c.unmap.ensures.out
