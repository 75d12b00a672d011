use Rattle.byte_link.proofs.Steps.{waits}
use Rattle.byte_link.proofs.Link.byte.Goals as goal

pub returns : goal.returns
returns c = rw (waits _ _ _ _ _ c.self.view_is c.self.invariant) c.get.ensures
