use Rattle.attach_map.proofs.KeptLemmas.{nothing_kept}
use Rattle.attach_map.proofs.HeldLemmas.{nothing_held}
use Rattle.attach_map.proofs.attacher.Attacher.new.Goals as goal

pub invariant_of-result : goal.invariant_of-result
invariant_of-result g c = rw (c.new.ensures, c.new-2.ensures, c.new-3.ensures) (nothing_kept, nothing_held)
