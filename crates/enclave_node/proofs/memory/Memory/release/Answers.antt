use Rattle.enclave_node.proofs.TiedLemmas.{released_after}
use Rattle.enclave_node.proofs.memory.Memory.release.Goals as goal

pub invariant_of-self : goal.invariant_of-self
invariant_of-self g c =
    let s = c.self.inside in
    released_after s.blocks s.exporter s.attacher c.release.new.self _ c.self.invariant c.release.ensures
