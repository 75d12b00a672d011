use Rattle.enclave_node.proofs.TiedLemmas.{ungranted_after}
use Rattle.enclave_node.proofs.memory.Memory.ungrant.Goals as goal

pub invariant_of-self : goal.invariant_of-self
invariant_of-self g c =
    let s = c.self.inside in
    ungranted_after s.blocks s.exporter c.ungrant.new.self s.attacher _ c.self.invariant c.ungrant.ensures.after
