use Rattle.enclave_node.proofs.TiedLemmas.{grants_after}
use Rattle.enclave_node.proofs.memory.Memory.grant.Goals as goal

pub invariant_of-self : goal.invariant_of-self
invariant_of-self g c =
    let s = c.self.inside in
    grants_after c.grant.result s.blocks s.exporter c.grant.new.self s.attacher _ c.self.invariant c.grant.ensures.after c.grant.ensures.err
