use Rattle.enclave_node.proofs.TiedLemmas.{found_after}
use Rattle.enclave_node.proofs.memory.Memory.find.Goals as goal

pub invariant_of-self : goal.invariant_of-self
invariant_of-self g c =
    let s = c.self.inside in
    found_after s.blocks s.exporter s.attacher c.found.new.self c.args.self.now c.args.call.0 c.args.owner c.self.invariant c.row_laws.ensures c.self.view_is c.requires c.found.ensures
