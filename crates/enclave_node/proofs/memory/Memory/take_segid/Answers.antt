use Rattle.enclave_node.proofs.TiedLemmas.{settled_after}
use Rattle.enclave_node.proofs.memory.Memory.take_segid.Goals as goal

pub invariant_of-self : goal.invariant_of-self
invariant_of-self g c =
    let s = c.self.inside in
    settled_after s.blocks s.exporter s.attacher c.settle_name.new.self c.settle_reply.new.self c.args.call.0 _ c.self.invariant c.export_laws.ensures c.row_laws.ensures c.settle_name.ensures c.settle_reply.ensures
