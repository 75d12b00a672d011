use Rattle.enclave_node.proofs.TiedLemmas.{permit_after}
use Rattle.enclave_node.proofs.memory.Memory.take_permit.Goals as goal

pub invariant_of-self : goal.invariant_of-self
invariant_of-self g c =
    let s = c.self.inside in
    permit_after c.granted.result s.blocks s.exporter s.attacher c.granted.new.self c.args.call.0 c.args.pages c.self.invariant c.row_laws.ensures c.granted.ensures.ok c.granted.ensures.err
