use Rattle.enclave_node.proofs.TiedLemmas.{ended_call_after}
use Rattle.enclave_node.proofs.memory.Memory.end_call.Goals as goal

pub invariant_of-self : goal.invariant_of-self
invariant_of-self g c =
    let s = c.self.inside in
    ended_call_after s.blocks s.exporter s.attacher c.settle_reply.new.self c.args.call.0 c.self.invariant c.row_laws.ensures c.settle_reply.ensures
