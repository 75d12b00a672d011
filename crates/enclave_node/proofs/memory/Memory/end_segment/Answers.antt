use Rattle.enclave_rules.specs.Exports.{segid_number}
use Rattle.enclave_node.proofs.TiedLemmas.{ended_after}
use Rattle.enclave_node.proofs.memory.Memory.end_segment.Goals as goal

pub invariant_of-self : goal.invariant_of-self
invariant_of-self g c =
    let s = c.self.inside in
    ended_after s.blocks s.exporter s.attacher c.withdraw.new.self c.args.self.now c.args.call.0 (segid_number c.args.segid) c.self.invariant c.export_laws.ensures c.self.view_is c.requires c.withdraw.ensures
