use Rattle.enclave_node.proofs.TiedLemmas.{get_after}
use Rattle.enclave_node.proofs.memory.Memory.get.Goals as goal

pub invariant_of-self : goal.invariant_of-self
invariant_of-self g c =
    let s = c.self.inside in
    get_after c.issue.result s.blocks s.exporter s.attacher c.issue.new.self c.args.pid c.args.what c.self.invariant c.row_laws.ensures c.requires.get c.issue.ensures.ok c.issue.ensures.err
