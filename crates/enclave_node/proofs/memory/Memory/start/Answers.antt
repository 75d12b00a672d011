use Rattle.enclave_node.proofs.TiedLemmas.{started_after}
use Rattle.enclave_node.proofs.memory.Memory.start.Goals as goal

pub invariant_of-self : goal.invariant_of-self
invariant_of-self g c =
    let s = c.self.inside in
    started_after c.start.result s.blocks s.exporter s.attacher c.start.new.self c.args.uid c.args.gid c.self.invariant c.started.ensures.numbered c.start.ensures.ok c.start.ensures.err
