use Rattle.enclave_node.proofs.WayLemmas.{here_seen}
use Rattle.enclave_node.proofs.state.State.on_here.Goals as goal

pub returns-clause-after : goal.returns-clause-after
returns-clause-after g c =
    here_seen c.send.result c.args.self.now c.told.new.self c.tell_askers.new.self c.args.from c.told.result c.if-not-told.false c.told.ensures.first c.told.ensures.after c.in_ok-tell_askers.ensures.after
