use Rattle.std.proofs.Common.{refl}
use Rattle.enclave_node.proofs.WayLemmas.{asked_seen}
use Rattle.enclave_node.proofs.state.State.asked.Goals as goal

pub returns-clause-after : goal.returns-clause-after
returns-clause-after g c = asked_seen c.asked.result _ c.args.self.now c.self.inside.routes c.asked.new.self c.side_of.result c.args.by c.self.view_is refl c.side_of.ensures c.asked.ensures.after
