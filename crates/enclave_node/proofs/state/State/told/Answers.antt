use Rattle.std.proofs.Common.{refl}
use Rattle.enclave_node.proofs.WayLemmas.{told_seen}
use Rattle.enclave_node.proofs.state.State.told.Goals as goal

pub returns-clause-after : goal.returns-clause-after
returns-clause-after g c = told_seen _ c.args.self.now c.self.inside.routes c.here.new.self c.side_of.result c.args.from c.self.view_is refl c.side_of.ensures c.here.ensures.after
