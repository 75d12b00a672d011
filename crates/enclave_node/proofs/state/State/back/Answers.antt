use Rattle.std.proofs.Common.{refl}
use Rattle.enclave_node.proofs.WayLemmas.{back_seen}
use Rattle.enclave_node.proofs.state.State.back.Goals as goal

pub returns : goal.returns
returns g c = back_seen c.back.result _ c.args.self.now c.self.inside.routes c.back.new.self c.side_of.result c.args.of c.args.over c.self.view_is refl c.side_of.ensures c.back.ensures.after
