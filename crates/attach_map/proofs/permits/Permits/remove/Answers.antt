use Rattle.attach_map.proofs.PermitLemmas.{held_named}
use Rattle.attach_map.proofs.permits.Permits.remove.Goals as goal

pub unreachable-requires : goal.unreachable-requires
unreachable-requires c = held_named c.self.inside.rows.entries c.self.invariant.small c.args.apid.0 c.in_default.ensures.none (rw c.self.view_is c.requires)
