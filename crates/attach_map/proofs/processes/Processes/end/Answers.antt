use Rattle.std.proofs.Common.{◌∙◌}
use Rattle.attach_map.proofs.TableLemmas.{left}
use Rattle.attach_map.proofs.processes.Processes.end.Goals as goal

pub invariant_of-self : goal.invariant_of-self
invariant_of-self g c = rw (c.shift_remove.ensures.entries ∙ left _ c.args.pid) (c.row_laws.ensures.less_ascends _ c.args.pid c.self.invariant)

pub returns : goal.returns
returns g c = rw (← c.self.view_is) (c.shift_remove.ensures.entries ∙ left _ c.args.pid)
