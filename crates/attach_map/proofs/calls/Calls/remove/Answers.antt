use Rattle.std.proofs.Common.{◌∙◌}
use Rattle.attach_map.proofs.TableLemmas.{left}
use Rattle.attach_map.proofs.calls.Calls.remove.Goals as goal

pub invariant_of-self : goal.invariant_of-self
invariant_of-self c = rw (c.shift_remove.ensures.entries ∙ left _ c.args.call) (c.row_laws.ensures.less_ascends _ c.args.call c.self.invariant)

pub returns : goal.returns
returns c = rw (← c.self.view_is) (c.shift_remove.ensures.entries ∙ left _ c.args.call)
