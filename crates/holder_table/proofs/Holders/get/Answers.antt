use Rattle.std.proofs.Common.{◌∙◌}
use Rattle.holder_table.specs.Holding.{held}
use Rattle.holder_table.proofs.Holders.get.Goals as goal

pub returns-clause-value : goal.returns-clause-value
unfolding held
returns-clause-value g c = rw (← c.self.view_is) (c.copied.ensures ∙ c.get.ensures.value)
