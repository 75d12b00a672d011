use Rattle.holder_table.specs.Holding.{held}
use Rattle.holder_table.proofs.Holders.has.Goals as goal

pub returns : goal.returns
unfolding held
returns g c = rw (← c.self.view_is) c.contains_key.ensures
