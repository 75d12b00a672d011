use Rattle.std.proofs.Common.{sym, ap}
use Rattle.std.specs.Prelude.{is_some}
use Rattle.holder_table.specs.Holding.{held, without_held}
use Rattle.holder_table.proofs.HolderLemmas.{kept_without}
use Rattle.holder_table.proofs.Holders.remove.Goals as goal

pub invariant_of-self-2 : goal.invariant_of-self-2
unfolding held without_held
invariant_of-self-2 g c =
    rw (c.remove.ensures.entries)
    (kept_without c.self.inside.rows.entries c.self.inside.index c.self.invariant c.args.to.0 c.args.call.0 c.in-Some.held c.remove-2.new.self (sym c.in-Some.ensures.value) c.remove-2.ensures)

pub returns-in_default-clause-was : goal.returns-in_default-clause-was
unfolding held
returns-in_default-clause-was g c = rw (← c.self.view_is) (ap is_some c.in_default.ensures.value)

pub returns-in_default-clause-rows : goal.returns-in_default-clause-rows
unfolding without_held
returns-in_default-clause-rows g c = rw (← c.self.view_is) c.remove.ensures.entries

pub returns-clause-was : goal.returns-clause-was
unfolding held
returns-clause-was g c = rw (← c.self.view_is) (ap is_some c.in-Some.ensures.value)

pub returns-clause-rows : goal.returns-clause-rows
unfolding without_held
returns-clause-rows g c = rw (← c.self.view_is) c.remove.ensures.entries
