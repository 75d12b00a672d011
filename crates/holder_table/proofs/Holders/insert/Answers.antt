use Rattle.holder_table.specs.Holding.{with_held}
use Rattle.holder_table.proofs.HolderLemmas.{kept_with}
use Rattle.holder_table.proofs.Holders.insert.Goals as goal

pub invariant_of-self-in_default : goal.invariant_of-self-in_default
unfolding with_held
invariant_of-self-in_default g c =
    rw (c.in_default.ensures.entries)
    (kept_with c.self.inside.rows.entries c.self.inside.index c.self.invariant c.args.to.0 c.args.call.0 (record { segid = c.args.segid; value = c.args.value }) c.insert.new.self (rw c.self.view_is c.requires) c.in_ok-insert.ensures.ok)

pub returns-clause-ok : goal.returns-clause-ok
unfolding with_held
returns-clause-ok g c = rw (← c.self.view_is) c.in_default.ensures.entries
