use Rattle.std.proofs.lemmas.Bool.{ltb-true}
use Rattle.xm_num.specs.Rows.{next_from}
use Rattle.page_table.proofs.FirstLemmas.{past, no_rows}
use Rattle.page_table.proofs.rows.Rows.are_below.Goals as goal

pub returns-in-Some-clause-none : goal.returns-in-Some-clause-none
unfolding next_from
returns-in-Some-clause-none g c below =
    rw (← c.self.view_is) (past c.self.inside.items.entries c.in-Some.last.now c.args.number c.in-Some.ensures.all_up_to (ltb-true _ _ below))

pub returns-in-None-clause-none : goal.returns-in-None-clause-none
unfolding next_from
returns-in-None-clause-none g c below = rw (← c.self.view_is) (no_rows _ c.self.inside.items.entries c.in-None.ensures.variant.1)
