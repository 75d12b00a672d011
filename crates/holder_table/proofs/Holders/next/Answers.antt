use Rattle.holder_table.proofs.HolderLemmas.{no_next, next_row}
use Rattle.holder_table.proofs.Holders.next.Goals as goal

pub returns-in_err-name-clause-none : goal.returns-in_err-name-clause-none
returns-in_err-name-clause-none g c =
    rw (c.from_residual.ensures, ← c.self.view_is)
    (no_next c.self.inside.rows (c.args.to.0, c.args.from.0) c.range.result (c.range.ensures.in_range tt) c.in_err-name.ensures.steps.0)

pub returns-clause-least : goal.returns-clause-least
returns-clause-least g c =
    rw (← c.self.view_is)
    (next_row c.self.inside.rows (c.args.to.0, c.args.from.0) c.range.result (c.range.ensures.in_range tt) (c.in_ok-name.name.now, c.in_ok-name.held.now) c.next.new.self c.in_ok-name.ensures.steps)
