use Rattle.std.proofs.Common.{sym}
use Rattle.std.proofs.lemmas.Bool.{not-true, not-false}
use Rattle.holder_table.proofs.IndexLemmas.{none_left, none_there, next_there}
use Rattle.holder_table.proofs.index.Index.next.Goals as goal

pub returns-in_err-found-clause-none : goal.returns-in_err-found-clause-none
returns-in_err-found-clause-none c =
    rw (c.from_residual.ensures, ← c.self.view_is)
    (none_left c.self.inside.keys c.args.segid c.args.low.0 c.range.result (c.range.ensures.in_range tt) c.in_err-found.ensures.steps.0)

pub returns-then-ne-clause-none : goal.returns-then-ne-clause-none
returns-then-ne-clause-none c =
    rw (← c.self.view_is)
    (none_there c.self.inside.keys c.args.segid c.args.low.0 c.range.result (c.range.ensures.in_range tt) c.in_ok-found.field-0.now c.next.new.self c.in_ok-found.ensures.steps (not-true _ (sym c.if-ne.ensures)))

pub returns-clause-least : goal.returns-clause-least
returns-clause-least c =
    rw (← c.self.view_is)
    (next_there c.self.inside.keys c.args.segid c.args.low.0 c.range.result (c.range.ensures.in_range tt) c.in_ok-found.field-0.now c.next.new.self c.in_ok-found.ensures.steps (not-false _ (sym c.if-ne.ensures)))
