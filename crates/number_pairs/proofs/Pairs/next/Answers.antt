use Rattle.number_pairs.proofs.PairLemmas.{none_from, none_between, none_past, first_above, first_here}
use Rattle.number_pairs.proofs.Pairs.next.Goals as goal

pub returns-in_err-one-clause-none : goal.returns-in_err-one-clause-none
returns-in_err-one-clause-none c =
    rw (c.from_residual.ensures, ← c.self.view_is)
    (λ b high. none_from c.args.first c.args.last b c.self.inside.items.keys c.range.result high (rw c.start.ensures at (c.range.ensures.between tt)) c.in_err-one.ensures.steps.0)

pub returns-then-one-first-clause-none : goal.returns-then-one-first-clause-none
returns-then-one-first-clause-none c b high =
    rw (← c.self.view_is)
    (none_past c.args.first c.args.last c.self.inside.items.keys c.range.result c.in_ok-one.field-0.now c.next.new.self (rw c.start.ensures at (c.range.ensures.between tt)) c.in_ok-one.ensures.steps b high c.range.ensures.ordered c.if-one-first.true)

pub returns-clause-above : goal.returns-clause-above
returns-clause-above c =
    first_above c.args.first c.args.last c.self.inside.items.keys c.range.result c.in_ok-one.field-0.now c.next.new.self (rw c.start.ensures at (c.range.ensures.between tt)) c.in_ok-one.ensures.steps c.if-one-first.false

pub returns-clause-least : goal.returns-clause-least
returns-clause-least c b high below =
    rw (← c.self.view_is)
    (none_between c.args.first c.args.last c.self.inside.items.keys c.range.result c.in_ok-one.field-0.now c.next.new.self (rw c.start.ensures at (c.range.ensures.between tt)) c.in_ok-one.ensures.steps b high c.range.ensures.ordered c.if-one-first.false below)

pub returns-clause-here : goal.returns-clause-here
returns-clause-here c =
    rw (← c.self.view_is)
    (first_here c.args.first c.args.last c.self.inside.items.keys c.range.result c.in_ok-one.field-0.now c.next.new.self (rw c.start.ensures at (c.range.ensures.between tt)) c.in_ok-one.ensures.steps c.if-one-first.false)
