use Rattle.std.proofs.Common.{ℕ, sym, ◌∙◌}
use Rattle.std.specs.Prelude.{nat_le}
use Rattle.xm_num.specs.Rows.{next_from}
use Rattle.page_table.proofs.FirstLemmas.{is_from, no_key, first_key}
use Rattle.page_table.proofs.rows.Rows.next_from.Goals as goal

pub returns-in_err-number-clause-next : goal.returns-in_err-number-clause-next
unfolding next_from
returns-in_err-number-clause-next g c =
    rw (← c.self.view_is)
    (c.from_residual.ensures ∙ no_key _ (λ (k : ℕ). nat_le c.args.low k) (is_from c.args.low) c.self.inside.items.entries c.range.result (c.range.ensures.between tt) c.in_err-number.ensures.steps.0)

pub returns-clause-next : goal.returns-clause-next
unfolding next_from
returns-clause-next g c =
    rw (← c.self.view_is)
    (first_key _ (λ (k : ℕ). nat_le c.args.low k) (is_from c.args.low) c.self.inside.items.entries c.range.result c.next.new.self _ (c.range.ensures.between tt) c.in_ok-number.ensures.steps)

pub returns-then-are_below-clause-next : goal.returns-then-are_below-clause-next
returns-then-are_below-clause-next g c = sym (c.are_below.ensures.none c.if-are_below.true)
