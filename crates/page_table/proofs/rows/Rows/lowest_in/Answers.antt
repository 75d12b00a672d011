use Rattle.std.proofs.Common.{ℕ, sym, ◌&&◌, ◌∙◌}
use Rattle.std.specs.Prelude.{nat_le, nat_lt}
use Rattle.xm_num.specs.Rows.{lowest_in, next_from}
use Rattle.page_table.proofs.FirstLemmas.{is_between, no_key, first_key, none_between}
use Rattle.page_table.proofs.rows.Rows.lowest_in.Goals as goal

pub returns-in_err-number-clause-lowest : goal.returns-in_err-number-clause-lowest
unfolding lowest_in
returns-in_err-number-clause-lowest g c =
    rw (← c.self.view_is)
    (c.from_residual.ensures ∙ no_key _ (λ (k : ℕ). nat_le c.args.low k && nat_lt k c.args.high) (is_between c.args.low c.args.high) c.self.inside.items.entries c.range.result (c.range.ensures.between tt) c.in_err-number.ensures.steps.0)

pub returns-clause-lowest : goal.returns-clause-lowest
unfolding lowest_in
returns-clause-lowest g c =
    rw (← c.self.view_is)
    (first_key _ (λ (k : ℕ). nat_le c.args.low k && nat_lt k c.args.high) (is_between c.args.low c.args.high) c.self.inside.items.entries c.range.result c.next.new.self _ (c.range.ensures.between tt) c.in_ok-number.ensures.steps)

pub returns-then-are_below-clause-lowest : goal.returns-then-are_below-clause-lowest
unfolding lowest_in next_from
returns-then-are_below-clause-lowest g c = sym (none_between c.args.low c.args.high c.args.self.now (c.are_below.ensures.none c.if-are_below.true))
