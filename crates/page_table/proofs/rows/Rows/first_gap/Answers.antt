use Rattle.std.proofs.Common.{◌≡◌, ℕ, filter, ◌&&◌, not, false}
use Rattle.std.specs.Ordering.{nat_cmp, is_le}
use Rattle.xm_num.specs.Rows.{IsAscending}
use Rattle.page_table.proofs.FirstLemmas.{is_from}
use Rattle.page_table.proofs.Gaps.{starts, comes_to, goes_on, found_here, found_last, found_nowhere}
use Rattle.page_table.proofs.rows.Rows.first_gap.Goals as goal

pub loop-number-init : goal.loop-number-init
loop-number-init g c =
    let ascends : IsAscending c.args.self.now = rw (← c.self.view_is) c.self.invariant in
    let rest : c.into_iter-number-iterator.result ≡ filter (λ e. is_le (nat_cmp c.args.hint e.0) && not false) c.args.self.now =
    rw (← c.self.view_is, c.into_iter-number-iterator.ensures.into_iter_gives) (c.range-number-items.ensures.between tt) in
    starts c.row_laws.ensures (λ (k : ℕ). is_le (nat_cmp c.args.hint k) && not false) c.args.self.now c.into_iter-number-iterator.result c.args.n c.args.hint (is_from c.args.hint) rest ascends c.requires.hint

pub overflow_sub-number : goal.overflow_sub-number
overflow_sub-number g c =
    comes_to c.row_laws.ensures c.args.self.now c.loop-number.number-iterator c.next.new.self c.args.n c.loop-number.first (c.in-Some.number.now, c.in-Some.field-0-1.now) c.loop-number.invariant c.in-Some.ensures.steps

pub returns-then-number-first : goal.returns-then-number-first
returns-then-number-first g c =
    found_here c.row_laws.ensures c.args.self.now c.loop-number.number-iterator c.next.new.self c.args.n c.loop-number.first (c.in-Some.number.now, c.in-Some.field-0-1.now) c.requires.within c.loop-number.invariant c.in-Some.ensures.steps c.if-number-first.true

pub loop-number-preserved : goal.loop-number-preserved
loop-number-preserved g c =
    goes_on c.row_laws.ensures c.args.self.now c.loop-number.number-iterator c.next.new.self c.args.n c.loop-number.first (c.in-Some.number.now, c.in-Some.field-0-1.now) c.requires.within c.loop-number.invariant c.in-Some.ensures.steps c.if-number-first.false

pub overflow_sub-first : goal.overflow_sub-first
overflow_sub-first g c = c.loop-number.invariant.hint.high

pub returns-then-first-n : goal.returns-then-first-n
returns-then-first-n g c = found_last c.row_laws.ensures c.args.self.now c.loop-number.number-iterator c.args.n c.loop-number.first c.loop-number.invariant c.in-None.ensures.steps.0 c.if-first-n.true

pub returns-else-first-n : goal.returns-else-first-n
returns-else-first-n g c = found_nowhere c.args.self.now c.loop-number.number-iterator c.args.n c.loop-number.first c.loop-number.invariant c.if-first-n.false
