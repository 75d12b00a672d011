use Rattle.std.proofs.Common.{◌≡◌, ◌+◌, ◌-◌, suc, arith}
use Rattle.xm_num.specs.Rows.{less_all, IsAscending}
use Rattle.page_table.proofs.Within.{within_less_all}
use Rattle.page_table.proofs.rows.Rows.remove_all.Goals as goal

pub loop-number-preserved : goal.loop-number-preserved
loop-number-preserved g c =
    let more : c.args.first + c.args.n - c.loop-number.number ≡ suc (c.args.first + c.args.n - (c.loop-number.number + 1)) = omega arith in
    record { rows = rw c.remove.ensures.rows (rw more at c.loop-number.invariant.rows); ascending = c.remove.ensures.ascending }

pub returns-clause-within : goal.returns-clause-within
returns-clause-within g c =
    let ascends : IsAscending c.args.self.now = rw (← c.self.view_is) c.self.invariant in
    let done : c.args.first + c.args.n - c.loop-number.number ≡ 0 = omega arith in
    let is : c.loop-number.self ≡ less_all c.args.self.now c.args.first c.args.n = rw done at c.loop-number.invariant.rows in
    λ within. rw is (within_less_all c.row_laws.ensures c.args.self.now c.args.first c.args.n ascends within)
