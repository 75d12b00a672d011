use Rattle.std.proofs.Common.{◌≡◌, ◌+◌, ◌-◌}
use Rattle.xm_num.specs.Rows.{less_all, IsAscending}
use Rattle.page_table.proofs.rows.Rows.remove_all.Given as goal

abbrev pub invariant-loop-number : goal.invariant-loop-number
invariant-loop-number g l =
    record {
      rows : less_all l.self l.number (l.first + l.n - l.number) ≡ less_all l.fn.self l.first l.n;
      ascending : IsAscending l.self;
    }
