use Rattle.page_table.proofs.Gaps.{Searches}
use Rattle.page_table.proofs.rows.Rows.first_gap.Given as goal

abbrev pub invariant-loop-number : goal.invariant-loop-number
invariant-loop-number g l = Searches l.self l.n l.first l.number-iterator
