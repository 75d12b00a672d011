use Rattle.page_table.proofs.Lowered.{AreLowered}
use Rattle.page_table.proofs.hints.Hints.lower.Given as goal

abbrev pub invariant-loop-n : goal.invariant-loop-n
invariant-loop-n l = AreLowered l.fn.self l.self-inside.pages.items l.low l.n
