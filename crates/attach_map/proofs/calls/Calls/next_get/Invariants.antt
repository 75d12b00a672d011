use Rattle.attach_map.proofs.SearchLemmas.{Scans}
use Rattle.attach_map.proofs.calls.Calls.next_get.Given as goal

abbrev pub invariant-loop-i : goal.invariant-loop-i
invariant-loop-i l = Scans l.owner l.fn.from l.i l.self
