use Rattle.exporter_pins.proofs.QueueLemmas.{times_popped, lowest}
use Rattle.exporter_pins.proofs.queue.LowestFirst.pop.Goals as goal

pub returns-clause-times : goal.returns-clause-times
returns-clause-times c k = rw (← c.self.view_is) (times_popped _ _ _ k c.in_ok-item.ensures.permutation)

pub returns-clause-lowest : goal.returns-clause-lowest
returns-clause-lowest c = rw (← c.self.view_is) (lowest _ _ (c.in_ok-item.ensures.heap_order c.self.invariant).1)
