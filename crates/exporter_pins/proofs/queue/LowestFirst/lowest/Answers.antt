use Rattle.exporter_pins.proofs.QueueLemmas.{lowest}
use Rattle.exporter_pins.proofs.queue.LowestFirst.lowest.Goals as goal

pub returns-clause-least : goal.returns-clause-least
returns-clause-least c = rw (← c.self.view_is) (lowest _ _ (c.in_ok-item.ensures.greatest c.self.invariant))
