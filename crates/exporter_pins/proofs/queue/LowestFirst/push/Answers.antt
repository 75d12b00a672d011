use Rattle.std.proofs.Common.{arith}
use Rattle.exporter_pins.proofs.QueueLemmas.{on_ok, times_pushed, length_numbers}
use Rattle.exporter_pins.proofs.queue.LowestFirst.push.Goals as goal

pub returns-clause-times : goal.returns-clause-times
returns-clause-times c k =
    let room = rw (← c.self.view_is, length_numbers) at c.requires in
    rw (← c.self.view_is) (times_pushed _ _ _ k (on_ok c.push.result (c.push.ensures.succeeds (omega (arith, c.self.inside.heap.data.ok.0))) c.push.ensures.permutation))
