use Rattle.guest_map.proofs.LastLemmas.{next_is}
use Rattle.guest_map.proofs.lasts.Lasts.next_from.Goals as goal

pub returns-clause-next : goal.returns-clause-next
returns-clause-next c =
    rw (← c.self.view_is)
    (next_is c.args.low c.self.inside.items.entries c.range.result (c.in_ok-last.last.now, c.in_ok-last.call.now) c.next.new.self (c.range.ensures.between tt) c.in_ok-last.ensures.steps)
