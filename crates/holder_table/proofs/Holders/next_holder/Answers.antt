use Rattle.std.proofs.lemmas.Option.{IfSome_then}
use Rattle.holder_table.proofs.HolderLemmas.{next_held, none_held}
use Rattle.holder_table.proofs.Holders.next_holder.Goals as goal

pub returns-clause-least : goal.returns-clause-least
returns-clause-least g c =
    rw (← c.self.view_is)
    (IfSome_then c.next.result c.next.ensures.least (λ to. next_held c.self.inside.rows.entries c.self.inside.index c.self.invariant c.args.segid c.args.from.0 to.0))

pub returns-clause-none : goal.returns-clause-none
returns-clause-none g c =
    rw (← c.self.view_is)
    (none_held c.self.inside.rows.entries c.self.inside.index c.self.invariant c.args.segid c.args.from.0 c.next.result c.next.ensures.none)
