use Rattle.std.proofs.Common.{sym}
use Rattle.name_server.proofs.PairLemmas.{no_next, next}
use Rattle.name_server.proofs.tables.Pairs.next_from.Goals as goal

pub returns-in_err-segid-clause-next : goal.returns-in_err-segid-clause-next
returns-in_err-segid-clause-next c =
    rw (c.from_residual.ensures, ← c.self.view_is)
    (sym (no_next c.row_laws.ensures c.self.inside.items c.args.low c.range.result (c.range.ensures.in_range tt) c.in_err-segid.ensures.steps.0))

pub returns-clause-next : goal.returns-clause-next
returns-clause-next c =
    rw (← c.self.view_is)
    (sym (next c.row_laws.ensures c.self.inside.items c.args.low c.range.result (c.range.ensures.in_range tt) (c.in_ok-segid.segid.now, c.in_ok-segid.owner.now) c.next.new.self c.in_ok-segid.ensures.steps c.self.invariant))
