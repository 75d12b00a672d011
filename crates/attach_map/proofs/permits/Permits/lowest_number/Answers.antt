use Rattle.attach_map.specs.Permits.{process_of, owner_of}
use Rattle.attach_map.proofs.PermitLemmas.{lowest_under}
use Rattle.attach_map.proofs.permits.Permits.lowest_number.Goals as goal

pub returns-in-Process-clause-value : goal.returns-in-Process-clause-value
returns-in-Process-clause-value c =
    rw (c.in-Process.is, ← c.self.view_is)
    (lowest_under c.row_laws.ensures process_of c.in-Process.pid.0 c.self.inside.rows.entries c.self.inside.by_process c.self.invariant.ascending c.self.invariant.processes c.next.result
    c.next.ensures.here c.next.ensures.least c.next.ensures.none)

pub returns-in-Owner-clause-value : goal.returns-in-Owner-clause-value
returns-in-Owner-clause-value c =
    rw (c.in-Owner.is, ← c.self.view_is, ← c.from.ensures)
    (lowest_under c.row_laws.ensures owner_of c.from.result c.self.inside.rows.entries c.self.inside.by_owner c.self.invariant.ascending c.self.invariant.owners c.next-in-Owner.result
    c.next-in-Owner.ensures.here c.next-in-Owner.ensures.least c.next-in-Owner.ensures.none)
