use Rattle.std.proofs.Common.{arith}
use Rattle.exporter_pins.proofs.KeptLemmas.{kept_given, kept_same, taken, fresh, popped, room_back}
use Rattle.exporter_pins.proofs.frames.FrameTable.take_lowest.Goals as goal

pub insert-requires-clause-listed : goal.insert-requires-clause-listed
insert-requires-clause-listed c = (popped c.row_laws.ensures _ c.self.inside.free c.self.invariant c.in-Some.number c.args.pid.0 c.pop.new.self c.in-Some.ensures.times).0

pub insert-requires-clause-fresh : goal.insert-requires-clause-fresh
insert-requires-clause-fresh c = fresh c.row_laws.ensures _ c.self.inside.free c.self.invariant c.in-Some.number c.args.pid.0 c.pop.new.self c.in-Some.ensures.times

pub push-requires : goal.push-requires
push-requires c = room_back c.row_laws.ensures _ c.self.inside.free c.self.invariant c.pop.new.self c.in-Some.ensures.len c.pop.ensures.room

pub invariant_of-self-in-Err : goal.invariant_of-self-in-Err
invariant_of-self-in-Err c =
    rw c.in-Err.ensures.err
    (kept_same c.row_laws.ensures _ c.self.inside.free c.self.invariant c.push.new.self
    (omega (arith, c.in-Some.ensures.len, c.push.ensures.len))
    (λ k. omega (arith, c.in-Some.ensures.times k, c.push.ensures.times k))
    (omega (arith, c.pop.ensures.room, c.push.ensures.room)))

pub invariant_of-self-in_default-insert : goal.invariant_of-self-in_default-insert
invariant_of-self-in_default-insert c =
    rw (c.in_default-insert.ensures.ok, c.insert.ensures.frames)
    (kept_given c.row_laws.ensures _ c.self.inside.free c.self.invariant c.in-Some.number c.args.pid.0 c.pop.new.self
    c.in-Some.ensures.len c.in-Some.ensures.times c.pop.ensures.room)

pub returns-clause-first : goal.returns-clause-first
returns-clause-first c =
    rw (← c.self.view_is, c.in_default-insert.ensures.ok, c.insert.ensures.frames)
    (taken c.row_laws.ensures _ c.self.inside.free c.self.invariant c.in-Some.number c.args.pid.0 c.pop.new.self c.in-Some.ensures.times c.in-Some.ensures.lowest)

pub returns-clause-fresh : goal.returns-clause-fresh
returns-clause-fresh c =
    rw (← c.self.view_is)
    (fresh c.row_laws.ensures _ c.self.inside.free c.self.invariant c.in-Some.number c.args.pid.0 c.pop.new.self c.in-Some.ensures.times)
