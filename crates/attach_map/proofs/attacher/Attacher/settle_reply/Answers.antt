use Rattle.std.proofs.Common.{sym, None}
use Rattle.attach_map.specs.Seats.{with_seat_call}
use Rattle.attach_map.proofs.KeptLemmas.{change_is, settled_kept, settled_seen, caller_lives}
use Rattle.attach_map.proofs.HeldLemmas.{held_put, held_settled}
use Rattle.attach_map.proofs.attacher.Attacher.settle_reply.Goals as goal

pub wait-requires : goal.wait-requires
wait-requires g c =
    let s = c.self.inside in
    caller_lives c.table_laws.ensures.calls s.started s.processes s.issued s.calls s.calls c.self.invariant.0 c.args.call.0 c.in-Some.waiting (sym c.in-Some.ensures.value) c.if-waiting.true

pub invariant_of-self : goal.invariant_of-self
invariant_of-self g c =
    let s = c.self.inside in
    let there = sym c.in-Some.ensures.value in
    let lives = caller_lives c.table_laws.ensures.calls s.started s.processes s.issued s.calls s.calls c.self.invariant.0 c.args.call.0 c.in-Some.waiting there c.if-waiting.true in
    let change = change_is (with_seat_call None) s.processes c.in-Some.waiting.pid.0 c.wait.new.self lives c.wait.ensures in (
      settled_kept c.table_laws.ensures.seats _ s.processes s.issued s.calls c.self.invariant.0 c.wait.new.self c.table_laws.ensures.calls c.remove.new.self c.args.call.0 c.in-Some.waiting there c.if-waiting.true change c.remove.ensures,
      held_settled c.wait.new.self s.issued s.calls s.permits (held_put s.processes s.issued s.calls s.permits c.self.invariant.1 c.table_laws.ensures.seats c.wait.new.self c.in-Some.waiting.pid.0 (with_seat_call None change.v) change.is)
          c.table_laws.ensures.calls c.remove.new.self c.args.call.0 c.remove.ensures c.self.invariant.0.calls_drawn.ascend,
    )

pub returns-then-waiting : goal.returns-then-waiting
returns-then-waiting g c =
    let s = c.self.inside in
    let there = sym c.in-Some.ensures.value in
    let lives = caller_lives c.table_laws.ensures.calls s.started s.processes s.issued s.calls s.calls c.self.invariant.0 c.args.call.0 c.in-Some.waiting there c.if-waiting.true in
    rw (← c.self.view_is) (settled_seen _ c.table_laws.ensures.seats s.started s.processes s.issued s.calls c.self.invariant.0 c.wait.new.self c.remove.new.self c.in-Some.waiting.pid.0 c.args.call.0 lives c.wait.ensures c.remove.ensures)
