use Rattle.std.proofs.Common.{◌∙◌, refl, sym, subst, None}
use Rattle.std.specs.Prelude.{IsTrue}
use Rattle.xm_num.specs.Rows.{at}
use Rattle.attach_map.specs.Attaching.{AttacherState, PermitState, awaits_permit}
use Rattle.attach_map.specs.Seats.{with_seat_call}
use Rattle.attach_map.proofs.KeptLemmas.{change_is, settled_kept, caller_lives}
use Rattle.attach_map.proofs.HeldLemmas.{stays_put, held_put, held_granted, awaits_living, granted_seen}
use Rattle.attach_map.proofs.attacher.Attacher.granted.Goals as goal

pub wait-requires : goal.wait-requires
wait-requires g c =
    let s = c.self.inside in
    let there = sym c.in-Some.ensures.value in
    let living = awaits_living (at s.calls c.args.call.0) c.in-Some.waiting there (subst (λ (s : AttacherState). IsTrue (awaits_permit (at s.waiting c.args.call.0))) (sym c.self.view_is) c.requires) in
    caller_lives c.table_laws.ensures.calls s.started s.processes s.issued s.calls s.calls c.self.invariant.0 c.args.call.0 c.in-Some.waiting there living

pub invariant_of-self-2 : goal.invariant_of-self-2
invariant_of-self-2 g c =
    let s = c.self.inside in
    let there = sym c.in-Some.ensures.value in
    let living = awaits_living (at s.calls c.args.call.0) c.in-Some.waiting there (subst (λ (s : AttacherState). IsTrue (awaits_permit (at s.waiting c.args.call.0))) (sym c.self.view_is) c.requires) in
    let lives = caller_lives c.table_laws.ensures.calls s.started s.processes s.issued s.calls s.calls c.self.invariant.0 c.args.call.0 c.in-Some.waiting there living in
    let change = change_is (with_seat_call None) s.processes c.in-Some.waiting.pid.0 c.wait.new.self lives c.wait.ensures in
    let seat = with_seat_call None change.v in
    let held : PermitState = record { pid = c.in-Some.waiting.pid.0; permit = c.in-Some-permit_for.permit } in (
      settled_kept c.table_laws.ensures.seats _ s.processes s.issued s.calls c.self.invariant.0 c.wait.new.self c.table_laws.ensures.calls c.remove.new.self c.args.call.0 c.in-Some.waiting there living change c.remove.ensures,
      held_granted c.wait.new.self s.issued s.calls s.permits (held_put s.processes s.issued s.calls s.permits c.self.invariant.1 c.table_laws.ensures.seats c.wait.new.self c.in-Some.waiting.pid.0 seat change.is)
          c.table_laws.ensures.permits c.table_laws.ensures.calls c.self.invariant.0.calls_drawn c.insert.new.self c.remove.new.self c.args.call.0 held (rw there refl)
          (rw change.is (stays_put c.table_laws.ensures.seats s.processes c.in-Some.waiting.pid.0 seat c.in-Some.waiting.pid.0 lives)) c.in_ok-insert.ensures.ok c.remove.ensures,
    )

pub returns-clause-ok : goal.returns-clause-ok
returns-clause-ok g c =
    let s = c.self.inside in
    let there = sym c.in-Some.ensures.value in
    let living = awaits_living (at s.calls c.args.call.0) c.in-Some.waiting there (subst (λ (s : AttacherState). IsTrue (awaits_permit (at s.waiting c.args.call.0))) (sym c.self.view_is) c.requires) in
    let lives = caller_lives c.table_laws.ensures.calls s.started s.processes s.issued s.calls s.calls c.self.invariant.0 c.args.call.0 c.in-Some.waiting there living in
    rw (← c.self.view_is)
    (granted_seen c.table_laws.ensures.seats s.started s.processes c.wait.new.self s.issued s.calls c.remove.new.self s.permits c.insert.new.self c.self.invariant.0.seats_drawn.ascend
    c.args.call.0 c.args.pages c.in-Some.waiting c.in-Some-permit_for.permit there (sym c.permit_for.ensures ∙ c.in-Some-permit_for.is) lives c.wait.ensures c.remove.ensures c.in_ok-insert.ensures.ok)
