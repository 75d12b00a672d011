use Rattle.std.proofs.Common.{◌+◌, ◌∙◌, ap, sym, subst, Some}
use Rattle.std.specs.Prelude.{IsSome}
use Rattle.xm_num.specs.Rows.{at}
use Rattle.xm_num.specs.declared.CallNo.{CallNo}
use Rattle.attach_map.specs.Attaching.{AttacherState, waiting_call_of}
use Rattle.attach_map.specs.Seats.{with_seat_call}
use Rattle.attach_map.proofs.KeptLemmas.{change_is, issued_kept, issued_seen, lives_kept, drawn_last}
use Rattle.attach_map.proofs.HeldLemmas.{held_put, held_issued}
use Rattle.attach_map.proofs.attacher.Attacher.issue.Goals as goal

pub push-requires : goal.push-requires
push-requires g c = drawn_last _ c.self.inside.calls c.self.invariant.0.calls_drawn

pub wait-requires : goal.wait-requires
wait-requires g c = let lives = lives_kept c.self.inside.processes c.args.pid.0 (subst (λ (s : AttacherState). IsSome (at s.processes c.args.pid.0)) (sym c.self.view_is) c.requires.lives) in lives

pub invariant_of-self-2 : goal.invariant_of-self-2
invariant_of-self-2 g c =
    let lives = lives_kept c.self.inside.processes c.args.pid.0 (subst (λ (s : AttacherState). IsSome (at s.processes c.args.pid.0)) (sym c.self.view_is) c.requires.lives) in
    let s = c.self.inside in
    let idle = ap (λ (s : AttacherState). waiting_call_of s.waiting c.args.pid.0) c.self.view_is ∙ c.requires.idle in
    let call : CallNo = record { 0 = s.issued + 1 } in
    let change = change_is (with_seat_call (Some call)) s.processes c.args.pid.0 c.wait.new.self lives c.wait.ensures in (
      issued_kept c.table_laws.ensures.seats _ s.processes s.issued s.calls c.self.invariant.0 c.wait.new.self c.table_laws.ensures.calls c.push.new.self c.args.pid c.args.what idle change c.in_ok-push.ensures.ok,
      held_issued c.wait.new.self s.issued s.calls s.permits (held_put s.processes s.issued s.calls s.permits c.self.invariant.1 c.table_laws.ensures.seats c.wait.new.self c.args.pid.0 (with_seat_call (Some call) change.v) change.is)
          c.table_laws.ensures.calls c.push.new.self _ c.in_ok-push.ensures.ok,
    )

pub returns-clause-ok : goal.returns-clause-ok
returns-clause-ok g c =
    let lives = lives_kept c.self.inside.processes c.args.pid.0 (subst (λ (s : AttacherState). IsSome (at s.processes c.args.pid.0)) (sym c.self.view_is) c.requires.lives) in
    let s = c.self.inside in
    let call : CallNo = record { 0 = s.issued + 1 } in
    rw (← c.self.view_is) (issued_seen _ c.table_laws.ensures.seats s.started s.processes s.issued s.calls c.self.invariant.0 c.wait.new.self c.push.new.self c.args.pid c.args.what (Some call) lives c.wait.ensures c.in_ok-push.ensures.ok)
