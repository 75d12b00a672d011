use Rattle.std.proofs.Common.{◌∙◌, ap, sym}
use Rattle.attach_map.specs.declared.Holder.TheVariants as holders
use Rattle.attach_map.specs.Attaching.{AttacherState, waiting_call_of, orphaned, lowest_permit}
use Rattle.attach_map.proofs.KeptLemmas.{change_is, left_kept, left_seen, ended_kept, ended_seen, waits_there}
use Rattle.attach_map.proofs.HeldLemmas.{held_less, held_changed}
use Rattle.attach_map.proofs.attacher.Attacher.exit.Goals as goal

pub orphan-requires : goal.orphan-requires
orphan-requires g c =
    let waits = ap (λ (s : AttacherState). waiting_call_of s.waiting c.args.pid.0) c.self.view_is ∙ sym c.in-Some.ensures in
    waits_there c.table_laws.ensures.calls c.self.inside.calls c.args.pid.0 c.in-Some.call.0 c.self.invariant.0.calls_drawn.ascend waits

pub invariant_of-self : goal.invariant_of-self
invariant_of-self g c =
    let s = c.self.inside in
    let waits = ap (λ (s : AttacherState). waiting_call_of s.waiting c.args.pid.0) c.self.view_is ∙ sym c.in-Some.ensures in
    let there = waits_there c.table_laws.ensures.calls s.calls c.args.pid.0 c.in-Some.call.0 c.self.invariant.0.calls_drawn.ascend waits in
    let change = change_is orphaned s.calls c.in-Some.call.0 c.orphan.new.self there c.orphan.ensures in
    let free = ap (λ (s : AttacherState). lowest_permit s.permits (holders.Process c.args.pid)) c.self.view_is ∙ c.requires.free in
    let held = held_less s.processes s.issued s.calls s.permits c.self.invariant.1 c.table_laws.ensures.seats c.table_laws.ensures.permits c.end.new.self c.args.pid.0 c.end.ensures c.self.invariant.0.seats_drawn.ascend free in (
      left_kept c.table_laws.ensures.seats _ s.processes _ s.calls c.self.invariant.0 c.end.new.self c.table_laws.ensures.calls c.orphan.new.self c.args.pid.0 c.in-Some.call.0 waits change c.end.ensures,
      held_changed c.end.new.self s.issued s.calls s.permits held c.table_laws.ensures.calls c.orphan.new.self c.in-Some.call.0 (orphaned change.v) there change.is,
    )

pub invariant_of-self-in_default : goal.invariant_of-self-in_default
invariant_of-self-in_default g c =
    let s = c.self.inside in
    let idle = ap (λ (s : AttacherState). waiting_call_of s.waiting c.args.pid.0) c.self.view_is ∙ sym c.in_default.ensures in
    let free = ap (λ (s : AttacherState). lowest_permit s.permits (holders.Process c.args.pid)) c.self.view_is ∙ c.requires.free in (
      ended_kept c.table_laws.ensures.seats _ s.processes _ s.calls c.self.invariant.0 c.end.new.self c.table_laws.ensures.calls c.args.pid.0 idle c.end.ensures,
      held_less s.processes s.issued s.calls s.permits c.self.invariant.1 c.table_laws.ensures.seats c.table_laws.ensures.permits c.end.new.self c.args.pid.0 c.end.ensures c.self.invariant.0.seats_drawn.ascend free,
    )

pub returns-in-Some : goal.returns-in-Some
returns-in-Some g c =
    let s = c.self.inside in
    let waits = ap (λ (s : AttacherState). waiting_call_of s.waiting c.args.pid.0) c.self.view_is ∙ sym c.in-Some.ensures in
    let there = waits_there c.table_laws.ensures.calls s.calls c.args.pid.0 c.in-Some.call.0 c.self.invariant.0.calls_drawn.ascend waits in
    let change = change_is orphaned s.calls c.in-Some.call.0 c.orphan.new.self there c.orphan.ensures in
    rw (← c.self.view_is) (left_seen _ c.table_laws.ensures.calls _ s.processes _ s.calls c.self.invariant.0 c.end.new.self c.orphan.new.self c.args.pid.0 c.in-Some.call.0 waits change c.end.ensures)

pub returns-in_default : goal.returns-in_default
returns-in_default g c =
    let s = c.self.inside in
    let idle = ap (λ (s : AttacherState). waiting_call_of s.waiting c.args.pid.0) c.self.view_is ∙ sym c.in_default.ensures in
    rw (← c.self.view_is) (ended_seen _ c.table_laws.ensures.calls _ s.processes _ s.calls c.self.invariant.0 c.end.new.self c.args.pid.0 idle c.end.ensures)
