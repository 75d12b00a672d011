use Rattle.std.proofs.Common.{◌+◌, ◌∙◌, ap}
use Rattle.xm_num.specs.Rows.{put}
use Rattle.attach_map.specs.Attaching.{fresh_process}
use Rattle.attach_map.specs.Seats.{Seat}
use Rattle.attach_map.proofs.KeptLemmas.{started_kept, started_seen, drawn_last}
use Rattle.attach_map.proofs.HeldLemmas.{held_put}
use Rattle.attach_map.proofs.attacher.Attacher.start.Goals as goal

pub push-requires : goal.push-requires
push-requires g c = drawn_last _ c.self.inside.processes c.self.invariant.0.seats_drawn

pub invariant_of-self-2 : goal.invariant_of-self-2
invariant_of-self-2 g c =
    let s = c.self.inside in
    let put_at : Seat → _ = put s.processes (s.started + 1) in
    let is = c.in_ok-push.ensures.ok ∙ ap put_at c.in_ok-process.ensures in (
      started_kept c.table_laws.ensures.seats s.started s.processes s.issued s.calls c.self.invariant.0 c.push.new.self (fresh_process c.args.uid c.args.gid) is,
      held_put s.processes s.issued s.calls s.permits c.self.invariant.1 c.table_laws.ensures.seats c.push.new.self (s.started + 1) _ is,
    )

pub returns-clause-ok : goal.returns-clause-ok
returns-clause-ok g c =
    let s = c.self.inside in
    let put_at : Seat → _ = put s.processes (s.started + 1) in
    rw (← c.self.view_is) (started_seen _ s.started s.processes s.issued s.calls c.push.new.self c.args.uid c.args.gid (c.in_ok-push.ensures.ok ∙ ap put_at c.in_ok-process.ensures))
