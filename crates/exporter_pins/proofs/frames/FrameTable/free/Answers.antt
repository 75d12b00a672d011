use Rattle.std.proofs.Common.{sym, ◌∙◌}
use Rattle.exporter_pins.proofs.KeptLemmas.{free_room, kept_freed_queued}
use Rattle.exporter_pins.proofs.frames.FrameTable.free.Goals as goal

pub push-requires : goal.push-requires
push-requires c = free_room c.row_laws.ensures _ c.self.inside.free c.self.invariant c.args.frame.0 c.args.pid.0 (rw (← c.self.view_is) at c.requires) (sym c.cover.ensures ∙ c.if-cover-eq0.true)

pub invariant_of-self : goal.invariant_of-self
invariant_of-self c =
    rw (c.remove.ensures.rows, c.remove.ensures.frames)
    (kept_freed_queued c.row_laws.ensures _ c.self.inside.free c.self.invariant c.args.frame.0 c.args.pid.0 (rw (← c.self.view_is) at c.requires) c.push.new.self
    (sym c.cover.ensures ∙ c.if-cover-eq0.true) c.push.ensures.len c.push.ensures.times c.push.ensures.room)
