use Rattle.std.proofs.Common.{sym, ◌∙◌}
use Rattle.exporter_pins.proofs.KeptLemmas.{uncovered_room, kept_uncovered, less_others, less_itself, none_is}
use Rattle.exporter_pins.proofs.frames.FrameTable.uncover_one.Goals as goal

pub push-requires : goal.push-requires
push-requires c =
    let was = rw (← c.self.view_is) at c.requires in
    uncovered_room c.row_laws.ensures _ c.self.inside.free c.self.invariant _ c.args.frame.0
    (less_others c.row_laws.ensures c.self.inside.covers c.args.frame.0 c.remove.ensures.was_ascending) (c.self.invariant.covered c.args.frame.0 was) was
    (less_itself c.row_laws.ensures c.self.inside.covers c.args.frame.0 c.remove.ensures.was_ascending) (sym c.get.ensures.value ∙ none_is c.get.result c.if-is_none.ensures)

pub invariant_of-self-then-is_none : goal.invariant_of-self-then-is_none
invariant_of-self-then-is_none c =
    let was = rw (← c.self.view_is) at c.requires in
    rw c.remove.ensures.rows
    (kept_uncovered c.row_laws.ensures _ c.self.inside.free c.self.invariant _ c.args.frame.0
    (less_others c.row_laws.ensures c.self.inside.covers c.args.frame.0 c.remove.ensures.was_ascending) (c.self.invariant.covered c.args.frame.0 was) was
    (less_itself c.row_laws.ensures c.self.inside.covers c.args.frame.0 c.remove.ensures.was_ascending) (sym c.get.ensures.value ∙ none_is c.get.result c.if-is_none.ensures)
    c.push.new.self c.push.ensures.len c.push.ensures.times c.push.ensures.room)
