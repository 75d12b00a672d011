use Rattle.std.proofs.Common.{◌≡◌, Some, sym, ◌∙◌, slice_get}
use Rattle.exporter_pins.proofs.FreeLemmas.{copied_at, left_after, lowest_back, lowest_left}
use Rattle.exporter_pins.proofs.free.FreeFrames.pop.Goals as goal

pub returns-then-is_at_most-clause-lowest : goal.returns-then-is_at_most-clause-lowest
returns-then-is_at_most-clause-lowest c =
    let first : slice_get c.self.inside.frames.items c.self.inside.taken ≡ Some c.in-Some.frame = rw c.deref.ensures.value at (copied_at c.deref.result.now c.get.result c.copied.result c.self.inside.taken c.in-Some.frame c.get.ensures.lookup.0 c.get.ensures.lookup.1 c.copied.ensures c.in-Some.is) in
    rw (← c.self.view_is)
    (lowest_back c.self.inside.frames.items c.self.inside.taken c.in-Some.frame c.self.inside.back.items c.lowest.result _ first c.self.invariant.0 c.lowest.ensures.here (sym c.is_at_most.ensures ∙ c.if-is_at_most.true) c.pop-then-is_at_most.ensures.lowest)

pub invariant_of-self-2 : goal.invariant_of-self-2
invariant_of-self-2 c =
    let first : slice_get c.self.inside.frames.items c.self.inside.taken ≡ Some c.in-Some.frame = rw c.deref.ensures.value at (copied_at c.deref.result.now c.get.result c.copied.result c.self.inside.taken c.in-Some.frame c.get.ensures.lookup.0 c.get.ensures.lookup.1 c.copied.ensures c.in-Some.is) in
    left_after c.self.inside.frames.items c.self.inside.taken c.in-Some.frame first c.self.invariant.0

pub returns-clause-lowest : goal.returns-clause-lowest
returns-clause-lowest c =
    let first : slice_get c.self.inside.frames.items c.self.inside.taken ≡ Some c.in-Some.frame = rw c.deref.ensures.value at (copied_at c.deref.result.now c.get.result c.copied.result c.self.inside.taken c.in-Some.frame c.get.ensures.lookup.0 c.get.ensures.lookup.1 c.copied.ensures c.in-Some.is) in
    rw (← c.self.view_is)
    (lowest_left c.self.inside.frames.items c.self.inside.taken c.in-Some.frame c.self.inside.back.items c.lowest.result first c.self.invariant.0 c.lowest.ensures.least c.lowest.ensures.none (sym c.is_at_most.ensures ∙ c.if-is_at_most.false))
