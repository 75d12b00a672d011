use Rattle.std.proofs.Common.{◌∙◌, sym}
use Rattle.exporter_pins.proofs.TableLemmas.{counted_less, counted_none, times_within, no_some}
use Rattle.exporter_pins.proofs.Exporter.withdraw.Goals as goal

pub uncover-requires : goal.uncover-requires
uncover-requires c = λ k. rw c.frames.ensures (times_within c.self.inside.exports c.args.call.0 c.in-Some.row c.self.inside.frames.covers c.self.invariant (sym c.remove.ensures.row ∙ c.in-Some.is) k)

pub invariant_of-self : goal.invariant_of-self
invariant_of-self c =
    rw c.remove.ensures.exports
    (counted_less c.self.inside.exports c.args.call.0 c.in-Some.row c.self.inside.frames.covers c.uncover.new.self.covers c.self.invariant (sym c.remove.ensures.row ∙ c.in-Some.is) (λ k. rw c.frames.ensures at (c.uncover.ensures.covers k)))

pub invariant_of-self-in_default : goal.invariant_of-self-in_default
invariant_of-self-in_default c = rw c.remove.ensures.exports (counted_none c.self.inside.exports c.args.call.0 c.self.inside.frames.covers c.self.invariant (sym c.remove.ensures.row ∙ no_some c.remove.result c.in_default.not-Some))
