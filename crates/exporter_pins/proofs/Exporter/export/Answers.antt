use Rattle.std.proofs.Common.{◌≡◌, ◌∙◌, ap}
use Rattle.exporter_pins.specs.Holdings.{Export}
use Rattle.exporter_pins.proofs.TableLemmas.{all_owned, counted_put}
use Rattle.exporter_pins.proofs.Exporter.export.Goals as goal

pub cover-requires : goal.cover-requires
cover-requires c = let owned = rw (← c.self.view_is) at c.requires.owned in all_owned c.self.inside.frames.owners c.args.pid.0 c.args.frames.now owned

pub invariant_of-self-in_default : goal.invariant_of-self-in_default
invariant_of-self-in_default c =
    let same : c.asked-row.result.frames ≡ c.args.frames.now = ap (λ (e : Export). e.frames) c.asked-row.ensures ∙ c.in_ok-list.ensures in
    rw c.in_default.ensures.ok
    (counted_put c.self.inside.exports c.args.call.0 c.asked-row.result c.self.inside.frames.covers c.cover.new.self.covers c.self.invariant c.insert.ensures.was_ascending
    (rw (← c.self.view_is) at c.requires.fresh) (λ k. rw same (c.in_ok-cover.ensures.ok k)))
