use Rattle.std.proofs.Common.{◌≡◌, [], length}
use Rattle.exporter_pins.specs.Layout.{owner_rows}
use Rattle.exporter_pins.proofs.OwnerLemmas.{empty_rows}
use Rattle.exporter_pins.proofs.owners.Owners.new.Goals as goal

pub returns : goal.returns
returns c =
    let frames : c.empty_slots.new.list ≡ c.args.frames.now = c.in_ok-empty_slots.ensures.list in
    let rows : owner_rows c.empty_slots.new.list c.empty_slots.new.slots.items ≡ [] = rw (c.in_ok-empty_slots.ensures.list, c.in_ok-empty_slots.ensures.slots) (empty_rows c.args.frames.now (length c.args.frames.now)) in
    (λ i. record { frames = frames i; rows = rows i })
