use Rattle.std.proofs.Common.{ap, ◌∙◌, length}
use Rattle.exporter_pins.specs.Layout.{times}
use Rattle.exporter_pins.proofs.FrameLemmas.{times_numbers, length_numbers}
use Rattle.exporter_pins.proofs.KeptLemmas.{kept_new}
use Rattle.exporter_pins.proofs.frames.FrameTable.new.Goals as goal

pub invariant_of-result : goal.invariant_of-result
invariant_of-result c =
    rw (c.in_ok-new.ensures, c.new-2.ensures)
    (kept_new c.row_laws.ensures c.args.frames.now c.in_ok-new-2.field-0 c.requires
    (λ k. ap (λ xs. times xs k) c.in_ok-new-2.ensures.items ∙ times_numbers c.args.frames.now k)
    (ap (λ xs. length xs) c.in_ok-new-2.ensures.items ∙ length_numbers c.args.frames.now)
    c.in_ok-new-2.ensures.room)
