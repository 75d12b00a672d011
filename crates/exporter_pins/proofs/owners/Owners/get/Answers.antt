use Rattle.std.proofs.Common.{sym, ◌∙◌, ap}
use Rattle.exporter_pins.specs.Layout.{owner_at}
use Rattle.exporter_pins.proofs.OwnerLemmas.{found_at, not_at, rows_ascend}
use Rattle.exporter_pins.proofs.owners.Owners.get.Goals as goal

pub returns-in_err-place-clause-value : goal.returns-in_err-place-clause-value
returns-in_err-place-clause-value c =
    rw (← c.self.view_is) (c.from_residual.ensures ∙ sym (not_at c.row_laws.ensures c.self.inside.frames c.self.inside.slots.items c.self.inside.groups c.self.invariant c.args.number (rw c.as_slice.ensures at c.in_err-place.ensures.none)))

pub returns-in_err-place-clause-ascending : goal.returns-in_err-place-clause-ascending
returns-in_err-place-clause-ascending c = rw (← c.self.view_is) (rows_ascend c.self.inside.frames c.self.inside.slots.items c.self.invariant.ascending)

pub returns-clause-value : goal.returns-clause-value
returns-clause-value c =
    rw (← c.self.view_is) (c.slot.ensures ∙ ap (λ xs. owner_at xs c.in_ok-place.place) c.deref.ensures.value ∙ sym (found_at c.row_laws.ensures c.self.inside.frames c.self.inside.slots.items c.in_ok-place.place c.args.number c.self.invariant.ascending (rw c.as_slice.ensures at c.in_ok-place.ensures.here)))

pub returns-clause-ascending : goal.returns-clause-ascending
returns-clause-ascending c = rw (← c.self.view_is) (rows_ascend c.self.inside.frames c.self.inside.slots.items c.self.invariant.ascending)
