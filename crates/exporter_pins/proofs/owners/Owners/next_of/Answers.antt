use Rattle.std.proofs.Common.{◌≡◌, refl, sym, ◌∙◌, Some}
use Rattle.exporter_pins.specs.Layout.{owner_at}
use Rattle.exporter_pins.proofs.OwnerLemmas.{if_none, none_of, found_at, place_within, must_be, rows_ascend}
use Rattle.exporter_pins.proofs.owners.Owners.next_of.Goals as goal

pub returns-in_err-group-clause-none : goal.returns-in_err-group-clause-none
returns-in_err-group-clause-none c =
    rw (← c.self.view_is) (if_none c.from_residual.result (none_of c.row_laws.ensures c.self.inside.frames c.self.inside.slots.items c.self.inside.groups c.self.invariant c.args.pid (λ b. c.in_err-group.ensures.none b refl)))

pub returns-in_err-group-clause-ascending : goal.returns-in_err-group-clause-ascending
returns-in_err-group-clause-ascending c = rw (← c.self.view_is) (rows_ascend c.self.inside.frames c.self.inside.slots.items c.self.invariant.ascending)

pub returns-in_err-frame-clause-none : goal.returns-in_err-frame-clause-none
returns-in_err-frame-clause-none c =
    let here : owner_at c.self.inside.slots.items c.in_ok-place.place ≡ Some c.args.pid = rw c.deref.ensures.value at c.in_ok-place.ensures.here in
    must_be c.self.inside.frames c.in_ok-place.place (place_within c.row_laws.ensures c.self.inside.frames c.self.inside.slots.items c.self.inside.groups c.self.invariant c.in_ok-place.place c.args.pid here) (sym c.in_err-frame.ensures)

pub returns-in_err-frame-clause-ascending : goal.returns-in_err-frame-clause-ascending
returns-in_err-frame-clause-ascending c = rw (← c.self.view_is) (rows_ascend c.self.inside.frames c.self.inside.slots.items c.self.invariant.ascending)

pub returns-clause-here : goal.returns-clause-here
returns-clause-here c =
    let here : owner_at c.self.inside.slots.items c.in_ok-place.place ≡ Some c.args.pid = rw c.deref.ensures.value at c.in_ok-place.ensures.here in
    rw (← c.self.view_is) (found_at c.row_laws.ensures c.self.inside.frames c.self.inside.slots.items c.in_ok-place.place c.in_ok-frame.frame.0 c.self.invariant.ascending (sym c.in_ok-frame.ensures) ∙ here)

pub returns-clause-ascending : goal.returns-clause-ascending
returns-clause-ascending c = rw (← c.self.view_is) (rows_ascend c.self.inside.frames c.self.inside.slots.items c.self.invariant.ascending)
