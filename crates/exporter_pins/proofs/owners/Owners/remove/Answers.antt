use Rattle.std.proofs.Common.{arith, ◌≡◌, Some}
use Rattle.xm_num.specs.Rows.{at}
use Rattle.exporter_pins.specs.Layout.{owner_rows}
use Rattle.exporter_pins.proofs.OwnerLemmas.{placed, place_small, within, less_is, must_have, kept_less, kept_still}
use Rattle.exporter_pins.proofs.owners.Owners.remove.Goals as goal

pub unwrap-place-requires : goal.unwrap-place-requires
unwrap-place-requires c =
    let has : at (owner_rows c.self.inside.frames c.self.inside.slots.items) c.args.number ≡ Some c.args.pid = rw (← c.self.view_is) at c.requires in
    must_have c.row_laws.ensures c.self.inside.frames c.self.inside.slots.items c.self.inside.groups c.self.invariant _ _ c.args.number c.args.pid c.as_slice.ensures c.place_of.ensures.none has

pub index_mut-requires : goal.index_mut-requires
index_mut-requires c =
    let here = placed c.self.inside.frames _ _ _ c.args.number c.as_slice.ensures c.unwrap-place.ensures c.place_of.ensures.here in
    omega (arith, within c.row_laws.ensures c.self.inside.frames c.self.inside.slots.items c.self.inside.groups c.self.invariant c.unwrap-place.result c.args.number here, c.self.inside.slots.ok.0)

pub group_of-group-requires : goal.group_of-group-requires
group_of-group-requires c =
    omega (arith, place_small c.self.inside.frames c.unwrap-place.result c.args.number c.self.invariant.ascending (placed c.self.inside.frames _ _ _ c.args.number c.as_slice.ensures c.unwrap-place.ensures c.place_of.ensures.here), c.ranges.number.fits)

pub invariant_of-self : goal.invariant_of-self
invariant_of-self c =
    let here = placed c.self.inside.frames _ _ _ c.args.number c.as_slice.ensures c.unwrap-place.ensures c.place_of.ensures.here in
    let has : at (owner_rows c.self.inside.frames c.self.inside.slots.items) c.args.number ≡ Some c.args.pid = rw (← c.self.view_is) at c.requires in
    kept_less c.row_laws.ensures c.self.inside.frames c.self.inside.slots.items c.self.inside.groups c.self.invariant c.unwrap-place.result c.args.number here c.args.pid has c.group_of-group.result c.group_of-group.ensures _ c.deref.ensures.value
    c.remove.new.self c.place_in.result c.remove.ensures c.if-is_none.ensures c.place_in.ensures.none

pub invariant_of-self-else-is_none : goal.invariant_of-self-else-is_none
invariant_of-self-else-is_none c =
    let here = placed c.self.inside.frames _ _ _ c.args.number c.as_slice.ensures c.unwrap-place.ensures c.place_of.ensures.here in
    let has : at (owner_rows c.self.inside.frames c.self.inside.slots.items) c.args.number ≡ Some c.args.pid = rw (← c.self.view_is) at c.requires in
    kept_still c.row_laws.ensures c.self.inside.frames c.self.inside.slots.items c.self.inside.groups c.self.invariant c.unwrap-place.result c.args.number here c.args.pid has c.group_of-group.result c.group_of-group.ensures _ c.deref.ensures.value
    c.place_in.result c.if-is_none.ensures c.place_in.ensures.within c.place_in.ensures.here

pub returns-then-is_none-clause-rows : goal.returns-then-is_none-clause-rows
returns-then-is_none-clause-rows c =
    let here = placed c.self.inside.frames _ _ _ c.args.number c.as_slice.ensures c.unwrap-place.ensures c.place_of.ensures.here in
    rw (← c.self.view_is) (less_is c.row_laws.ensures c.self.inside.frames c.self.inside.slots.items c.self.inside.groups c.self.invariant c.unwrap-place.result c.args.number here)

pub returns-else-is_none-clause-rows : goal.returns-else-is_none-clause-rows
returns-else-is_none-clause-rows c =
    let here = placed c.self.inside.frames _ _ _ c.args.number c.as_slice.ensures c.unwrap-place.ensures c.place_of.ensures.here in
    rw (← c.self.view_is) (less_is c.row_laws.ensures c.self.inside.frames c.self.inside.slots.items c.self.inside.groups c.self.invariant c.unwrap-place.result c.args.number here)
