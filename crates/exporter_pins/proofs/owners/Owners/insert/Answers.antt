use Rattle.std.proofs.Common.{arith, ◌≡◌, None, refl}
use Rattle.xm_num.specs.Rows.{at}
use Rattle.exporter_pins.specs.Layout.{owner_rows}
use Rattle.exporter_pins.proofs.OwnerLemmas.{placed, place_small, within, put_is, kept_more, kept_beside}
use Rattle.exporter_pins.proofs.owners.Owners.insert.Goals.{then-not-has_before+in_ok-insert, else-not-has_before}
use Rattle.exporter_pins.proofs.owners.Owners.insert.Goals as goal

pub group_of-requires : goal.group_of-requires
group_of-requires c =
    omega (arith, place_small c.self.inside.frames c.unwrap-place.result c.args.number c.self.invariant.ascending (placed c.self.inside.frames _ _ _ c.args.number c.as_slice.ensures c.unwrap-place.ensures c.place_of.ensures.here), c.ranges.number.fits)

pub index_mut-requires : goal.index_mut-requires
index_mut-requires c =
    let here = placed c.self.inside.frames _ _ _ c.args.number c.as_slice.ensures c.unwrap-place.ensures c.place_of.ensures.here in
    let low = within c.row_laws.ensures c.self.inside.frames c.self.inside.slots.items c.self.inside.groups c.self.invariant c.unwrap-place.result c.args.number here in
    elim c.if-not-has_before.branch [
      | then-not-has_before+in_ok-insert w ↦ rw w.self-inside-is (omega (arith, low, c.self.inside.slots.ok.0))
      | else-not-has_before w ↦ rw w.self-inside-is (omega (arith, low, c.self.inside.slots.ok.0))
    ]

pub invariant_of-self-2 : goal.invariant_of-self-2
invariant_of-self-2 c =
    let here = placed c.self.inside.frames _ _ _ c.args.number c.as_slice.ensures c.unwrap-place.ensures c.place_of.ensures.here in
    let fresh : at (owner_rows c.self.inside.frames c.self.inside.slots.items) c.args.number ≡ None = rw (← c.self.view_is) at c.requires.fresh in
    elim c.if-not-has_before.branch [
      | then-not-has_before+in_ok-insert w ↦ rw w.self-inside-is (kept_more c.row_laws.ensures c.self.inside.frames c.self.inside.slots.items c.self.inside.groups c.self.invariant c.unwrap-place.result c.args.number here c.args.pid fresh w.group_of.result w.insert.new.self w.group_of.ensures w.in_ok-insert.ensures.ok)
      | else-not-has_before w ↦ rw w.self-inside-is (kept_beside c.row_laws.ensures c.self.inside.frames c.self.inside.slots.items c.self.inside.groups c.self.invariant c.unwrap-place.result c.args.number here c.args.pid fresh (rw c.deref.ensures.value at (w.if-not-has_before.ensures.here refl)) (w.if-not-has_before.ensures.group refl))
    ]

pub returns-clause-ok : goal.returns-clause-ok
returns-clause-ok c =
    let here = placed c.self.inside.frames _ _ _ c.args.number c.as_slice.ensures c.unwrap-place.ensures c.place_of.ensures.here in
    let puts = put_is c.row_laws.ensures c.self.inside.frames c.self.inside.slots.items c.self.inside.groups c.self.invariant c.unwrap-place.result c.args.number here c.args.pid in
    elim c.if-not-has_before.branch [
      | then-not-has_before+in_ok-insert w ↦ rw (w.self-inside-is, ← c.self.view_is) puts
      | else-not-has_before w ↦ rw (w.self-inside-is, ← c.self.view_is) puts
    ]
