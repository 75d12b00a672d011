use Rattle.std.proofs.Common.{◌≡◌, sym, refl, true, false, Some, None, arith}
use Rattle.xm_num.specs.Rows.{at, put}
use Rattle.exporter_pins.specs.Holdings.{is_asked}
use Rattle.exporter_pins.proofs.TableLemmas.{asked_room, asked_is, table_settled, made_settled, written_is}
use Rattle.exporter_pins.proofs.exported.ExportTable.settle.Goals.{in-Some, in_default}
use Rattle.exporter_pins.proofs.exported.ExportTable.settle.Goals as goal

pub insert-requires : goal.insert-requires
insert-requires c =
    let asked = rw (← c.self.view_is) at c.requires.asked in
    omega (arith, asked_room c.row_laws.ensures c.self.inside.rows.entries c.self.inside.names c.self.inside.asked c.self.invariant.0 c.args.call.0 asked, c.self.invariant.0.room)

pub invariant_of-self : goal.invariant_of-self
unfolding at
invariant_of-self c =
    let asked : is_asked (at c.self.inside.rows.entries c.args.call.0) ≡ true = rw (← c.self.view_is) at c.requires.asked in
    elim c.match-get_mut.branch [
      | in-Some w ↦
          let here : at c.self.inside.rows.entries c.args.call.0 ≡ Some w.in-Some.row.now = sym w.in-Some.ensures.value in
          let h = c.get_mut.follows.holds w.settle.new.self in
          let placed : (c.get_mut.follows.lender w.settle.new.self).entries ≡ put c.self.inside.rows.entries c.args.call.0 w.settle.new.self =
          written_is c.row_laws.ensures c.self.inside.rows.entries _ c.args.call.0 w.settle.new.self c.self.invariant.0.ascending h.4 (h.3 (rw here refl)).0 in
          rw (w.self-inside-is, placed, w.settle.ensures) (
            table_settled c.row_laws.ensures c.self.inside.rows.entries c.self.inside.names c.self.inside.asked c.self.invariant.0 c.args.call.0 _ w.in-Some.row.now c.insert.new.self here (rw here at (asked_is _ asked))
                (rw (← c.self.view_is) at c.requires.unused) (λ m. rw c.number.ensures at (c.insert.ensures.names m)) c.insert.ensures.spare,
            made_settled c.row_laws.ensures c.self.inside.rows.entries c.self.inside.made c.self.invariant.1 c.args.call.0 w.in-Some.row.now here _,
          )
      | in_default w ↦
          let none : at c.self.inside.rows.entries c.args.call.0 ≡ None = sym w.in_default.ensures.value in
          absurd (let bad : false ≡ true = rw none at asked in (cc))
    ]
