use Rattle.std.proofs.Common.{◌∙◌, sym, ap, Some}
use Rattle.xm_num.specs.Rows.{at, less}
use Rattle.exporter_pins.proofs.TableLemmas.{table_less_live, table_less_asked, some_asked, made_less}
use Rattle.exporter_pins.proofs.exported.ExportTable.remove.Goals as goal

pub invariant_of-self-in-Some : goal.invariant_of-self-in-Some
unfolding at less
invariant_of-self-in-Some c =
    let here = sym c.remove.ensures.value ∙ c.in_ok-row.was in
    rw c.remove.ensures.entries (
      table_less_live c.row_laws.ensures c.self.inside.rows.entries c.self.inside.names c.self.inside.asked c.self.invariant.0 c.args.call.0 c.in_ok-row.row here
          c.number.result c.remove-in-Some.new.self (sym c.in-Some.ensures.number ∙ ap Some (sym c.number.ensures)) c.remove-in-Some.ensures.names c.remove-in-Some.ensures.spare,
      made_less c.row_laws.ensures c.self.inside.rows.entries c.self.inside.made c.self.invariant.1 c.args.call.0 c.in_ok-row.row here c.remove-2.new.self
          c.self.invariant.0.ascending (λ p k. rw c.pid.ensures at (c.remove-2.ensures p k)),
    )

pub overflow_sub-self : goal.overflow_sub-self
unfolding at less
overflow_sub-self c =
    some_asked c.row_laws.ensures c.self.inside.rows.entries c.self.inside.names c.self.inside.asked c.self.invariant.0 c.args.call.0 c.in_ok-row.row (sym c.remove.ensures.value ∙ c.in_ok-row.was) (sym c.in-None.ensures.number)

pub invariant_of-self-in-None : goal.invariant_of-self-in-None
unfolding at less
invariant_of-self-in-None c =
    let here = sym c.remove.ensures.value ∙ c.in_ok-row.was in
    rw c.remove.ensures.entries (
      table_less_asked c.row_laws.ensures c.self.inside.rows.entries c.self.inside.names c.self.inside.asked c.self.invariant.0 c.args.call.0 c.in_ok-row.row here (sym c.in-None.ensures.number),
      made_less c.row_laws.ensures c.self.inside.rows.entries c.self.inside.made c.self.invariant.1 c.args.call.0 c.in_ok-row.row here c.remove-2.new.self
          c.self.invariant.0.ascending (λ p k. rw c.pid.ensures at (c.remove-2.ensures p k)),
    )
