use Rattle.std.proofs.Common.{◌≡◌, ◌+◌, arith}
use Rattle.xm_num.specs.Rows.{at, put}
use Rattle.exporter_pins.proofs.TableLemmas.{table_put, made_put}
use Rattle.exporter_pins.proofs.exported.ExportTable.insert.Goals as goal

pub invariant_of-self-2 : goal.invariant_of-self-2
unfolding at put
invariant_of-self-2 c =
    let more : c.in-Some.asked ≡ c.self.inside.asked + 1 = omega (arith, c.in-Some.ensures) in
    let fresh = rw (← c.self.view_is) at c.requires.fresh in
    rw (c.in_default-insert.ensures.entries, more) (
      table_put c.row_laws.ensures c.self.inside.rows.entries c.self.inside.names c.self.inside.asked c.self.invariant.0 c.args.call.0 c.args.row c.reserve.new.self
          fresh c.requires.asked c.in_ok-reserve.ensures.same (omega (arith, c.in_ok-reserve.ensures.ok, more)),
      made_put c.row_laws.ensures c.self.inside.rows.entries c.self.inside.made c.self.invariant.1 c.args.call.0 c.args.row c.insert.new.self
          fresh (λ p k. rw c.pid-pid.ensures at (c.in_ok-insert.ensures.ok p k)),
    )
