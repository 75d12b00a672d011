use Rattle.exporter_pins.proofs.LowestLemmas.{lowest_next, lowest_most, lowest_is, none_live}
use Rattle.exporter_pins.proofs.exported.ExportTable.lowest.Goals as goal

pub loop-call-preserved : goal.loop-call-preserved
loop-call-preserved c =
    let number = rw (← c.self.view_is) at c.segid.ensures.number in
    record {
      kept = rw (c.lower-lowest.ensures.number, number)
          (lowest_next c.row_laws.ensures c.self.inside.rows.entries c.self.inside.made c.self.invariant.1 c.args.pid.0 c.loop-call.last _ c.loop-call.invariant.kept c.in-Some.call c.in-Some.ensures.here c.in-Some.ensures.least);
      natural = c.lower-lowest.ensures.natural c.loop-call.invariant.natural c.segid.ensures.natural;
    }

pub returns-clause-least : goal.returns-clause-least
returns-clause-least c =
    rw (← c.self.view_is)
    (lowest_is c.self.inside.rows.entries c.args.pid.0 c.loop-call.last c.loop-call.lowest c.loop-call.invariant.kept
    (lowest_most c.row_laws.ensures c.self.inside.rows.entries c.self.inside.made c.self.invariant.1 c.args.pid.0 c.loop-call.last _ c.loop-call.invariant.kept c.self.invariant.0.ascending c.in_default.ensures.none))

pub returns-clause-none : goal.returns-clause-none
returns-clause-none c =
    rw (← c.self.view_is)
    (none_live c.self.inside.rows.entries c.args.pid.0 c.loop-call.lowest
    (lowest_most c.row_laws.ensures c.self.inside.rows.entries c.self.inside.made c.self.invariant.1 c.args.pid.0 c.loop-call.last _ c.loop-call.invariant.kept c.self.invariant.0.ascending c.in_default.ensures.none))
