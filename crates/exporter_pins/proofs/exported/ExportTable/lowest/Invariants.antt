use Rattle.std.proofs.Common.{◌≡◌, pos, nat_abs, option_map, IfSome}
use Rattle.exporter_pins.proofs.LowestLemmas.{IsLowestTo, left_above}
use Rattle.exporter_pins.proofs.exported.ExportTable.lowest.Given as goal

abbrev pub invariant-loop-call : goal.invariant-loop-call
invariant-loop-call l =
    record {
      kept : IsLowestTo l.self-inside.rows.entries l.pid.0 l.last (option_map (λ s. nat_abs s.0) l.lowest);
      natural : IfSome l.lowest (λ s. s.0 ≡ pos (nat_abs s.0));
    }

abbrev pub decreases-loop-call : goal.decreases-loop-call
decreases-loop-call l = left_above l.last
