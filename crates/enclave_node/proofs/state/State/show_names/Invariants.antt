use Rattle.std.proofs.Common.{◌≡◌, ◌++◌, ◌+◌, ◌-◌, ◌^◌}
use Rattle.enclave_rules.specs.Segments.{name_rows}
use Rattle.enclave_node.proofs.RowLemmas.{rows_from}
use Rattle.enclave_node.proofs.state.State.show_names.Given as goal

abbrev pub invariant-loop-number : goal.invariant-loop-number
invariant-loop-number g l = l.out ++ name_rows (rows_from l.from l.self.names.pairs) ≡ l.fn.out ++ name_rows l.self.names.pairs

abbrev pub decreases-loop-number : goal.decreases-loop-number
decreases-loop-number g l = 2 ^ 32 + 1 - l.from
