use Rattle.std.proofs.Common.{◌≡◌, ◌++◌, length}
use Rattle.enclave_rules.specs.Steps.{lines_of_records, after_records}
use Rattle.enclave_node.proofs.ReceiveLemmas.{given}
use Rattle.enclave_node.proofs.state.State.take_all.Given as goal

abbrev pub invariant-loop-rec : goal.invariant-loop-rec
invariant-loop-rec g l = record {
  lines : l.out ++ lines_of_records l.self l.from l.feed.records ≡ l.fn.out ++ lines_of_records l.fn.self l.from l.fn.feed.records;
  view : after_records l.self l.from l.feed.records ≡ after_records l.fn.self l.from l.fn.feed.records;
  feed : given l.feed ≡ given l.fn.feed;
}

abbrev pub decreases-loop-rec : goal.decreases-loop-rec
decreases-loop-rec g l = length l.feed.records
