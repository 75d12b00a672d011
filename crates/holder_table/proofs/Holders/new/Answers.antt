use Rattle.holder_table.proofs.HolderLemmas.{kept_none}
use Rattle.holder_table.proofs.Holders.new.Goals as goal

pub invariant_of-result : goal.invariant_of-result
invariant_of-result g c = rw (c.new.ensures.empty, c.new-2.ensures) kept_none
