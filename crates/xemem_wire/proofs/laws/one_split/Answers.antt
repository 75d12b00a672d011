use Rattle.xemem_wire.proofs.LawLemmas.{is_split, only_split}
use Rattle.xemem_wire.proofs.laws.one_split.Goals as goal

pub returns-clause-split : goal.returns-clause-split
returns-clause-split c = is_split

pub returns-clause-only : goal.returns-clause-only
returns-clause-only c = only_split
