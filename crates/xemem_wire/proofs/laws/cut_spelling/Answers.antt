use Rattle.xemem_wire.proofs.LawLemmas.{reading_of-cut, first_bad-cut}
use Rattle.xemem_wire.proofs.laws.cut_spelling.Goals as goal

pub returns-clause-reading : goal.returns-clause-reading
returns-clause-reading c = reading_of-cut

pub returns-clause-fine : goal.returns-clause-fine
returns-clause-fine c = first_bad-cut
