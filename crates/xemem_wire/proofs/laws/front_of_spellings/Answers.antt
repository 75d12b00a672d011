use Rattle.xemem_wire.proofs.LawLemmas.{first_bad-front, records_of-front}
use Rattle.xemem_wire.proofs.laws.front_of_spellings.Goals as goal

pub returns-clause-fine : goal.returns-clause-fine
returns-clause-fine c = first_bad-front

pub returns-clause-first : goal.returns-clause-first
returns-clause-first c = records_of-front
