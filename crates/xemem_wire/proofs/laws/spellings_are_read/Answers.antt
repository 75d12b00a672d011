use Rattle.xemem_wire.proofs.StreamLemmas.{reading_of-spelling_of, reading_of-spellings}
use Rattle.xemem_wire.proofs.LawLemmas.{first_bad-spellings}
use Rattle.xemem_wire.proofs.laws.spellings_are_read.Goals as goal

pub returns-clause-first : goal.returns-clause-first
returns-clause-first c = reading_of-spelling_of

pub returns-clause-all : goal.returns-clause-all
returns-clause-all c = reading_of-spellings

pub returns-clause-bad : goal.returns-clause-bad
returns-clause-bad c = first_bad-spellings
