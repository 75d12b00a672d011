use Rattle.history_laws.proofs.Legal.{journal_of-legal}
use Rattle.history_laws.proofs.laws.journals_are_legal.Goals as goal

pub returns : goal.returns
returns c = journal_of-legal c.laws.ensures
