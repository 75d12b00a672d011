use Rattle.history_laws.proofs.Spelled.{journal_of-spelled}
use Rattle.history_laws.proofs.laws.journals_are_spelled.Goals as goal

pub returns : goal.returns
returns c = journal_of-spelled c.laws.ensures
