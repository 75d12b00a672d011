use Rattle.call_laws.proofs.Journals.{journal_of-true}
use Rattle.call_laws.proofs.laws.cells_are_true.Goals as goal

pub returns : goal.returns
returns c = journal_of-true c.laws.ensures
