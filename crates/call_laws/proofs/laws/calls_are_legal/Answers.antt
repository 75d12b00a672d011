use Rattle.call_laws.proofs.Journals.{journal_of-calls}
use Rattle.call_laws.proofs.laws.calls_are_legal.Goals as goal

pub returns : goal.returns
returns c = journal_of-calls c.laws.ensures
