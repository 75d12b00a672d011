use Rattle.call_laws.proofs.Journals.{journal_of-one}
use Rattle.call_laws.proofs.laws.segids_are_one.Goals as goal

pub returns : goal.returns
returns c = journal_of-one c.laws.ensures
