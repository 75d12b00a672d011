use Rattle.call_laws.proofs.Journals.{journal_of-single, steps_single}
use Rattle.call_laws.proofs.laws.records_are_single.Goals as goal

pub returns-clause-ended : goal.returns-clause-ended
returns-clause-ended c = journal_of-single c.laws.ensures

pub returns-clause-pauses : goal.returns-clause-pauses
returns-clause-pauses c = steps_single c.laws.ensures
