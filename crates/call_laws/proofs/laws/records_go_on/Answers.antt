use Rattle.call_laws.proofs.Going.{journal_of-onward, steps_onward}
use Rattle.call_laws.proofs.laws.records_go_on.Goals as goal

pub returns-clause-ended : goal.returns-clause-ended
returns-clause-ended c = journal_of-onward c.laws.ensures

pub returns-clause-pauses : goal.returns-clause-pauses
returns-clause-pauses c = steps_onward c.laws.ensures
