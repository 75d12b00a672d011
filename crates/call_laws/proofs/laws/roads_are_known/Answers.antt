use Rattle.call_laws.proofs.Guiding.{journal_of-ready, steps_ready}
use Rattle.call_laws.proofs.laws.roads_are_known.Goals as goal

pub returns-clause-ended : goal.returns-clause-ended
returns-clause-ended c = journal_of-ready c.laws.ensures

pub returns-clause-pauses : goal.returns-clause-pauses
returns-clause-pauses c = steps_ready c.laws.ensures
