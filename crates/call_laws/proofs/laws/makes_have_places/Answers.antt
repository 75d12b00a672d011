use Rattle.call_laws.proofs.Placed.{journal_of-placed, steps_placed}
use Rattle.call_laws.proofs.laws.makes_have_places.Goals as goal

pub returns-clause-ended : goal.returns-clause-ended
returns-clause-ended c = journal_of-placed c.laws.ensures

pub returns-clause-pauses : goal.returns-clause-pauses
returns-clause-pauses c = steps_placed c.laws.ensures
