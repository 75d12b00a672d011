use Rattle.call_laws.proofs.Resting.{journal_of-even}
use Rattle.call_laws.proofs.laws.rest_is_even.Goals as goal

pub returns : goal.returns
returns c = journal_of-even c.laws.ensures
