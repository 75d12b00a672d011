use Rattle.global_model.proofs.Rests.{journal_of-rested}
use Rattle.global_model.proofs.laws.journals_are_rested.Goals as goal

pub returns : goal.returns
returns c = journal_of-rested
