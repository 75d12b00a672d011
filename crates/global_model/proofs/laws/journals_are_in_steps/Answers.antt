use Rattle.global_model.proofs.Pauses.{journal_of-in_steps}
use Rattle.global_model.proofs.laws.journals_are_in_steps.Goals as goal

pub returns : goal.returns
returns c = journal_of-in_steps
