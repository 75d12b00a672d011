use Rattle.global_model.proofs.Refused.{no_condition}
use Rattle.global_model.proofs.laws.refusals_come_first.Goals as goal

pub returns : goal.returns
returns c = no_condition
