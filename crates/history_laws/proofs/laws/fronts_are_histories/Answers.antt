use Rattle.history_laws.proofs.Fronts.{history_front}
use Rattle.history_laws.proofs.laws.fronts_are_histories.Goals as goal

pub returns : goal.returns
returns c = history_front
