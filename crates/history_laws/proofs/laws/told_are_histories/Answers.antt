use Rattle.std.proofs.Common.{subst}
use Rattle.global_model.specs.Journals.{do_commands}
use Rattle.history_laws.specs.History.{IsHistory}
use Rattle.history_laws.proofs.Fronts.{history_front}
use Rattle.history_laws.proofs.Told.{told_front}
use Rattle.history_laws.proofs.laws.told_are_histories.Goals as goal

pub returns : goal.returns
returns c = λ journal told placed.
    history_front journal _ (subst IsHistory (told_front c.laws.ensures journal told) (c.journals_are_histories.ensures (do_commands journal) placed))
