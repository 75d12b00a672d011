use Rattle.std.proofs.Common.{refl}
use Rattle.scenario_text.proofs.JournalLemmas.{read_all}
use Rattle.scenario_text.proofs.laws.journals_are_read_back.Goals as goal

pub returns : goal.returns
returns c = read_all c.journals_are_split_again.ensures (λ line typed spelled. (c.lines_are_read_back.ensures _ line).1 (refl, spelled, typed))
