use Rattle.scenario_text.proofs.JournalLemmas.{lines_of-text}
use Rattle.scenario_text.proofs.laws.journals_are_split_again.Goals as goal

pub returns : goal.returns
returns c = lines_of-text c.lines_are_words.ensures
