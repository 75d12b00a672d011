use Rattle.line_reader.proofs.LineWords.{line_in_words}
use Rattle.line_reader.proofs.laws.lines_are_words.Goals as goal

pub returns : goal.returns
returns c = line_in_words c.laws.ensures
