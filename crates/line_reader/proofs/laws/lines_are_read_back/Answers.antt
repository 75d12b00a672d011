use Rattle.line_reader.proofs.TextLemmas.{text_line-back, text_line-some}
use Rattle.line_reader.proofs.laws.lines_are_read_back.Goals as goal

pub returns : goal.returns
returns c = λ text line. (text_line-some c.laws.ensures text line, text_line-back c.laws.ensures text line)
