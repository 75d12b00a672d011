use Rattle.text_words.specs.Words.{lines_of}
use Rattle.command_reader.proofs.Placed.{scenario_placed}
use Rattle.command_reader.proofs.laws.scenarios_are_placed.Goals as goal

pub returns : goal.returns
returns c = λ built bytes. scenario_placed c.numbers_are_read_back.ensures built (lines_of bytes)
