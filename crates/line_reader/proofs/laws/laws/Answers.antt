use Rattle.line_reader.proofs.laws.laws.Goals as goal

pub returns : goal.returns
returns c = record {
  numbers = c.numbers_are_read_back.ensures;
  words = c.spellings_are_words.ensures;
  commands = record {
    back = c.commands_are_read_back.ensures.back;
    spelled = c.commands_are_read_back.ensures.words;
    ranges = c.commands_are_read_back.ensures.ranges;
    words = c.commands_are_words.ensures;
  };
}
