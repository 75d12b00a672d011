use Rattle.command_reader.proofs.WordsOf.{command_in_words}
use Rattle.command_reader.proofs.laws.commands_are_words.Goals as goal

pub returns : goal.returns
returns c = command_in_words c.spellings_are_words.ensures
