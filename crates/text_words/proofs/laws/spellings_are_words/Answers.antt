use Rattle.text_words.proofs.WordShapes.{decimal_word, name}
use Rattle.text_words.proofs.laws.spellings_are_words.Goals as goal

pub returns : goal.returns
returns c = record { number = decimal_word; name = name }
