use Rattle.text_words.proofs.WordLemmas.{number_in-decimal, number_in-spells}
use Rattle.text_words.proofs.laws.numbers_are_read_back.Goals as goal

pub returns : goal.returns
returns c = record { back = number_in-decimal; spelled = number_in-spells }
