use Rattle.std.proofs.Common.{arith, add-one}
use Rattle.std.proofs.lemmas.Bool.{true_from_ne_false}
use Rattle.std.proofs.lemmas.List.{take_rest}
use Rattle.text_words.proofs.WordLemmas.{words_of_at, words_of_last}
use Rattle.text_words.proofs.ReadLemmas.{word_filled}
use Rattle.text_words.proofs.split.first_word.Goals as goal

pub returns-then-end-text-clause-words : goal.returns-then-end-text-clause-words
returns-then-end-text-clause-words c =
    let text = c.args.text.now in
    let end = c.run_length-end.result in
    rw (take_rest, add-one) (words_of_at text end (word_filled text end c.run_length-end.ensures.other c.requires.some c.requires.start) (omega arith) c.run_length-end.ensures.same (true_from_ne_false _ (c.run_length-end.ensures.other (omega arith))))

pub returns-else-end-text-clause-words : goal.returns-else-end-text-clause-words
returns-else-end-text-clause-words c =
    words_of_last c.args.text.now (omega arith) (λ k lt. c.run_length-end.ensures.same k (omega arith))
