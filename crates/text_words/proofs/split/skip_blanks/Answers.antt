use Rattle.std.proofs.lemmas.List.{take_rest}
use Rattle.text_words.proofs.WordLemmas.{words_of_skip}
use Rattle.text_words.proofs.ReadLemmas.{blank_behind}
use Rattle.text_words.proofs.split.skip_blanks.Goals as goal

pub returns-clause-words : goal.returns-clause-words
returns-clause-words c = rw take_rest (words_of_skip c.args.text.now c.run_length.result c.run_length.ensures.within c.run_length.ensures.same)

pub returns-clause-start : goal.returns-clause-start
returns-clause-start c = rw take_rest (blank_behind c.args.text.now c.run_length.result c.run_length.ensures.other)
