use Rattle.std.proofs.Common.{arith, add-one}
use Rattle.std.proofs.lemmas.List.{take_rest}
use Rattle.text_words.proofs.WordLemmas.{lines_of_at, lines_of_last}
use Rattle.text_words.proofs.split.first_line.Goals as goal

pub returns-then-end-text-clause-lines : goal.returns-then-end-text-clause-lines
returns-then-end-text-clause-lines c =
    let text = c.args.text.now in
    let end = c.line_length-end.result in
    rw (take_rest, add-one) (lines_of_at text end (omega arith) c.line_length-end.ensures.before (c.line_length-end.ensures.found (omega arith)))

pub returns-else-end-text-clause-lines : goal.returns-else-end-text-clause-lines
returns-else-end-text-clause-lines c =
    let text = c.args.text.now in
    lines_of_last text (omega arith) (λ k lt. c.line_length-end.ensures.before k (omega arith))
