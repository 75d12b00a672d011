use Rattle.std.proofs.Common.{◌≡◌, sym, ap, ◌∙◌, arith, add-one, refl}
use Rattle.std.proofs.lemmas.List.{take_rest}
use Rattle.line_reader.specs.Slots.{next_word, pieces, words_left}
use Rattle.line_reader.proofs.PieceLemmas.{pieces_at, pieces_last}
use Rattle.line_reader.proofs.cursor.Words.next.Goals as goal

pub returns-then-end-text-clause-word : goal.returns-then-end-text-clause-word
unfolding next_word
returns-then-end-text-clause-word c =
    let rest = c.in_ok-text.text.now in
    let length_is = c.word_length-end in
    let left : c.args.self.now ≡ pieces rest = sym c.self.view_is ∙ ap words_left c.in_ok-text.was in
    rw (take_rest, add-one, left, pieces_at rest length_is.result c.if-end-text.true length_is.ensures.before (length_is.ensures.found c.if-end-text.true)) refl

pub returns-else-end-text-clause-word : goal.returns-else-end-text-clause-word
unfolding next_word
returns-else-end-text-clause-word c =
    let rest = c.in_ok-text.text.now in
    let left : c.args.self.now ≡ pieces rest = sym c.self.view_is ∙ ap words_left c.in_ok-text.was in
    rw (left, pieces_last rest (λ k lt. c.word_length-end.ensures.before k (omega arith))) refl
