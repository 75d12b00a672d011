use Rattle.std.proofs.Common.{Some, ◌≢◌, ◌<◌, length, get_or, sym, ap, ◌∙◌, arith}
use Rattle.text_words.proofs.WordLemmas.{number_in-some, number_in-none}
use Rattle.text_words.proofs.number.number_of.Goals as goal
use Rattle.text_words.proofs.number.number_of.Goals.{else-word-gt1-via-then-word-gt1+else-word-eq48, else-word-gt1-via-else-word-gt1}

pub returns-then-word-eq48-clause-value : goal.returns-then-word-eq48-clause-value
returns-then-word-eq48-clause-value c = sym (number_in-none _ _ _ (λ digits filled lead ge le. lead c.if-word-gt1.true c.if-word-eq48.true))

pub returns-in_err-number-clause-value : goal.returns-in_err-number-clause-value
returns-in_err-number-clause-value c =
    rw c.from_residual.ensures (sym (number_in-none _ _ _ (λ digits filled lead ge le. c.in_err-number.ensures (record { digits = digits; filled = filled; fits = omega arith }))))

pub returns-then-number-low-clause-value : goal.returns-then-number-low-clause-value
returns-then-number-low-clause-value c =
    sym (number_in-none _ _ _ (λ digits filled lead ge le. absurd (omega (arith, c.in_ok-number.ensures.1, c.then-number-low.either))))

pub returns-clause-value : goal.returns-clause-value
returns-clause-value c =
    let word = c.args.word.now in
    let spelled = c.in_ok-number.ensures in
    let lead : 1 < length word → get_or word 0 0 ≢ 48 = λ long zero. elim c.else-word-gt1.branch [ else-word-gt1-via-then-word-gt1+else-word-eq48 w ↦ w.if-word-eq48.false zero | else-word-gt1-via-else-word-gt1 w ↦ absurd (omega arith) ] in
    ap Some spelled.1 ∙ sym (number_in-some c.args.low c.args.high word spelled.0.digits spelled.0.filled lead (omega (arith, spelled.1)) (omega (arith, spelled.1)))
