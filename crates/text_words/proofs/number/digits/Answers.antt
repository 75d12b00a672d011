use Rattle.std.proofs.Common.{sym, ◌∙◌}
use Rattle.text_words.proofs.ReadLemmas.{IsUtf8-digits, digits-parse, no_text, the_text}
use Rattle.text_words.proofs.number.digits.Goals as goal

pub returns-in_err-text : goal.returns-in_err-text
returns-in_err-text c =
    rw c.from_residual.ensures (λ s. no_text _ _ _ c.from_utf8.result (sym c.ok.ensures.value ∙ c.in_err-text.was) c.from_utf8.ensures.cases (IsUtf8-digits _ s.digits))

pub returns : goal.returns
returns c =
    let e = the_text _ _ c.args.word.now c.from_utf8.result c.in_ok-text.text (sym c.ok.ensures.value ∙ c.in_ok-text.was) c.from_utf8.ensures.cases in
    let parsed = rw e at c.parse.ensures.value.0 in
    rw c.ok-2.ensures.value (digits-parse c.args.word.now c.parse.result parsed c.if-word-eq43.false)
