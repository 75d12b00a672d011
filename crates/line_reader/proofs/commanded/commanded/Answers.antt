use Rattle.std.proofs.Common.{length, sym, ap, ◌∙◌}
use Rattle.std.proofs.lemmas.Bool.{eqb-true}
use Rattle.line_reader.proofs.CommandedLemmas.{none-if-empty, none-if-many}
use Rattle.line_reader.proofs.commanded.commanded.Goals as goal

pub returns-then-is_empty : goal.returns-then-is_empty
returns-then-is_empty c =
    let none = eqb-true _ _ (sym c.is_empty.ensures ∙ c.if-is_empty.true) in
    none-if-empty c.first_words-kept.result.items c.args.words.now c.first_words-kept.ensures.kept (ap length (sym c.as_slice-kept.ensures.value) ∙ none)

pub returns-then-kept-eq8 : goal.returns-then-kept-eq8
returns-then-kept-eq8 c =
    none-if-many c.first_words-kept.result.items c.args.words.now c.first_words-kept.ensures.kept (ap length (sym c.as_slice-kept.ensures.value) ∙ c.if-kept-eq8.true)
