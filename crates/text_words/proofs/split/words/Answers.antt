use Rattle.std.proofs.Common.{◌≡◌, ◌++◌, [], map, take, sym, ap, ◌∙◌, arith, append-nil}
use Rattle.std.proofs.lemmas.Bool.{eqb-true}
use Rattle.std.proofs.lemmas.List.{take_at, take_all, length-map, nil_from_length}
use Rattle.text_words.specs.Words.{words_of}
use Rattle.text_words.proofs.split.words.Goals as goal

pub returns-then-is_full : goal.returns-then-is_full
returns-then-is_full c =
    let kept = map (λ word. word.now) c.loop-rest.words.items in
    let full = eqb-true _ _ (sym c.is_full.ensures.value ∙ c.if-is_full.true) in
    sym (take_at kept (words_of c.loop-rest.rest.now) 8 (length-map c.loop-rest.words.items (λ word. word.now) ∙ full)) ∙ c.loop-rest.invariant.words

pub returns : goal.returns
returns c =
    let kept = map (λ word. word.now) c.loop-rest.words.items in
    let last : words_of c.loop-rest.rest.now ≡ [] = ap words_of (nil_from_length _ (eqb-true _ _ (sym c.is_empty.ensures ∙ c.loop-rest-test.false))) in
    sym (take_all 8 kept (simp length-map (omega arith))) ∙ ap (take 8) (sym (append-nil kept) ∙ ap (λ more. kept ++ more) (sym last)) ∙ c.loop-rest.invariant.words
