-- How many words and deliveries lines have, and where a limit stops them.
use Rattle.std.proofs.Common.{◌≡◌, ◌+◌, ◌<◌, ℕ, zero, suc, List, [], ◌∷◌, ◌++◌, length, take, get_or, Bool, cond, refl, sym, ap, ◌∙◌, arith, length-append}
use Rattle.std.proofs.lemmas.List.Elements.{filter-append}
use Rattle.std.proofs.lemmas.List.Filters.{length-filter_more}
use Rattle.xemem_language.specs.declared.line.Line.{Line}
use Rattle.xemem_language.specs.Spelling.{line_words, words_in}
use Rattle.global_model.specs.Journals.{is_delivery, deliveries_in, onto}

pub words-append : (ls ms : List Line) → words_in (ls ++ ms) ≡ words_in ls + words_in ms
words-append [] ms = omega arith
words-append (l ∷ ls) ms = omega (arith, words-append ls ms)

pub words-more : (i : ℕ) (ls : List Line) (l : Line) → i < length ls → l ≡ get_or ls i l → words_in (take (i + 1) ls) ≡ words_in (take i ls) + length (line_words l)
words-more i [] l within is = absurd (omega (arith, within))
words-more zero (m ∷ ls) l within is = omega (arith, ap (λ k. length (line_words k)) is)
words-more (suc i) (m ∷ ls) l within is =
    let next : suc i + 1 ≡ suc (i + 1) = omega arith in
    omega (arith, ap (λ n. words_in (take n (m ∷ ls))) next, words-more i ls l (omega (arith, within)) is)

pub deliveries-append : (ls ms : List Line) → deliveries_in (ls ++ ms) ≡ deliveries_in ls + deliveries_in ms
deliveries-append ls ms = ap length (filter-append is_delivery ls ms) ∙ length-append _ _

-- a line tells one delivery or none
abbrev pub made_by : Bool → ℕ
made_by b = cond b 1 0

pub deliveries-more : (i : ℕ) (ls : List Line) (l : Line) → i < length ls → l ≡ get_or ls i l → deliveries_in (take (i + 1) ls) ≡ deliveries_in (take i ls) + made_by (is_delivery l)
deliveries-more i ls l within is = length-filter_more is_delivery ls i l within ∙ ap (λ k. deliveries_in (take i ls) + made_by (is_delivery k)) (sym is)

-- lines on top of a past, in two parts
pub onto-append : (ls ms past : List Line) → onto (ls ++ ms) past ≡ onto ms (onto ls past)
onto-append [] ms past = refl
onto-append (l ∷ ls) ms past = onto-append ls ms (l ∷ past)
