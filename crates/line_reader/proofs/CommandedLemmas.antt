-- The words of a command.
use Rattle.std.proofs.Common.{◌≡◌, ◌<◌, ◌≤◌, ◌&&◌, ℕ, List, [], ◌∷◌, ◌++◌, length, take, map, Bool, true, false, ltb, eqb, None, Some, Bor, refl, sym, ap, ◌∙◌, arith, append-nil, append_assoc, inl, inr}
use Rattle.std.proofs.lemmas.Bool.{and_parts, ne_eqb, ltb-true, cases_lt, cases_eq}
use Rattle.std.proofs.lemmas.List.{take_at, take_all, length-map, length-append, map-append}
use Rattle.std.specs.Result.{result_ok}
use Rattle.command_reader.specs.Forms.{Form, form_of, forms, command_of}
use Rattle.line_reader.specs.Slots.{next_word}
use Rattle.line_reader.specs.Lines.{do_form}
use Rattle.line_reader.proofs.ValueLemmas.{next_word-some}

abbrev seen : List (Bor (List ℕ)) → List (List ℕ)
seen words = map (λ word. word.now) words

-- all words were taken
pub gathered-all : (kept : List (Bor (List ℕ))) (left all : List (List ℕ)) → length kept ≤ 8 → None ≡ next_word left → seen kept ++ left ≡ all → seen kept ≡ take 8 all
unfolding next_word
gathered-all kept [] all room none is =
    let same : seen kept ≡ all = sym (append-nil (seen kept)) ∙ is in
    let few : length (seen kept) ≤ 8 = omega (arith, length-map kept (λ word. word.now)) in
    sym (take_all 8 (seen kept) few) ∙ ap (take 8) same
gathered-all kept (word ∷ left) all room none is = cc

-- eight words were taken
pub gathered-eight : (kept : List (Bor (List ℕ))) (left all : List (List ℕ)) → length kept ≡ 8 → seen kept ++ left ≡ all → (seen kept ≡ take 8 all) × (8 ≤ length all)
gathered-eight kept left all full is =
    let many : length (seen kept) ≡ 8 = length-map kept (λ word. word.now) ∙ full in
    (sym (take_at (seen kept) left 8 many) ∙ ap (take 8) is, omega (arith, length-append (seen kept) left, ap length is))

-- a word more is taken
pub gathered-more : (kept : List (Bor (List ℕ))) (word : Bor (List ℕ)) (left rest all : List (List ℕ)) → Some (word.now, rest) ≡ next_word left → seen kept ++ left ≡ all → seen (kept ++ word ∷ []) ++ rest ≡ all
gathered-more kept word left rest all h is =
    let split : left ≡ word.now ∷ rest = next_word-some left word.now rest (sym h) in
    rw map-append (append_assoc (seen kept) (word.now ∷ []) rest ∙ ap (λ words. seen kept ++ words) (sym split) ∙ is)

-- no form has eight words
abbrev are_short : List Form → Bool
are_short [] = true
are_short (form ∷ forms) = ltb form.count 8 && are_short forms

no_form : (forms : List Form) (words : List (List ℕ)) → are_short forms ≡ true → 8 ≤ length words → form_of forms words ≡ None
no_form [] words short long = refl
no_form (form ∷ forms) words short long =
    let parts = and_parts (ltb form.count 8) (are_short forms) short in
    let count : form.count < 8 = ltb-true form.count 8 parts.0 in
    let differs : eqb (length words) form.count ≡ false = ne_eqb (length words) form.count (λ e. omega arith) in
    rw differs (no_form forms words parts.1 long)

pub long-is-none : (words : List (List ℕ)) → 8 ≤ length words → result_ok (command_of words) ≡ None
unfolding command_of
long-is-none words long = rw (no_form forms words refl long) refl

pub empty-is-none : result_ok (command_of []) ≡ None
unfolding command_of
empty-is-none = refl

-- ---- what the words that were taken tell

pub none-if-empty : (kept : List (Bor (List ℕ))) (words : List (List ℕ)) → seen kept ≡ take 8 words → length kept ≡ 0 → None ≡ do_form words
unfolding do_form
none-if-empty kept [] is none = rw empty-is-none refl
none-if-empty kept (word ∷ words) is none =
    absurd (omega (arith, length-map kept (λ word. word.now), ap length is))

pub none-if-many : (kept : List (Bor (List ℕ))) (words : List (List ℕ)) → seen kept ≡ take 8 words → length kept ≡ 8 → None ≡ do_form words
unfolding do_form
none-if-many kept words is full =
    elim (cases_lt (length words) 8) [
      | inl few ↦ absurd (omega (arith, length-map kept (λ word. word.now), ap length is, ap length (take_all 8 words (omega arith))))
      | inr many ↦ rw (long-is-none words many) refl
    ]

-- where eight words aren't taken, there is room
pub room-left : (n : ℕ) → eqb n 8 ≡ false → n ≤ 8 → n < 8
room-left n test most = elim (cases_eq n 8) [ inl is ↦ let e : true ≡ false = rw is at test in cc | inr ne ↦ omega arith ]
