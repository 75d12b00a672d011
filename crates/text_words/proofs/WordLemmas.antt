-- Lines, words and numbers of lists of bytes.
use Rattle.std.proofs.Common.{◌≡◌, ◌≢◌, ◌<◌, ◌≤◌, ◌^◌, ◌&&◌, leb, sym, ℕ, zero, suc, List, [], ◌∷◌, length, get_or, take, drop, true, false, eqb, not, ◌||◌, None, Some, refl, ap, ◌∙◌, arith, decimal, inl, inr}
use Rattle.std.proofs.lemmas.Bool.{ne_eqb, and_from, and_parts, lt-ltb, le-leb, ltb-true, leb-true, false_from_ne_true, cond-true, cond-false, cases_eq, cases_Bool}
use Rattle.std.proofs.lemmas.Bool.Decides.{nat_tests}
use Rattle.std.proofs.lemmas.Fmt.{digits_decimal, digits_value-decimal, decimal_nonempty, first_decimal, decimal_digit, decimal-digits_value}
use Rattle.std.proofs.lemmas.List.{length-take-le}
use Rattle.std.proofs.lemmas.Str.Parse.{IsNumeralModel, numerals_by_value, tells_all_ascii_digits}
use Rattle.std.specs.List.{slice_split}
use Rattle.std.specs.Str.{all_ascii_digits}
use Rattle.std.specs.Str.Parse.{digits_value}
use Rattle.text_words.specs.Laws.{Spells}
use Rattle.text_words.specs.Words.{lines_of, number_in, is_number, is_filled, is_blank, words_of}

-- a line and what follows its line feed
pub lines_of_at : (text : List ℕ) (i : ℕ) → i < length text → ((k : ℕ) → k < i → get_or text k 0 ≢ 10) → get_or text i 0 ≡ 10 → lines_of text ≡ take i text ∷ lines_of (drop (suc i) text)
lines_of_at [] i h before found = absurd (omega arith)
lines_of_at (c ∷ text) zero h before found = rw found refl
lines_of_at (c ∷ text) (suc i) h before found =
    let no : eqb c 10 ≡ false = ne_eqb c 10 (before 0 (omega arith)) in
    let rest = lines_of_at text i (omega arith) (λ k lt. before (suc k) (omega arith)) found in
    rw (no, rest) refl

-- a last line without a line feed
pub lines_of_last : (text : List ℕ) → 0 < length text → ((k : ℕ) → k < length text → get_or text k 0 ≢ 10) → lines_of text ≡ text ∷ []
lines_of_last [] h before = absurd (omega arith)
lines_of_last (c ∷ []) h before = rw (ne_eqb c 10 (before 0 (omega arith))) refl
lines_of_last (c ∷ d ∷ text) h before =
    let no : eqb c 10 ≡ false = ne_eqb c 10 (before 0 (omega arith)) in
    let rest = lines_of_last (d ∷ text) (omega arith) (λ k lt. before (suc k) (omega arith)) in
    rw (no, rest) refl

-- digits by their value
pub own : IsNumeralModel (λ ds. all_ascii_digits ds ≡ true) (digits_value 10)
own = numerals_by_value _ tells_all_ascii_digits

-- a number in the range
pub number_in-some : (low high : ℕ) (word : List ℕ) → all_ascii_digits word ≡ true → 0 < length word → (1 < length word → get_or word 0 0 ≢ 48) → low ≤ digits_value 10 word → digits_value 10 word ≤ high
    → number_in low high word ≡ Some (digits_value 10 word)
unfolding number_in
number_in-some low high word digits filled lead ge le =
    let first : (eqb (length word) 1 || not (eqb (get_or word 0 0) 48)) ≡ true = grind (arith, nat_tests) in
    cond-true _ _ _ (and_from _ _ (and_from _ _ (and_from _ _ (and_from _ _ (lt-ltb 0 (length word) filled) digits) first) (le-leb _ _ ge)) (le-leb _ _ le))

-- more than one digit, and the first is no zero
two_digits : (n first : ℕ) → (eqb n 1 || not (eqb first 48)) ≡ true → 1 < n → first ≡ 48 → ⊥
two_digits n first e long zero_first = grind (arith, nat_tests)

-- no number in the range
pub number_in-none : (low high : ℕ) (word : List ℕ) → (all_ascii_digits word ≡ true → 0 < length word → (1 < length word → get_or word 0 0 ≢ 48) → low ≤ digits_value 10 word → digits_value 10 word ≤ high → ⊥)
    → number_in low high word ≡ None
unfolding number_in
number_in-none low high word absent =
    cond-false _ _ _ (false_from_ne_true _ (λ all.
    let a = and_parts _ _ all in
    let b = and_parts _ _ a.0 in
    let c = and_parts _ _ b.0 in
    let d = and_parts _ _ c.0 in
    absent d.1 (ltb-true _ _ d.0) (two_digits _ _ c.1) (leb-true _ _ b.1) (leb-true _ _ a.1)))

-- blanks at the front don't count
pub words_of_skip : (text : List ℕ) (n : ℕ) → n ≤ length text → ((k : ℕ) → k < n → is_blank (get_or text k 0) ≡ true) → words_of text ≡ words_of (drop n text)
words_of_skip text zero h blank = refl
words_of_skip [] (suc n) h blank = refl
words_of_skip (c ∷ text) (suc n) h blank =
    let first : is_blank c ≡ true = blank 0 (omega arith) in
    let rest = words_of_skip text n (omega arith) (λ k lt. blank (suc k) (omega arith)) in
    rw first rest

-- the first piece ends at the first blank
split_at_blank : (text : List ℕ) (n : ℕ) → n < length text → ((k : ℕ) → k < n → is_blank (get_or text k 0) ≡ false) → is_blank (get_or text n 0) ≡ true
    → slice_split is_blank text ≡ take n text ∷ slice_split is_blank (drop (suc n) text)
split_at_blank [] n h before at = absurd (omega arith)
split_at_blank (c ∷ text) zero h before at = rw at refl
split_at_blank (c ∷ text) (suc n) h before at =
    let first : is_blank c ≡ false = before 0 (omega arith) in
    let rest = split_at_blank text n (omega arith) (λ k lt. before (suc k) (omega arith)) at in
    rw (first, rest) refl

split_last : (text : List ℕ) → ((k : ℕ) → k < length text → is_blank (get_or text k 0) ≡ false) → slice_split is_blank text ≡ text ∷ []
split_last [] before = refl
split_last (c ∷ text) before =
    let first : is_blank c ≡ false = before 0 (omega arith) in
    let rest = split_last text (λ k lt. before (suc k) (omega arith)) in
    rw (first, rest) refl

-- a word, and what follows its blank
pub words_of_at : (text : List ℕ) (n : ℕ) → 0 < n → n < length text → ((k : ℕ) → k < n → is_blank (get_or text k 0) ≡ false) → is_blank (get_or text n 0) ≡ true
    → words_of text ≡ take n text ∷ words_of (drop (suc n) text)
words_of_at text n some h before at =
    let filled : is_filled (take n text) ≡ true = lt-ltb 0 _ (rw (length-take-le n text (omega arith)) some) in
    rw (split_at_blank text n h before at, filled) refl

-- a last word
pub words_of_last : (text : List ℕ) → 0 < length text → ((k : ℕ) → k < length text → is_blank (get_or text k 0) ≡ false) → words_of text ≡ text ∷ []
words_of_last text some before =
    let filled : is_filled text ≡ true = lt-ltb 0 _ some in
    rw (split_last text before, filled) refl

-- a number that is spelled is read again
pub number_in-decimal : (low high n : ℕ) → low ≤ n → n ≤ high → n < 2 ^ 64 → number_in low high (decimal n) ≡ Some n
number_in-decimal low high n ge le fits =
    let value = digits_value-decimal own n fits in
    let lead : 1 < length (decimal n) → get_or (decimal n) 0 0 ≢ 48 = λ long zero_first. elim (cases_eq n 0) [
      | inl none ↦ absurd (omega (arith, rw none at long, ap length (decimal_digit 0 (omega arith))))
      | inr some ↦ absurd (omega (arith, first_decimal n (omega arith) fits))
    ] in
    number_in-some low high (decimal n) (digits_decimal own n fits) (decimal_nonempty n fits) lead (rw value ge) (rw value le) ∙ ap Some value

below : (n high most : ℕ) → n ≤ high → high < most → n < most
below n high most le lt = omega arith

spells_value : (low high : ℕ) (word : List ℕ) (n : ℕ) → high < 2 ^ 64 → (is_number word && leb low (digits_value 10 word) && leb (digits_value 10 word) high) ≡ true → digits_value 10 word ≡ n → Spells low high word n
spells_value low high word n fits all value =
    let a = and_parts _ _ all in
    let b = and_parts _ _ a.0 in
    let c = and_parts _ _ b.0 in
    let d = and_parts _ _ c.0 in
    let ge : low ≤ digits_value 10 word = leb-true _ _ b.1 in
    let le : digits_value 10 word ≤ high = leb-true _ _ a.1 in
    let short_enough = below _ _ _ le fits in
    let short : get_or word 0 0 ≡ 48 → length word ≡ 1 = λ lead. elim (cases_eq (length word) 1) [ inl one ↦ one | inr more ↦ let some = ltb-true 0 (length word) d.0 in let long : 1 < length word = omega arith in absurd (two_digits _ _ c.1 long lead) ] in
    rw (← value) (record { is = sym (decimal-digits_value own word d.1 (ltb-true _ _ d.0) short (omega arith)); least = ge; most = le })

-- a word that is read for a number is how the number is spelled
pub number_in-spells : (low high : ℕ) (word : List ℕ) (n : ℕ) → high < 2 ^ 64 → number_in low high word ≡ Some n → Spells low high word n
unfolding number_in
number_in-spells low high word n fits found =
    elim (cases_Bool (is_number word && leb low (digits_value 10 word) && leb (digits_value 10 word) high)) [
      | inl all ↦ spells_value low high word n fits all (let e : Some (digits_value 10 word) ≡ Some n = rw all at found in cc)
      | inr none ↦ let e : None ≡ Some n = rw none at found in cc
    ]
