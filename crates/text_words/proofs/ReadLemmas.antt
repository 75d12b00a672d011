-- What the reader finds in bytes.
use Rattle.std.proofs.Common.{◌≡◌, ◌≢◌, ◌<◌, ℕ, zero, suc, List, length, get_or, drop, true, false, None, Some, Result, Ok, Err, Bor, MatchResult, arith, length-drop, add-zero}
use Rattle.std.proofs.lemmas.Bool.{false_from_ne_true}
use Rattle.std.proofs.lemmas.Fmt.{IsAscii-from_digits}
use Rattle.std.proofs.lemmas.List.{get_or-drop}
use Rattle.std.proofs.lemmas.Str.Parse.{parse_plain}
use Rattle.std.proofs.lemmas.Str.{IsUtf8-from_ascii}
use Rattle.std.specs.Option.{SomeIff}
use Rattle.std.specs.Result.{result_ok}
use Rattle.std.specs.Str.Parse.{digits_value, ParsesUnsigned}
use Rattle.std.specs.Str.{all_ascii_digits, IsUtf8}
use Rattle.text_words.proofs.WordLemmas.{own}
use Rattle.text_words.specs.Words.{is_blank}
use Rattle.text_words.specs.Digits.{SpellsDigits}

-- digits are text
pub IsUtf8-digits : (word : List ℕ) → all_ascii_digits word ≡ true → IsUtf8 word
IsUtf8-digits word h = IsUtf8-from_ascii word (IsAscii-from_digits word (own.to word h))

-- what `parse` gives where no sign stands
pub digits-parse : {E : Type 0} (word : List ℕ) (r : Result ℕ E) → ParsesUnsigned 64 10 word r → get_or word 0 0 ≢ 43 → SomeIff (result_ok r) (SpellsDigits word) (digits_value 10 word)
digits-parse {E} word (Ok x) h plain =
    let k = parse_plain own {E = E} 64 word (Ok x) h plain in (record { digits = k.0.0; filled = k.0.1; fits = k.0.2 }, k.1)
digits-parse {E} word (Err e) h plain =
    let k = parse_plain own {E = E} 64 word (Err e) h plain in λ s. k (s.digits, s.filled, s.fits)

-- what a text that isn't one, or is, says of `from_utf8`
pub no_text : {T E : Type 0} (N : Type 0) (P : T → Type 0) (Q : E → Type 0) (r : Result T E) → result_ok r ≡ None → MatchResult r P (λ e. N × Q e) → N
no_text N P Q (Ok x) none h = cc
no_text N P Q (Err e) none h = h.0

pub the_text : {E : Type 0} (U : Type 0) (Q : E → Type 0) (bs : List ℕ) (r : Result (Bor (List ℕ)) E) (x : Bor (List ℕ)) → result_ok r ≡ Some x → MatchResult r (λ s. (s.now ≡ bs) × U) Q → x.now ≡ bs
the_text U Q bs (Ok y) x some h = let e : y ≡ x = cc in rw (← e) h.0
the_text U Q bs (Err e) x some h = cc

-- a word has a byte
pub word_filled : (text : List ℕ) (end : ℕ) → (end < length text → is_blank (get_or text end 0) ≢ false) → 0 < length text → is_blank (get_or text 0 0) ≡ false → 0 < end
word_filled text zero other some start = absurd (other some start)
word_filled text (suc end) other some start = omega arith

-- behind the blanks stands none
pub blank_behind : (text : List ℕ) (n : ℕ) → (n < length text → is_blank (get_or text n 0) ≢ true) → 0 < length (drop n text) → is_blank (get_or (drop n text) 0 0) ≡ false
blank_behind text n other some =
    let lt : n < length text = omega (arith, length-drop n text) in
    false_from_ne_true _ (rw (get_or-drop, add-zero) (other lt))
