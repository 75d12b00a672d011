-- What the word at a place stands for, and how it is spelled: each from the other.
use Rattle.std.proofs.Common.{◌≡◌, ◌⊎◌, ◌<◌, ◌≤◌, ◌^◌, ◌/◌, ◌%◌, ◌*◌, ◌+◌, ℕ, ℤ, pos, List, [], ◌∷◌, length, get_or, Bool, true, false, ◌&&◌, ◌==◌, Option, None, Some, Result, Ok, Err, decimal, refl, arith, eqb, leb, inl, inr, if◌then◌else◌}
use Rattle.std.proofs.lemmas.Bool.{and_parts, and_from, eqb-true, leb-true, le-leb}
use Rattle.std.proofs.lemmas.Slice.Eq.{bytes_eq-Decides}
use Rattle.std.proofs.lemmas.Str.{digit_value_digit}
use Rattle.std.proofs.lemmas.Int.{ints}
use Rattle.std.proofs.Math.IntN.{nat_abs}
use Rattle.std.specs.Char.{digit_value}
use Rattle.std.specs.List.{list_all}
use Rattle.std.specs.Option.{option_map_or}
use Rattle.std.specs.Str.{bytes_eq}
use Rattle.std.specs.Str.Parse.{digits_value}
use Rattle.xemem_language.specs.Ranges.{IsWithin, IsName}
use Rattle.xemem_language.specs.Spelling.{mode_word, digit_of}
use Rattle.command_reader.specs.declared.fault.SyntaxFault.{SyntaxFault}
use Rattle.command_reader.specs.declared.fault.SyntaxFault.TheVariants as faults
use Rattle.text_words.specs.Laws.{NumberLaws}
use Rattle.text_words.specs.Words.{number_in}
use Rattle.command_reader.specs.Forms.{word, number, keyword, either, mode, is_mode, is_octal, ◌>>=◌}

-- ---- what is spelled is read again

pub read_number : (laws : NumberLaws) (low high n : ℕ) → IsWithin low high n → high < 2 ^ 64 → number_in low high (decimal n) ≡ Some n
read_number laws low high n h fits = laws.back low high n h.0 h.1 (omega arith)

pub name_within : (z : ℤ) → IsName z → IsWithin 0 9223372036854775807 (nat_abs z)
name_within z h = (omega arith, omega (arith, ints))

pub name_is : (z : ℤ) → IsName z → pos (nat_abs z) ≡ z
name_is z h = omega (arith, ints)

octal_digit : (n : ℕ) → is_octal (digit_of (n % 8)) ≡ true
octal_digit n =
    let least : 48 ≤ digit_of (n % 8) = omega arith in
    let most : digit_of (n % 8) ≤ 55 = omega arith in
    and_from _ _ (le-leb _ _ least) (le-leb _ _ most)

octal_value : (n : ℕ) → digit_value (digit_of (n % 8)) ≡ n % 8
octal_value n =
    let least : 48 ≤ digit_of (n % 8) = omega arith in
    let most : digit_of (n % 8) ≤ 57 = omega arith in
    let is = digit_value_digit (digit_of (n % 8)) (least, most) in
    omega (arith, is)

pub mode_is_one : (m : ℕ) → m ≤ 511 → is_mode (mode_word m) ≡ true
mode_is_one m le = rw (octal_digit (m / 64), octal_digit (m / 8), octal_digit m) refl

pub mode_value : (m : ℕ) → m ≤ 511 → digits_value 8 (mode_word m) ≡ m
mode_value m le = rw (octal_value (m / 64), octal_value (m / 8), octal_value m) (omega arith)

-- ---- what is read was spelled so

-- a first step that was made
pub record Made {A B : Type 0} (P : A → Type 0) (f : A → Result B SyntaxFault) (b : B) : Type 0 where
  pub found : A
  pub is : P found
  pub rest : f found ≡ Ok b

pub made : {A B : Type 0} (P : A → Type 0) (x : Result A SyntaxFault) (f : A → Result B SyntaxFault) (b : B) → ((a : A) → x ≡ Ok a → P a) → (x >>= f) ≡ Ok b → Made P f b
made P (Ok a) f b spells h = record { found = a; is = spells a refl; rest = h }
made P (Err fault) f b spells h = cc

-- the word at a place is the number's, which is in the range
abbrev pub IsNumberAt : ℕ → ℕ → ℕ → List (List ℕ) → ℕ → Type 0
IsNumberAt i low high words n = (word i words ≡ decimal n) × IsWithin low high n

number_spells : (laws : NumberLaws) (i low high : ℕ) (words : List (List ℕ)) (n : ℕ) → high < 2 ^ 64 → number i low high words ≡ Ok n → IsNumberAt i low high words n
unfolding number
number_spells laws i low high words n fits h = by (number_in low high (word i words)) refl h
  where
    by : (o : Option ℕ) → number_in low high (word i words) ≡ o → option_map_or (λ m. Ok m) o (Err (faults.Number i)) ≡ Ok n → IsNumberAt i low high words n
    by None is h = cc
    by (Some m) is h = let same : m ≡ n = cc in let s = laws.spelled low high (word i words) m fits is in rw (← same) (s.is, (s.least, s.most))

pub a_number : {B : Type 0} (laws : NumberLaws) (i low high : ℕ) (words : List (List ℕ)) (f : ℕ → Result B SyntaxFault) (b : B) → high < 2 ^ 64 → (number i low high words >>= f) ≡ Ok b → Made (IsNumberAt i low high words) f b
a_number laws i low high words f b fits h = made _ (number i low high words) f b (λ n is. number_spells laws i low high words n fits is) h

-- a choice that gives something gives it on one side
pub chosen : {A : Type 0} (G : Type 0) (test : Bool) (x y : A) (a : A) → (if test then x else y) ≡ a → (test ≡ true → x ≡ a → G) → (y ≡ a → G) → G
chosen G true x y a h here there = here refl h
chosen G false x y a h here there = there h

keyword_spells : (i : ℕ) (text : List ℕ) (words : List (List ℕ)) (u : Unit {0}) → keyword i text words ≡ Ok u → word i words ≡ text
unfolding keyword
keyword_spells i text words u h = chosen (word i words ≡ text) (bytes_eq (word i words) text) _ _ _ h (λ test is. (bytes_eq-Decides (word i words) text).0 test) (λ is. cc)

pub a_keyword : {B : Type 0} (i : ℕ) (text : List ℕ) (words : List (List ℕ)) (f : Unit {0} → Result B SyntaxFault) (b : B) → (keyword i text words >>= f) ≡ Ok b → Made (λ u. word i words ≡ text) f b
a_keyword i text words f b h = made _ (keyword i text words) f b (λ u is. keyword_spells i text words u is) h

-- the word at a place is one of two keywords, and what was found is what it stands for
abbrev pub IsEither : {A : Type 0} → ℕ → List ℕ → A → List ℕ → A → List (List ℕ) → A → Type 0
IsEither i one a other b words found = ((word i words ≡ one) × (a ≡ found)) ⊎ ((word i words ≡ other) × (b ≡ found))

pub either_spells : {A : Type 0} (i : ℕ) (one : List ℕ) (a : A) (other : List ℕ) (b : A) (words : List (List ℕ)) (found : A) → either i one a other b words ≡ Ok found → IsEither i one a other b words found
unfolding either
either_spells i one a other b words found h =
    let G = IsEither i one a other b words found in
    chosen G (bytes_eq (word i words) one) _ _ _ h (λ test is. let same : a ≡ found = cc in inl ((bytes_eq-Decides (word i words) one).0 test, same)) (λ rest.
    chosen G (bytes_eq (word i words) other) _ _ _ rest (λ test is. let same : b ≡ found = cc in inr ((bytes_eq-Decides (word i words) other).0 test, same)) (λ is. cc))

pub an_either : {A B : Type 0} (i : ℕ) (one : List ℕ) (a : A) (other : List ℕ) (b : A) (words : List (List ℕ)) (f : A → Result B SyntaxFault) (c : B) → (either i one a other b words >>= f) ≡ Ok c → Made (IsEither i one a other b words) f c
an_either i one a other b words f c h = made _ (either i one a other b words) f c (λ found is. either_spells i one a other b words found is) h

-- an octal digit by its value
record IsDigitOf (d n : ℕ) : Type 0 where
  is : d ≡ digit_of n
  small : n < 8

octal_of : (d : ℕ) → is_octal d ≡ true → IsDigitOf d (digit_value d)
octal_of d h =
    let parts = and_parts (leb 48 d) (leb d 55) h in
    let least : 48 ≤ d = leb-true _ _ parts.0 in
    let most : d ≤ 55 = leb-true _ _ parts.1 in
    let value = digit_value_digit d (least, omega arith) in
    record { is = omega (arith, value); small = omega (arith, value) }

three_digits : (a b c x y z m : ℕ) → IsDigitOf a x → IsDigitOf b y → IsDigitOf c z → ((0 * 8 + x) * 8 + y) * 8 + z ≡ m → (48 ∷ a ∷ b ∷ c ∷ [] ≡ mode_word m) × (m ≤ 511)
three_digits a b c x y z m p q r is =
    let high : a ≡ digit_of (m / 64 % 8) = omega arith in
    let middle : b ≡ digit_of (m / 8 % 8) = omega arith in
    let low : c ≡ digit_of (m % 8) = omega arith in
    (cc (high, middle, low), omega arith)

-- a word of four octal digits, the first of them 0, spells its value
mode_spelled : (text : List ℕ) → is_mode text ≡ true → length text ≡ 4 → (text ≡ mode_word (digits_value 8 text)) × (digits_value 8 text ≤ 511)
mode_spelled [] h four = absurd (omega arith)
mode_spelled (d ∷ []) h four = absurd (omega arith)
mode_spelled (d ∷ a ∷ []) h four = absurd (omega arith)
mode_spelled (d ∷ a ∷ b ∷ []) h four = absurd (omega arith)
mode_spelled (d ∷ a ∷ b ∷ c ∷ []) h four =
    let parts = and_parts (eqb d 48) (is_octal d && (is_octal a && (is_octal b && (is_octal c && true)))) h in
    let first = eqb-true d 48 parts.0 in
    let p = and_parts (is_octal d) _ parts.1 in
    let q = and_parts (is_octal a) _ p.1 in
    let r = and_parts (is_octal b) _ q.1 in
    let s = and_parts (is_octal c) true r.1 in
    rw first (three_digits a b c _ _ _ _ (octal_of a q.0) (octal_of b r.0) (octal_of c s.0) refl)
mode_spelled (d ∷ a ∷ b ∷ c ∷ e ∷ text) h four = absurd (omega arith)

four_digits : (text : List ℕ) → is_mode text ≡ true → length text ≡ 4
four_digits text h = eqb-true _ _ (and_parts (length text == 4) (get_or text 0 0 == 48) (and_parts _ (list_all is_octal text) h).0).0

mode_spells : (i : ℕ) (words : List (List ℕ)) (m : ℕ) → mode i words ≡ Ok m → (word i words ≡ mode_word m) × IsWithin 0 511 m
unfolding mode
mode_spells i words m h = chosen ((word i words ≡ mode_word m) × IsWithin 0 511 m) (is_mode (word i words)) _ _ _ h (λ test is. let same : digits_value 8 (word i words) ≡ m = cc in let s = mode_spelled (word i words) test (four_digits (word i words) test) in rw (← same) (s.0, (omega arith, s.1))) (λ is. cc)

pub a_mode : {B : Type 0} (i : ℕ) (words : List (List ℕ)) (f : ℕ → Result B SyntaxFault) (b : B) → (mode i words >>= f) ≡ Ok b → Made (λ m. (word i words ≡ mode_word m) × IsWithin 0 511 m) f b
a_mode i words f b h = made _ (mode i words) f b (λ m is. mode_spells i words m is) h
