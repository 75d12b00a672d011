-- Numbers and names are words.
use Rattle.std.proofs.Common.{◌≡◌, ◌<◌, ◌==◌, ◌/◌, ◌%◌, ℕ, zero, suc, List, [], ◌∷◌, length, Bool, true, false, ◌&&◌, ltb, cond, decimal, inl, inr, arith}
use Rattle.std.proofs.lemmas.Bool.{and_parts, ltb-true, cases_Bool}
use Rattle.std.specs.Fmt.{digits, digits_onto, digit_glyph}
use Rattle.text_words.specs.Solid.{IsSolidByte, IsSolid, IsWord, is_printed}
use Rattle.text_words.specs.Words.{is_filled}

pub printed_solid : (c : ℕ) → 32 < c → IsSolidByte c
printed_solid c h = record { no_space = λ e. omega arith; no_tab = λ e. omega arith; no_feed = λ e. omega arith }

glyph_printed : (d : ℕ) → 32 < digit_glyph false d
glyph_printed d = elim (cases_Bool (ltb d 10)) [ inl small ↦ rw small (omega arith) | inr large ↦ rw large (omega arith) ]

glyph_solid : (d : ℕ) → IsSolidByte (digit_glyph false d)
glyph_solid d = printed_solid (digit_glyph false d) (glyph_printed d)

either_word : (b : Bool) (x y : List ℕ) → IsWord x → IsWord y → IsWord (cond b x y)
either_word true x y h k = h
either_word false x y h k = k

onto_word : (k n : ℕ) (text : List ℕ) → IsWord text → IsWord (digits_onto k 10 false n text)
onto_word zero n text h = h
onto_word (suc k) n text h =
    let more : IsWord (digit_glyph false (n % 10) ∷ text) = record { filled = omega arith; solid = (glyph_solid (n % 10), h.solid) } in
    either_word (n / 10 == 0) _ _ more (onto_word k (n / 10) _ more)

pub decimal_word : (n : ℕ) → IsWord (decimal n)
unfolding digits
decimal_word n =
    let one : IsWord (digit_glyph false (n % 10) ∷ []) = record { filled = omega arith; solid = (glyph_solid (n % 10), tt) } in
    either_word (n / 10 == 0) _ _ one (onto_word 63 (n / 10) _ one)

pub solid_from : (text : List ℕ) → is_printed text ≡ true → IsSolid text
solid_from [] h = tt
solid_from (c ∷ text) h = let parts = and_parts (ltb 32 c) (is_printed text) h in (printed_solid c (ltb-true 32 c parts.0), solid_from text parts.1)

pub name : (text : List ℕ) → (is_filled text && is_printed text) ≡ true → IsWord text
name text h = let parts = and_parts (is_filled text) (is_printed text) h in record { filled = ltb-true 0 (length text) parts.0; solid = solid_from text parts.1 }
