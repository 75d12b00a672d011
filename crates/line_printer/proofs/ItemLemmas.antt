-- Text of words, bytes as digits, and what stands after a refusal.
use Rattle.std.proofs.Common.{◌≡◌, ℕ, ◌+◌, ◌/◌, ◌%◌, ◌<◌, List, [], ◌∷◌, ◌++◌, length, get_or, take, drop, refl, sym, ap, ◌∙◌, append-nil, append_assoc}
use Rattle.std.proofs.lemmas.List.{take-append-drop, take_more}
use Rattle.std.proofs.Math.Seq.{take-append_seam}
use Rattle.std.specs.List.{join_with_byte}
use Rattle.std.specs.Prelude.{slice_index}
use Rattle.hex.specs.Hex.{encode_lower, encode_with, lower_digits}
use Rattle.xemem_language.specs.Spelling.{spaced}
use Rattle.line_printer.specs.Items.{IsBegunBy}

-- joining by a space is a space before each word but the first
pub join_is : (word : List ℕ) (words : List (List ℕ)) → join_with_byte 32 (word ∷ words) ≡ word ++ spaced words
join_is word [] = sym (append-nil word)
join_is word (more ∷ words) = ap (λ rest. word ++ (32 ∷ rest)) (join_is more words)

-- the digits of two pieces
encode_lower_append : (xs ys : List ℕ) → encode_lower (xs ++ ys) ≡ encode_lower xs ++ encode_lower ys
unfolding encode_with
encode_lower_append [] ys = refl
encode_lower_append (b ∷ xs) ys = ap (λ digits. slice_index lower_digits (b / 16) ∷ slice_index lower_digits (b % 16) ∷ digits) (encode_lower_append xs ys)

-- the digits of a byte more
pub hex_more : (bytes : List ℕ) (k : ℕ) → k < length bytes → encode_lower (take (k + 1) bytes) ≡ encode_lower (take k bytes) ++ encode_lower (get_or bytes k 0 ∷ [])
hex_more bytes k h = rw (take_more bytes k 0 h) (encode_lower_append (take k bytes) (get_or bytes k 0 ∷ []))

-- what was only appended to begins as it began
pub begun_at : (before more after : List ℕ) → after ≡ before ++ more → IsBegunBy before after
begun_at before more after is = record { kept = ap (take (length before)) is ∙ take-append_seam before more }

pub begun_same : (before after : List ℕ) → after ≡ before → IsBegunBy before after
begun_same before after is = begun_at before [] after (is ∙ sym (append-nil before))

-- what is begun by more is begun by less
pub begun_more : (before more mid after : List ℕ) → mid ≡ before ++ more → IsBegunBy mid after → IsBegunBy before after
begun_more before more mid after is begun =
    let rest = drop (length mid) after in
    begun_at before (more ++ rest) after (
    sym (take-append-drop (length mid) after)
    ∙ ap (λ front. front ++ rest) (begun.kept ∙ is)
    ∙ append_assoc before more rest
    )

pub ruleset begun = (begun_at, begun_same, begun_more, append_assoc)
