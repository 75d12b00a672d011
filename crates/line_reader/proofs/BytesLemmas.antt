-- Bytes and their hex digits without capital letters.
use Rattle.std.proofs.Common.{◌≡◌, ◌<◌, ◌≤◌, ◌+◌, ◌-◌, ◌*◌, ◌/◌, ◌%◌, ℕ, zero, suc, List, [], ◌∷◌, length, Bool, true, false, ◌&&◌, ◌||◌, cond, leb, slice_index, Option, None, Some, Result, Ok, Err, MatchResult, if◌then◌else◌, refl, sym, ap, ◌∙◌, arith, inl, inr}
use Rattle.std.proofs.lemmas.Bool.{cases_eq, cases_lt, and_parts, le-leb, leb-true}
use Rattle.std.proofs.lemmas.List.Elements.{All-head, All-tail, All-nil, All-cons}
use Rattle.std.specs.List.{list_any, All}
use Rattle.std.specs.Result.{result_ok, is_ok}
use Rattle.hex.proofs.HexLemmas.{decode_of-encode_lower, decode_of-ok, decode_of-even, decode_of-odd, decode_sized-odd, decode_sized-twice, length-encode_with, IsDigits-lower_digits}
use Rattle.hex.specs.Hex.{encode_lower, encode_with, lower_digits, IsBytes, decode_of, decode_pairs, decode_sized, hex_digit_value, digit_or_error, value_at, pair_value, ◌>>=◌}
use Rattle.hex.specs.declared.error.FromHexError.{FromHexError}
use Rattle.xemem_language.specs.Ranges.{IsWithin}
use Rattle.line_reader.specs.Slots.{bytes_of, is_upper}
use Rattle.line_reader.specs.Typed.{Is8}

-- ---- digits of bytes are no capital letters

-- the table at a place, or 0 behind its end
table_lower : (table : List ℕ) (d : ℕ) → list_any is_upper table ≡ false → is_upper (slice_index table d) ≡ false
table_lower [] d h = refl
table_lower (c ∷ table) zero h = by (is_upper c) refl h
  where
    by : (b : Bool) → is_upper c ≡ b → (b || list_any is_upper table) ≡ false → is_upper c ≡ false
    by true is e = cc
    by false is e = is
table_lower (c ∷ table) (suc d) h = by (table_lower table d) (is_upper c) h
  where
    by : (list_any is_upper table ≡ false → is_upper (slice_index table d) ≡ false) → (b : Bool) → (b || list_any is_upper table) ≡ false → is_upper (slice_index table d) ≡ false
    by behind true e = cc
    by behind false e = behind e

digits_lower : (bytes : List ℕ) → list_any is_upper (encode_lower bytes) ≡ false
unfolding encode_with
digits_lower [] = refl
digits_lower (b ∷ bytes) = rw (table_lower lower_digits (b / 16) refl, table_lower lower_digits (b % 16) refl, digits_lower bytes) refl

pub bytes_of-back : (bytes : List ℕ) → IsWithin 1 32 (length bytes) → IsBytes bytes → bytes_of (encode_lower bytes) ≡ Some bytes
unfolding bytes_of
bytes_of-back bytes within are =
    let long = length-encode_with lower_digits bytes in
    rw (digits_lower bytes, le-leb 2 (length (encode_lower bytes)) (omega arith), le-leb (length (encode_lower bytes)) 64 (omega arith), decode_of-encode_lower bytes are) refl

-- ---- and the other way

-- a digit that is no capital letter, and its value
record LowerDigit (c v : ℕ) : Type 0 where
  small : v < 16
  letter : 10 ≤ v → c ≡ v + 87
  figure : v < 10 → c ≡ v + 48

lower_digit : (c v : ℕ) → is_upper c ≡ false → hex_digit_value c ≡ Some v → LowerDigit c v
lower_digit c v low h = by (leb 65 c && leb c 70) (leb 97 c && leb c 102) (leb 48 c && leb c 57) refl refl refl h
  where
    by : (capital small figure : Bool) → (leb 65 c && leb c 70) ≡ capital → (leb 97 c && leb c 102) ≡ small → (leb 48 c && leb c 57) ≡ figure
        → cond capital (Some (c - 55)) (cond small (Some (c - 87)) (cond figure (Some (c - 48)) None)) ≡ Some v → LowerDigit c v
    by true small figure is ls fs e =
        let p = and_parts (leb 65 c) (leb c 70) is in
        let from : 65 ≤ c = leb-true 65 c p.0 in
        let to : c ≤ 70 = leb-true c 70 p.1 in
        let upper : is_upper c ≡ true = rw (le-leb 65 c from, le-leb c 90 (omega arith)) refl in
        cc
    by false true figure is ls fs e =
        let p = and_parts (leb 97 c) (leb c 102) ls in
        let from : 97 ≤ c = leb-true 97 c p.0 in
        let to : c ≤ 102 = leb-true c 102 p.1 in
        let value : c - 87 ≡ v = cc in
        record { small = omega arith; letter = λ ten. omega arith; figure = λ less. omega arith }
    by false false true is ls fs e =
        let p = and_parts (leb 48 c) (leb c 57) fs in
        let from : 48 ≤ c = leb-true 48 c p.0 in
        let to : c ≤ 57 = leb-true c 57 p.1 in
        let value : c - 48 ≡ v = cc in
        record { small = omega arith; letter = λ ten. omega arith; figure = λ less. omega arith }
    by false false false is ls fs e = cc

same_digit : (c d v : ℕ) → LowerDigit c v → LowerDigit d v → c ≡ d
same_digit c d v h k = elim (cases_lt v 10) [
  | inl figure ↦ h.figure figure ∙ sym (k.figure figure)
  | inr letter ↦ h.letter letter ∙ sym (k.letter letter)
]

-- the table has the digit at its value
digit_again : (c v : ℕ) → is_upper c ≡ false → hex_digit_value c ≡ Some v → slice_index lower_digits v ≡ c
digit_again c v low h =
    let this = lower_digit c v low h in
    same_digit (slice_index lower_digits v) c v (lower_digit (slice_index lower_digits v) v (table_lower lower_digits v refl) (IsDigits-lower_digits v this.small)) this

record Bound {A B : Type 0} (r : Result A FromHexError) (f : A → Result B FromHexError) (b : B) : Type 0 where
  found : A
  was : r ≡ Ok found
  rest : f found ≡ Ok b

bound : {A B : Type 0} (r : Result A FromHexError) (f : A → Result B FromHexError) (b : B) → (r >>= f) ≡ Ok b → Bound r f b
bound (Ok a) f b h = record { found = a; was = refl; rest = h }
bound (Err e) f b h = cc

value_read : (c i v : ℕ) → value_at c i ≡ Ok v → hex_digit_value c ≡ Some v
value_read c i v h = by (hex_digit_value c) h
  where
    by : (o : Option ℕ) → digit_or_error c i o ≡ Ok v → o ≡ Some v
    by None e = cc
    by (Some w) e = let same : w ≡ v = cc in ap Some same

-- no capital letter in front, and none behind
lower_first : (c : ℕ) (more : List ℕ) → list_any is_upper (c ∷ more) ≡ false → (is_upper c ≡ false) × (list_any is_upper more ≡ false)
lower_first c more h = by (is_upper c) h
  where
    by : (b : Bool) → (b || list_any is_upper more) ≡ false → (b ≡ false) × (list_any is_upper more ≡ false)
    by true e = cc
    by false e = (refl, e)

decoded_again : (i : ℕ) (digits bytes : List ℕ) → list_any is_upper digits ≡ false → decode_pairs i digits ≡ Ok bytes → digits ≡ encode_lower bytes
unfolding decode_pairs encode_with
decoded_again i [] bytes low h = let e : [] ≡ bytes = cc in ap encode_lower e
decoded_again i (a ∷ []) bytes low h = cc
decoded_again i (a ∷ b ∷ digits) bytes low h =
    let l = lower_first a (b ∷ digits) low in
    let m = lower_first b digits l.1 in
    let pair = bound (pair_value a b i) _ bytes h in
    let high = bound (value_at a i) _ pair.found pair.was in
    let small = bound (value_at b (i + 1)) _ pair.found high.rest in
    let tail = bound (decode_pairs (i + 2) digits) _ bytes pair.rest in
    let high_read = value_read a i high.found high.was in
    let small_read = value_read b (i + 1) small.found small.was in
    let high_small = (lower_digit a high.found l.0 high_read).small in
    let small_small = (lower_digit b small.found m.0 small_read).small in
    let byte : high.found * 16 + small.found ≡ pair.found = cc (small.rest) in
    let first : pair.found / 16 ≡ high.found = omega arith in
    let second : pair.found % 16 ≡ small.found = omega arith in
    let whole : pair.found ∷ tail.found ≡ bytes = cc (tail.rest) in
    let again = decoded_again (i + 2) digits tail.found m.1 tail.was in
    rw (← whole, first, second, digit_again a high.found l.0 high_read, digit_again b small.found m.0 small_read, ← again) refl

pub record SpeltBytes (word bs : List ℕ) : Type 0 where
  pub is : word ≡ encode_lower bs
  pub within : IsWithin 1 32 (length bs)
  pub bytes : IsBytes bs

decoded : (r : Result (List ℕ) FromHexError) (bytes : List ℕ) → result_ok r ≡ Some bytes → r ≡ Ok bytes
decoded (Ok found) bytes h = let e : found ≡ bytes = cc in ap Ok e
decoded (Err e) bytes h = cc

pub bytes_of-spells : (word bytes : List ℕ) → bytes_of word ≡ Some bytes → SpeltBytes word bytes
unfolding bytes_of
bytes_of-spells word bytes h = by (list_any is_upper word) (leb 2 (length word) && leb (length word) 64) refl refl h
  where
    by : (upper fits : Bool) → list_any is_upper word ≡ upper → (leb 2 (length word) && leb (length word) 64) ≡ fits → cond upper None (cond fits (result_ok (decode_of word)) None) ≡ Some bytes → SpeltBytes word bytes
    by true fits is le e = cc
    by false false is le e = cc
    by false true is le e =
        let p = and_parts (leb 2 (length word)) (leb (length word) 64) le in
        let low : 2 ≤ length word = leb-true 2 (length word) p.0 in
        let high : length word ≤ 64 = leb-true (length word) 64 p.1 in
        let was = decoded (decode_of word) bytes e in
        let ok = decode_of-ok word bytes was in
        let twice : length word ≡ 2 * length bytes = ok.2 in
        record {
          is = decoded_again 0 word bytes is (sym (decode_of-even word ok.0) ∙ was);
          within = (omega arith, omega arith);
          bytes = ok.3;
        }

-- ---- decoding into room for half as many bytes

decode_sized-half : (word : List ℕ) → decode_sized word (length word / 2) ≡ decode_of word
decode_sized-half word =
    elim (cases_eq (length word % 2) 1) [
      | inl odd ↦ decode_sized-odd word (length word / 2) odd ∙ sym (decode_of-odd word odd)
      | inr even ↦ decode_sized-twice word (length word / 2) (omega arith)
    ]

pub decode-written : (word out : List ℕ) (n : ℕ) (r : Result (Unit {0}) FromHexError) → n ≡ length word / 2
    → MatchResult (decode_sized word n) (λ bytes. (r ≡ Ok tt) × (out ≡ bytes)) (λ e. r ≡ Err e) → (if is_ok r then Some out else None) ≡ result_ok (decode_of word)
decode-written word out n r half h = by (decode_sized word n) (ap (decode_sized word) half ∙ decode_sized-half word) h
  where
    by : (d : Result (List ℕ) FromHexError) → d ≡ decode_of word → MatchResult d (λ bytes. (r ≡ Ok tt) × (out ≡ bytes)) (λ e. r ≡ Err e) → (if is_ok r then Some out else None) ≡ result_ok (decode_of word)
    by (Ok bytes) is k = rw (← is, k.0, k.1) refl
    by (Err e) is k = rw (← is, k) refl

-- ---- bytes are numbers of 8 bits

pub bytes_typed : (bytes : List ℕ) → IsBytes bytes → All Is8 bytes
bytes_typed [] h = All-nil Is8
bytes_typed (b ∷ bytes) h = let first : b < 256 = h 0 in All-cons Is8 b bytes (omega arith) (bytes_typed bytes (λ i. h (suc i)))

pub typed_bytes : (bytes : List ℕ) → All Is8 bytes → IsBytes bytes
typed_bytes [] h i = omega arith
typed_bytes (b ∷ bytes) h zero = let first = All-head Is8 b bytes h in omega arith
typed_bytes (b ∷ bytes) h (suc i) = typed_bytes bytes (All-tail Is8 b bytes h) i
