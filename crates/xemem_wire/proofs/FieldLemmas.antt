-- Fields one after the other: what is spelled is read back and has no bad field, and what has none is spelled so.
use Rattle.std.proofs.Common.{◌≡◌, ℕ, suc, ◌+◌, ◌*◌, ◌/◌, ◌%◌, ◌<◌, ◌≤◌, nat_le, true, false, Some, None, List, [], ◌∷◌, ◌++◌, ◌&&◌, eqb, leb, lit<, lit≤, length, drop, get_or, refl, sym, ap, ◌∙◌, if◌then◌else◌, inl, inr, arith, append_assoc, length-append, length-drop, drop-drop}
use Rattle.std.proofs.lemmas.Bool.{cases_Bool, and_parts, and_from, or_cases, eqb-true, le-leb, false≢true}
use Rattle.std.proofs.lemmas.Option.{none-some}
use Rattle.std.proofs.lemmas.List.{drop-append-le, drop_at, get_or-drop}
use borrow.Author.Tests.{leb-true}
use Rattle.std.specs.List.{AllByRecursion}
use Rattle.xemem_wire.specs.declared.fields.Field.{Field}
use Rattle.xemem_wire.specs.declared.fields.Width.{Width}
use Rattle.xemem_wire.specs.declared.fields.Width.TheVariants as widths
use Rattle.xemem_wire.specs.declared.format.BadField.{BadField}
use Rattle.xemem_wire.specs.Fields.{bytes_in, limit_of, number_bytes, number_at_front, is_allowed, fields_length, fields_spelling, fields_numbers, are_allowed, fields_fault}

-- each number of the list is a byte
abbrev pub IsBytes : List ℕ → Type 0
IsBytes bytes = (i : ℕ) → get_or bytes i 0 < 256

-- ---- a number

number_at_front-append : (w : Width) (bytes more : List ℕ) → bytes_in w ≤ length bytes → number_at_front w (bytes ++ more) ≡ number_at_front w bytes
number_at_front-append widths.Two (a ∷ b ∷ bytes) more h = refl
number_at_front-append widths.Two _ more h = absurd (omega arith)
number_at_front-append widths.Four (a ∷ b ∷ c ∷ d ∷ bytes) more h = refl
number_at_front-append widths.Four _ more h = absurd (omega arith)
number_at_front-append widths.Eight (a ∷ b ∷ c ∷ d ∷ e ∷ f ∷ g ∷ i ∷ bytes) more h = refl
number_at_front-append widths.Eight _ more h = absurd (omega arith)

pub number_16 : (n : ℕ) → n < 65536 → n % 256 + n / 256 % 256 * 256 ≡ n
number_16 n h = omega arith

pub number_32 : (n : ℕ) → n < 4294967296 → n % 256 + n / 256 % 256 * 256 + (n / 65536 % 256 + n / 16777216 % 256 * 256) * 65536 ≡ n
number_32 n h = omega arith

number_64 : (n : ℕ) → n < 18446744073709551616 → n % 256 + n / 256 % 256 * 256 + (n / 65536 % 256 + n / 16777216 % 256 * 256) * 65536
    + (n / 4294967296 % 256 + n / 1099511627776 % 256 * 256 + (n / 281474976710656 % 256 + n / 72057594037927936 % 256 * 256) * 65536) * 4294967296 ≡ n
number_64 n h = omega arith

-- a number comes back
number_at_front-bytes : (w : Width) (n : ℕ) (more : List ℕ) → n < limit_of w → number_at_front w (number_bytes w n ++ more) ≡ n
number_at_front-bytes widths.Two n more h = number_16 n h
number_at_front-bytes widths.Four n more h = number_32 n h
number_at_front-bytes widths.Eight n more h = number_64 n h

length-number_bytes : (w : Width) (n : ℕ) → length (number_bytes w n) ≡ bytes_in w
length-number_bytes widths.Two n = refl
length-number_bytes widths.Four n = refl
length-number_bytes widths.Eight n = refl

some_bytes : (w : Width) → 2 ≤ bytes_in w
some_bytes widths.Two = lit≤ tt
some_bytes widths.Four = lit≤ tt
some_bytes widths.Eight = lit≤ tt

-- the bytes come back
pub bytes_16 : (a b : ℕ) → a < 256 → b < 256 → (a ≡ (a + b * 256) % 256) × (b ≡ (a + b * 256) / 256 % 256)
bytes_16 a b p q = (omega arith, omega arith)

pub bytes_32 : (a b c d : ℕ) → a < 256 → b < 256 → c < 256 → d < 256 → let n = a + b * 256 + (c + d * 256) * 65536 in (a ≡ n % 256) × (b ≡ n / 256 % 256) × (c ≡ n / 65536 % 256) × (d ≡ n / 16777216 % 256)
bytes_32 a b c d p q r s = (omega arith, omega arith, omega arith, omega arith)

bytes_64 : (a b c d e f g i : ℕ) → a < 256 → b < 256 → c < 256 → d < 256 → e < 256 → f < 256 → g < 256 → i < 256
    → let n = a + b * 256 + (c + d * 256) * 65536 + (e + f * 256 + (g + i * 256) * 65536) * 4294967296 in
    (a ≡ n % 256) × (b ≡ n / 256 % 256) × (c ≡ n / 65536 % 256) × (d ≡ n / 16777216 % 256) × (e ≡ n / 4294967296 % 256) × (f ≡ n / 1099511627776 % 256) × (g ≡ n / 281474976710656 % 256) × (i ≡ n / 72057594037927936 % 256)
bytes_64 a b c d e f g i p q r s t u v w =
    (omega arith, omega arith, omega arith, omega arith, omega arith, omega arith, omega arith, omega arith)

bytes_again : (w : Width) (bytes : List ℕ) → IsBytes bytes → bytes_in w ≤ length bytes → bytes ≡ number_bytes w (number_at_front w bytes) ++ drop (bytes_in w) bytes
bytes_again widths.Two (a ∷ b ∷ bytes) is h = let back = bytes_16 a b (is 0) (is 1) in cc
bytes_again widths.Two _ is h = absurd (omega arith)
bytes_again widths.Four (a ∷ b ∷ c ∷ d ∷ bytes) is h = let back = bytes_32 a b c d (is 0) (is 1) (is 2) (is 3) in cc
bytes_again widths.Four _ is h = absurd (omega arith)
bytes_again widths.Eight (a ∷ b ∷ c ∷ d ∷ e ∷ f ∷ g ∷ i ∷ bytes) is h =
    let back = bytes_64 a b c d e f g i (is 0) (is 1) (is 2) (is 3) (is 4) (is 5) (is 6) (is 7) in cc
bytes_again widths.Eight _ is h = absurd (omega arith)

-- ---- fields

-- each field's numbers have room in its width
abbrev pub AllFit : List Field → Type 0
AllFit [] = Unit {0}
AllFit (f ∷ fs) = (f.most < limit_of f.width) × AllFit fs

-- the number that stands for none has room in each
none_room : (w : Width) → 65535 < limit_of w
none_room widths.Two = lit< tt
none_room widths.Four = lit< tt
none_room widths.Eight = lit< tt

allowed_room : (f : Field) (n : ℕ) → f.most < limit_of f.width → is_allowed f n ≡ true → n < limit_of f.width
allowed_room f n room h =
    elim (or_cases (f.or_none && eqb n 65535) (leb f.least n && leb n f.most) h) [
      | inl none ↦
          let is : n ≡ 65535 = eqb-true n 65535 (and_parts f.or_none (eqb n 65535) none).1 in
          omega (arith, none_room f.width)
      | inr within ↦
          let most : n ≤ f.most = leb-true n f.most (and_parts (leb f.least n) (leb n f.most) within).1 in omega arith
    ]

-- a number of a field that has no none is in its range
pub in_range : (f : Field) (n : ℕ) → f.or_none ≡ false → is_allowed f n ≡ true → (f.least ≤ n) × (n ≤ f.most)
in_range f n some h =
    let range : (leb f.least n && leb n f.most) ≡ true = rw some at h in
    let ends = and_parts (leb f.least n) (leb n f.most) range in
    (leb-true f.least n ends.0, leb-true n f.most ends.1)

-- each number is one that its field allows, and there are as many
abbrev pub AllAllowed : List Field → List ℕ → Type 0
AllAllowed [] [] = Unit {0}
AllAllowed (f ∷ fs) (n ∷ ns) = (is_allowed f n ≡ true) × AllAllowed fs ns
AllAllowed _ _ = ⊥

pub all_allowed : (fs : List Field) (ns : List ℕ) → are_allowed fs ns ≡ true → AllAllowed fs ns
all_allowed [] [] h = tt
all_allowed [] (n ∷ ns) h = absurd (false≢true h)
all_allowed (f ∷ fs) [] h = absurd (false≢true h)
all_allowed (f ∷ fs) (n ∷ ns) h =
    let parts = and_parts (is_allowed f n) (are_allowed fs ns) h in (parts.0, all_allowed fs ns parts.1)

pub as_many : (fs : List Field) (ns : List ℕ) → AllAllowed fs ns → length ns ≡ length fs
as_many [] [] h = refl
as_many [] (n ∷ ns) h = absurd h
as_many (f ∷ fs) [] h = absurd h
as_many (f ∷ fs) (n ∷ ns) h = ap suc (as_many fs ns h.1)

-- no field is there
pub fields_fault-none : (place : ℕ) (fs : List Field) → fields_fault place fs [] ≡ None
fields_fault-none place [] = refl
fields_fault-none place (f ∷ fs) = none f.width
  where
    none : (w : Width) → (if nat_le (bytes_in w) 0 then (if is_allowed f (number_at_front f.width []) then fields_fault (place + bytes_in f.width) fs (drop (bytes_in f.width) []) else Some (record { fault = f.fault; place = place })) else None) ≡ None
    none widths.Two = refl
    none widths.Four = refl
    none widths.Eight = refl

-- one step
fields_fault-there : (place : ℕ) (f : Field) (fs : List Field) (bytes : List ℕ) → bytes_in f.width ≤ length bytes → is_allowed f (number_at_front f.width bytes) ≡ true → fields_fault place (f ∷ fs) bytes ≡ fields_fault (place + bytes_in f.width) fs (drop (bytes_in f.width) bytes)
fields_fault-there place f fs bytes h allowed = rw (le-leb _ _ h, allowed) refl

fields_fault-bad : (place : ℕ) (f : Field) (fs : List Field) (bytes : List ℕ) → bytes_in f.width ≤ length bytes → is_allowed f (number_at_front f.width bytes) ≡ false → fields_fault place (f ∷ fs) bytes ≡ Some (record { fault = f.fault; place = place })
fields_fault-bad place f fs bytes h allowed = rw (le-leb _ _ h, allowed) refl

fields_fault-short : (place : ℕ) (f : Field) (fs : List Field) (bytes : List ℕ) → nat_le (bytes_in f.width) (length bytes) ≡ false → fields_fault place (f ∷ fs) bytes ≡ None
fields_fault-short place f fs bytes h = rw h refl

-- a bad field stays the first one, whatever comes
append_there : (place : ℕ) (f : Field) (fs : List Field) (bytes more : List ℕ) (bad : BadField) → bytes_in f.width ≤ length bytes → fields_fault place (f ∷ fs) bytes ≡ Some bad
    → (fields_fault (place + bytes_in f.width) fs (drop (bytes_in f.width) bytes) ≡ Some bad → fields_fault (place + bytes_in f.width) fs (drop (bytes_in f.width) bytes ++ more) ≡ Some bad)
    → fields_fault place (f ∷ fs) (bytes ++ more) ≡ Some bad
append_there place f fs bytes more bad h e later =
    let longer : bytes_in f.width ≤ length (bytes ++ more) = omega (arith, length-append bytes more) in
    let same : number_at_front f.width (bytes ++ more) ≡ number_at_front f.width bytes = number_at_front-append f.width bytes more h in
    elim (cases_Bool (is_allowed f (number_at_front f.width bytes))) [
      | inl allowed ↦
          fields_fault-there place f fs (bytes ++ more) longer (ap (is_allowed f) same ∙ allowed)
          ∙ ap (fields_fault (place + bytes_in f.width) fs) (drop-append-le (bytes_in f.width) bytes more h)
          ∙ later (sym (fields_fault-there place f fs bytes h allowed) ∙ e)
      | inr not_allowed ↦
          fields_fault-bad place f fs (bytes ++ more) longer (ap (is_allowed f) same ∙ not_allowed)
          ∙ sym (fields_fault-bad place f fs bytes h not_allowed) ∙ e
    ]

pub fields_fault-append : (place : ℕ) (fs : List Field) (bytes more : List ℕ) (bad : BadField) → fields_fault place fs bytes ≡ Some bad → fields_fault place fs (bytes ++ more) ≡ Some bad
fields_fault-append place [] bytes more bad e = cc
fields_fault-append place (f ∷ fs) bytes more bad e =
    elim (cases_Bool (nat_le (bytes_in f.width) (length bytes))) [
      | inl t ↦
          append_there place f fs bytes more bad (leb-true _ _ t) e
          (fields_fault-append (place + bytes_in f.width) fs (drop (bytes_in f.width) bytes) more bad)
      | inr short ↦ absurd (none-some bad (sym (fields_fault-short place f fs bytes short) ∙ e))
    ]

-- a bad field has bytes
pub fields_fault-some : (place : ℕ) (fs : List Field) (bytes : List ℕ) (bad : BadField) → fields_fault place fs bytes ≡ Some bad → 0 < length bytes
fields_fault-some place fs [] bad e = absurd (none-some bad (sym (fields_fault-none place fs) ∙ e))
fields_fault-some place fs (x ∷ bytes) bad e = omega arith

-- allowed numbers come back
pub fields_numbers-spelling : (fs : List Field) (ns more : List ℕ) → AllFit fs → are_allowed fs ns ≡ true → fields_numbers fs (fields_spelling fs ns ++ more) ≡ ns
fields_numbers-spelling [] [] more fit h = refl
fields_numbers-spelling [] (n ∷ ns) more fit h = cc
fields_numbers-spelling (f ∷ fs) [] more fit h = cc
fields_numbers-spelling (f ∷ fs) (n ∷ ns) more fit h =
    let parts = and_parts (is_allowed f n) (are_allowed fs ns) h in
    let later : List ℕ = fields_spelling fs ns ++ more in
    let all : (number_bytes f.width n ++ fields_spelling fs ns) ++ more ≡ number_bytes f.width n ++ later = append_assoc (number_bytes f.width n) (fields_spelling fs ns) more in
    let rest : drop (bytes_in f.width) (number_bytes f.width n ++ later) ≡ later = drop_at (number_bytes f.width n) later (bytes_in f.width) (length-number_bytes f.width n) in
    ap (λ xs. number_at_front f.width xs ∷ fields_numbers fs (drop (bytes_in f.width) xs)) all
    ∙ ap (λ x. x ∷ fields_numbers fs (drop (bytes_in f.width) (number_bytes f.width n ++ later))) (number_at_front-bytes f.width n later (allowed_room f n fit.0 parts.0))
    ∙ ap (λ xs. n ∷ fields_numbers fs xs) rest
    ∙ ap (λ xs. n ∷ xs) (fields_numbers-spelling fs ns more fit.1 parts.1)

-- and none of their fields is bad
pub fields_fault-spelling : (place : ℕ) (fs : List Field) (ns more : List ℕ) → AllFit fs → are_allowed fs ns ≡ true → fields_fault place fs (fields_spelling fs ns ++ more) ≡ None
fields_fault-spelling place [] [] more fit h = refl
fields_fault-spelling place [] (n ∷ ns) more fit h = cc
fields_fault-spelling place (f ∷ fs) [] more fit h = cc
fields_fault-spelling place (f ∷ fs) (n ∷ ns) more fit h =
    let parts = and_parts (is_allowed f n) (are_allowed fs ns) h in
    let later : List ℕ = fields_spelling fs ns ++ more in
    let all : (number_bytes f.width n ++ fields_spelling fs ns) ++ more ≡ number_bytes f.width n ++ later = append_assoc (number_bytes f.width n) (fields_spelling fs ns) more in
    let rest : drop (bytes_in f.width) (number_bytes f.width n ++ later) ≡ later = drop_at (number_bytes f.width n) later (bytes_in f.width) (length-number_bytes f.width n) in
    let long : bytes_in f.width ≤ length (number_bytes f.width n ++ later) = omega (arith, length-append (number_bytes f.width n) later, length-number_bytes f.width n) in
    ap (fields_fault place (f ∷ fs)) all
    ∙ fields_fault-there place f fs (number_bytes f.width n ++ later) long (ap (is_allowed f) (number_at_front-bytes f.width n later (allowed_room f n fit.0 parts.0)) ∙ parts.0)
    ∙ ap (fields_fault (place + bytes_in f.width) fs) rest
    ∙ fields_fault-spelling (place + bytes_in f.width) fs ns more fit.1 parts.1

pub length-fields_spelling : (fs : List Field) (ns : List ℕ) → are_allowed fs ns ≡ true → length (fields_spelling fs ns) ≡ fields_length fs
length-fields_spelling [] [] h = refl
length-fields_spelling [] (n ∷ ns) h = cc
length-fields_spelling (f ∷ fs) [] h = cc
length-fields_spelling (f ∷ fs) (n ∷ ns) h =
    let parts = and_parts (is_allowed f n) (are_allowed fs ns) h in
    omega (arith, length-append (number_bytes f.width n) (fields_spelling fs ns), length-number_bytes f.width n, length-fields_spelling fs ns parts.1)

pub is_bytes-drop : (n : ℕ) (bytes : List ℕ) → IsBytes bytes → IsBytes (drop n bytes)
is_bytes-drop n bytes is i = omega (arith, get_or-drop n bytes i 0, is (n + i))

-- whole fields without a bad one are spelled from their numbers
pub record AreWhole (fs : List Field) (bytes : List ℕ) : Type 0 where
  pub allowed : are_allowed fs (fields_numbers fs bytes) ≡ true
  pub spelled : bytes ≡ fields_spelling fs (fields_numbers fs bytes) ++ drop (fields_length fs) bytes

pub are_whole : (place : ℕ) (fs : List Field) (bytes : List ℕ) → IsBytes bytes → fields_length fs ≤ length bytes → fields_fault place fs bytes ≡ None → AreWhole fs bytes
are_whole place [] bytes is h e = record { allowed = refl; spelled = refl }
are_whole place (f ∷ fs) bytes is h e =
    let long : bytes_in f.width ≤ length bytes = omega arith in
    let rest : List ℕ = drop (bytes_in f.width) bytes in
    let n : ℕ = number_at_front f.width bytes in
    elim (cases_Bool (is_allowed f n)) [
      | inl allowed ↦
          let w : AreWhole fs rest
          = are_whole (place + bytes_in f.width) fs rest (is_bytes-drop (bytes_in f.width) bytes is) (omega (arith, length-drop (bytes_in f.width) bytes)) (sym (fields_fault-there place f fs bytes long allowed) ∙ e) in
          record {
            allowed = and_from _ _ allowed w.allowed;
            spelled = bytes_again f.width bytes is long
                ∙ ap (λ xs. number_bytes f.width n ++ xs)
                (w.spelled ∙ ap (λ xs. fields_spelling fs (fields_numbers fs rest) ++ xs) (drop-drop (fields_length fs) (bytes_in f.width) bytes))
                ∙ sym (append_assoc (number_bytes f.width n) (fields_spelling fs (fields_numbers fs rest)) (drop (bytes_in f.width + fields_length fs) bytes));
          }
      | inr not_allowed ↦ absurd (none-some _ (sym e ∙ fields_fault-bad place f fs bytes long not_allowed))
    ]

-- the spelling consists of bytes
number_is_bytes : (w : Width) (n : ℕ) (xs : List ℕ) → AllByRecursion (λ byte. byte < 256) xs → AllByRecursion (λ byte. byte < 256) (number_bytes w n ++ xs)
number_is_bytes widths.Two n xs h = (omega arith, (omega arith, h))
number_is_bytes widths.Four n xs h = (omega arith, (omega arith, (omega arith, (omega arith, h))))
number_is_bytes widths.Eight n xs h = (omega arith, (omega arith, (omega arith, (omega arith, (omega arith, (omega arith, (omega arith, (omega arith, h))))))))

pub fields_bytes : (fs : List Field) (ns : List ℕ) → AllByRecursion (λ byte. byte < 256) (fields_spelling fs ns)
fields_bytes [] ns = tt
fields_bytes (f ∷ fs) [] = tt
fields_bytes (f ∷ fs) (n ∷ ns) = number_is_bytes f.width n (fields_spelling fs ns) (fields_bytes fs ns)
