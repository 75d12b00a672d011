-- The laws of spellings and of streams.
use Rattle.std.proofs.Common.{◌≡◌, ℕ, ◌+◌, ◌-◌, ◌<◌, true, if◌then◌else◌, Option, Some, None, List, [], ◌∷◌, ◌++◌, length, take, drop, fold, refl, sym, ap, ◌∙◌, arith, append_assoc, length-append}
use Rattle.std.specs.Prelude.{is_some}
use Rattle.std.specs.List.{flat_map}
use Rattle.std.specs.Option.{option_map}
use Rattle.std.proofs.lemmas.Option.{none-some, same_Some}
use Rattle.std.proofs.lemmas.List.{append-nil, drop_at}
use Rattle.xemem_language.specs.declared.record.Record.{Record}
use Rattle.xemem_wire.specs.declared.format.BadField.{BadField}
use Rattle.xemem_wire.specs.Spelling.{spelling_of, spellings_of, is_valid, AreValid}
use Rattle.xemem_wire.specs.Faults.{fault_of}
use Rattle.xemem_wire.proofs.FaultLemmas.{fault_of-empty}
use Rattle.xemem_wire.specs.Stream.{front_record, records_onto, nothing_read, reading_of, records_of, rest_of, moved, first_bad, IsSplit}
use Rattle.xemem_wire.specs.Decoding.{nothing_taken, with_bytes, after_piece, from_the_start}
use Rattle.xemem_wire.proofs.StreamLemmas.{option_cases, moved_twice, front_record-spelling_of, Begins, front_record_begins, Splits, splits, reading_of-append, reading_of-splits, reading_of-spellings, reading_of-take, fault_of-take, length-rest_of}
use Rattle.xemem_wire.proofs.DecodingLemmas.{first_bad-fault, decoding_equal, after_piece-going, after_piece-append}
use Rattle.xemem_wire.proofs.KeptLemmas.{reading_of-empty}

pub one_spelling : (r s : Record) (x y : List ℕ) → is_valid r ≡ true → is_valid s ≡ true → spelling_of r ++ x ≡ spelling_of s ++ y → (r ≡ s) × (x ≡ y)
one_spelling r s x y h k e =
    let same : r ≡ s = same_Some r s (sym (front_record-spelling_of r x h) ∙ ap front_record e ∙ front_record-spelling_of s y k) in
    let length_is : length (spelling_of r) ≡ length (spelling_of s) = ap (λ z. length (spelling_of z)) same in (
      same,
      sym (drop_at (spelling_of r) x (length (spelling_of r)) refl) ∙ ap (drop (length (spelling_of r))) e
          ∙ drop_at (spelling_of s) y (length (spelling_of r)) (sym length_is),
    )

pub is_split : (bytes : List ℕ) → IsSplit bytes (records_of bytes) (rest_of bytes)
is_split bytes =
    let s : Splits bytes (records_of bytes) (rest_of bytes) = splits bytes in
    record {
      whole = s.whole;
      valid = s.valid;
      partial = λ r more h e. none-some r (sym s.stops ∙ ap front_record e ∙ front_record-spelling_of r more h);
    }

pub only_split : (bytes : List ℕ) (rs : List Record) (rest : List ℕ) → IsSplit bytes rs rest → (records_of bytes ≡ rs) × (rest_of bytes ≡ rest)
only_split bytes rs rest s =
    let stops : front_record rest ≡ None
    = option_cases (front_record rest) (λ none. none)
    (λ r found.
    let b : Begins rest r = front_record_begins rest r found in
    absurd (s.partial r (drop (length (spelling_of r)) rest) b.valid b.spelled)) in
    let read = reading_of-splits bytes rs rest (record { whole = s.whole; valid = s.valid; stops = stops }) in
    (ap (λ reading. reading.records) read, ap (λ reading. reading.rest) read)

pub first_bad-spellings : (rs : List Record) (more : List ℕ) → AreValid rs → first_bad (spellings_of rs ++ more) ≡ option_map (moved (length (spellings_of rs))) (first_bad more)
unfolding first_bad
first_bad-spellings rs more h =
    let rest : rest_of (spellings_of rs ++ more) ≡ rest_of more = ap (λ reading. reading.rest) (reading_of-spellings rs more h) in
    let place : length (spellings_of rs ++ more) - length (rest_of more) ≡ length (spellings_of rs) + (length more - length (rest_of more))
    = omega (arith, length-append (spellings_of rs) more, length-rest_of more) in
    ap (λ xs. option_map (moved (length (spellings_of rs ++ more) - length xs)) (fault_of xs)) rest
    ∙ moved_twice (length (spellings_of rs ++ more) - length (rest_of more)) (length (spellings_of rs)) (length more - length (rest_of more)) (fault_of (rest_of more)) place

pub reading_of-cut : (rs : List Record) (r : Record) (n : ℕ) → AreValid rs → is_valid r ≡ true → n < length (spelling_of r) → reading_of (spellings_of rs ++ take n (spelling_of r)) ≡ records_onto rs (nothing_read (take n (spelling_of r)))
reading_of-cut rs r n h k short =
    reading_of-spellings rs (take n (spelling_of r)) h ∙ ap (records_onto rs) (reading_of-take r n k short)

first_bad-take : (r : Record) (n : ℕ) → is_valid r ≡ true → n < length (spelling_of r) → first_bad (take n (spelling_of r)) ≡ None
unfolding first_bad
first_bad-take r n k short =
    let rest : rest_of (take n (spelling_of r)) ≡ take n (spelling_of r) = ap (λ reading. reading.rest) (reading_of-take r n k short) in
    ap (option_map (moved (length (take n (spelling_of r)) - length (rest_of (take n (spelling_of r))))))
    (ap fault_of rest ∙ fault_of-take r n k)

pub first_bad-cut : (rs : List Record) (r : Record) (n : ℕ) → AreValid rs → is_valid r ≡ true → n < length (spelling_of r) → first_bad (spellings_of rs ++ take n (spelling_of r)) ≡ None
first_bad-cut rs r n h k short =
    first_bad-spellings rs (take n (spelling_of r)) h
    ∙ ap (option_map (moved (length (spellings_of rs)))) (first_bad-take r n k short)

-- the empty stream
first_bad-empty : first_bad [] ≡ None
unfolding first_bad
first_bad-empty =
    ap (option_map (moved (0 - length (rest_of [])))) (ap fault_of (ap (λ reading. reading.rest) reading_of-empty) ∙ fault_of-empty)

-- a front of valid records has no bad field
pub first_bad-front : (rs : List Record) (bytes more : List ℕ) → AreValid rs → bytes ++ more ≡ spellings_of rs → first_bad bytes ≡ None
first_bad-front rs bytes more h e =
    let all : first_bad (bytes ++ more) ≡ None
    = ap first_bad (e ∙ sym (append-nil (spellings_of rs))) ∙ first_bad-spellings rs [] h
    ∙ ap (option_map (moved (length (spellings_of rs)))) first_bad-empty in
    option_cases (first_bad bytes) (λ none. none)
    (λ bad found. absurd (none-some bad (sym all ∙ first_bad-fault bytes more bad found)))

-- the records of a front are the first ones
pub records_of-front : (rs : List Record) (bytes more : List ℕ) → AreValid rs → bytes ++ more ≡ spellings_of rs → (later : List Record) × (rs ≡ records_of bytes ++ later) × (rest_of bytes ++ more ≡ spellings_of later)
records_of-front rs bytes more h e =
    let left : List ℕ = rest_of bytes ++ more in
    let read = sym (reading_of-append bytes more) ∙ ap reading_of (e ∙ sym (append-nil (spellings_of rs)))
    ∙ reading_of-spellings rs [] h ∙ ap (records_onto rs) reading_of-empty in
    let none : rest_of left ≡ [] = ap (λ reading. reading.rest) read in (
      records_of left,
      sym (ap (λ reading. reading.records) read ∙ append-nil rs),
      (splits left).whole ∙ ap (λ xs. spellings_of (records_of left) ++ xs) none ∙ append-nil (spellings_of (records_of left)),
    )

-- a decoder that has taken a whole stream
moved_none : (bad : Option BadField) → option_map (moved 0) bad ≡ bad
moved_none None = refl
moved_none (Some bad) = ap (λ place. Some (record { fault = bad.fault; place = place })) (omega arith)

after_piece-nothing_taken : (bytes : List ℕ) → after_piece nothing_taken bytes ≡ from_the_start bytes
after_piece-nothing_taken bytes =
    after_piece-going nothing_taken bytes refl
    ∙ decoding_equal (with_bytes nothing_taken bytes) (from_the_start bytes) refl refl (omega arith) (moved_none (first_bad bytes))

from_nothing : from_the_start [] ≡ nothing_taken
from_nothing =
    let rest : rest_of [] ≡ [] = ap (λ reading. reading.rest) reading_of-empty in
    decoding_equal (from_the_start []) nothing_taken (ap (λ reading. reading.records) reading_of-empty)
    (ap (λ b. if is_some b then [] else rest_of []) first_bad-empty ∙ rest)
    (ap (λ xs. 0 - length xs) rest)
    first_bad-empty

fold_pieces : (xs : List ℕ) (pieces : List (List ℕ)) → fold after_piece (after_piece nothing_taken xs) pieces ≡ after_piece nothing_taken (xs ++ flat_map (λ piece. piece) pieces)
fold_pieces xs [] = ap (after_piece nothing_taken) (sym (append-nil xs))
fold_pieces xs (piece ∷ pieces) =
    ap (λ d. fold after_piece d pieces) (after_piece-append nothing_taken xs piece)
    ∙ fold_pieces (xs ++ piece) pieces
    ∙ ap (after_piece nothing_taken) (append_assoc xs piece (flat_map (λ piece. piece) pieces))

pub any_pieces : (pieces : List (List ℕ)) → fold after_piece nothing_taken pieces ≡ from_the_start (flat_map (λ piece. piece) pieces)
any_pieces pieces =
    ap (λ d. fold after_piece d pieces) (sym (after_piece-nothing_taken [] ∙ from_nothing))
    ∙ fold_pieces [] pieces
    ∙ after_piece-nothing_taken (flat_map (λ piece. piece) pieces)
