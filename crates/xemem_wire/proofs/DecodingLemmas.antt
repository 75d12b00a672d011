-- A decoder's state after pieces of a stream.
use Rattle.std.proofs.Common.{◌≡◌, ℕ, ◌+◌, ◌-◌, ◌≤◌, Bool, true, false, Option, Some, None, List, [], ◌++◌, length, refl, sym, ap, ◌∙◌, if◌then◌else◌, inl, inr, arith, append_assoc, length-append}
use Rattle.std.specs.Prelude.{is_some}
use Rattle.std.specs.Option.{option_map}
use Rattle.std.proofs.lemmas.Bool.{cases_Bool}
use Rattle.std.proofs.lemmas.Option.{none-some}
use Rattle.std.proofs.lemmas.List.{append-nil}
use Rattle.xemem_language.specs.declared.record.Record.{Record}
use Rattle.xemem_wire.specs.declared.format.BadField.{BadField}
use Rattle.xemem_wire.specs.Faults.{fault_of}
use Rattle.xemem_wire.specs.Stream.{records_onto, reading_of, records_of, rest_of, moved, first_bad}
use Rattle.xemem_wire.specs.Decoding.{Decoding, with_bytes, after_piece}
use Rattle.xemem_wire.proofs.FaultLemmas.{fault_of-append}
use Rattle.xemem_wire.proofs.StreamLemmas.{option_cases, moved_twice, reading_of-none, reading_of-append, length-rest_of, fault_stops, first_bad-append}

-- a stream with a bad field has one in what follows its whole records
some_moved : (n : ℕ) (o : Option BadField) (bad : BadField) → option_map (moved n) o ≡ Some bad → (found : BadField) × (o ≡ Some found) × (moved n found ≡ bad)
some_moved n None bad e = absurd (none-some bad e)
some_moved n (Some found) bad e = (found, refl, cc)

-- after a bad field no more records come
pub reading_of-fault : (bytes more : List ℕ) (bad : BadField) → first_bad bytes ≡ Some bad → reading_of (bytes ++ more) ≡ record { records = records_of bytes; rest = rest_of bytes ++ more }
unfolding first_bad
reading_of-fault bytes more bad e =
    let found = some_moved (length bytes - length (rest_of bytes)) (fault_of (rest_of bytes)) bad e in
    reading_of-append bytes more
    ∙ ap (records_onto (records_of bytes)) (reading_of-none (rest_of bytes ++ more) (fault_stops (rest_of bytes) more found.0 found.1))
    ∙ ap (λ rs. record { records = rs; rest = rest_of bytes ++ more }) (append-nil (records_of bytes))

-- and the bad field stays the first one
pub first_bad-fault : (bytes more : List ℕ) (bad : BadField) → first_bad bytes ≡ Some bad → first_bad (bytes ++ more) ≡ Some bad
unfolding first_bad
first_bad-fault bytes more bad e =
    let found = some_moved (length bytes - length (rest_of bytes)) (fault_of (rest_of bytes)) bad e in
    let rest : rest_of (bytes ++ more) ≡ rest_of bytes ++ more = ap (λ reading. reading.rest) (reading_of-fault bytes more bad e) in
    let fault : fault_of (rest_of bytes ++ more) ≡ Some found.0 = fault_of-append (rest_of bytes) more found.0 found.1 in
    let place : length (bytes ++ more) - length (rest_of bytes ++ more) ≡ length bytes - length (rest_of bytes)
    = omega (arith, length-append bytes more, length-append (rest_of bytes) more) in
    rw (rest, fault, place) (ap (λ b. Some b) found.2)

-- what is taken, by whether there is a bad field
abbrev pub going_on : Decoding → List ℕ → Decoding
going_on d bytes = record {
  records = d.records ++ records_of bytes;
  rest = rest_of bytes;
  before = d.before + (length bytes - length (rest_of bytes));
  bad = None;
}

abbrev pub stopped_at : Decoding → List ℕ → BadField → Decoding
stopped_at d bytes bad = record {
  records = d.records ++ records_of bytes;
  rest = [];
  before = d.before + (length bytes - length (rest_of bytes));
  bad = Some (moved d.before bad);
}

pub taken-fine : (d : Decoding) (bytes : List ℕ) → first_bad bytes ≡ None → with_bytes d bytes ≡ going_on d bytes
taken-fine d bytes e = rw e refl

pub taken-bad : (d : Decoding) (bytes : List ℕ) (bad : BadField) → first_bad bytes ≡ Some bad → with_bytes d bytes ≡ stopped_at d bytes bad
taken-bad d bytes bad e = rw e refl

pub after_piece-stopped : (d : Decoding) (piece : List ℕ) → is_some d.bad ≡ true → after_piece d piece ≡ d
unfolding after_piece
after_piece-stopped d piece h = rw h refl

pub after_piece-going : (d : Decoding) (piece : List ℕ) → is_some d.bad ≡ false → after_piece d piece ≡ with_bytes d (d.rest ++ piece)
unfolding after_piece
after_piece-going d piece h = rw h refl

-- two decodings with the same parts are one
pub decoding_equal : (a b : Decoding) → a.records ≡ b.records → a.rest ≡ b.rest → a.before ≡ b.before → a.bad ≡ b.bad → a ≡ b
decoding_equal a b e f g h =
    let make = λ (records : List Record) (rest : List ℕ) (before : ℕ) (bad : Option BadField).
    let d : Decoding = record { records = records; rest = rest; before = before; bad = bad } in d in
    ap (λ x. make x a.rest a.before a.bad) e ∙ ap (λ x. make b.records x a.before a.bad) f
    ∙ ap (λ x. make b.records b.rest x a.bad) g ∙ ap (λ x. make b.records b.rest b.before x) h

is_some-moved : (n : ℕ) (o : Option BadField) → is_some (option_map (moved n) o) ≡ is_some o
is_some-moved n None = refl
is_some-moved n (Some bad) = refl

-- what is kept of the rest
kept_rest : (stopped stopped' : Bool) (rest rest' : List ℕ) → stopped ≡ stopped' → rest ≡ rest' → (if stopped then [] else rest) ≡ (if stopped' then [] else rest')
kept_rest a b rest rest' e f = ap (λ stopped. if stopped then [] else rest) e ∙ ap (λ xs. if b then [] else xs) f

-- more bytes after bytes without a bad field
taken-append : (d : Decoding) (bytes more : List ℕ) → with_bytes (going_on d bytes) (rest_of bytes ++ more) ≡ with_bytes d (bytes ++ more)
taken-append d bytes more =
    let next : List ℕ = rest_of bytes ++ more in
    let read : reading_of (bytes ++ more) ≡ records_onto (records_of bytes) (reading_of next) = reading_of-append bytes more in
    let moves : ℕ = length bytes - length (rest_of bytes) in
    let bad : first_bad (bytes ++ more) ≡ option_map (moved moves) (first_bad next) = first_bad-append bytes more in
    let rest : rest_of (bytes ++ more) ≡ rest_of next = ap (λ reading. reading.rest) read in
    decoding_equal _ _
    (append_assoc d.records (records_of bytes) (records_of next) ∙ sym (ap (λ reading. d.records ++ reading.records) read))
    (sym (kept_rest _ _ _ _ (ap is_some bad ∙ is_some-moved moves (first_bad next)) rest))
    (omega (arith, ap length rest, length-append bytes more, length-append (rest_of bytes) more, length-rest_of bytes, length-rest_of next))
    (moved_twice (d.before + moves) d.before moves (first_bad next) refl ∙ sym (ap (option_map (moved d.before)) bad))

-- more bytes after a bad field
taken-same : (d : Decoding) (bytes more : List ℕ) (bad : BadField) → first_bad bytes ≡ Some bad → with_bytes d (bytes ++ more) ≡ with_bytes d bytes
taken-same d bytes more bad e =
    let read = reading_of-fault bytes more bad e in
    let same : first_bad (bytes ++ more) ≡ first_bad bytes = first_bad-fault bytes more bad e ∙ sym e in
    let rest : rest_of (bytes ++ more) ≡ rest_of bytes ++ more = ap (λ reading. reading.rest) read in
    let stopped : is_some (first_bad bytes) ≡ true = ap is_some e in
    let stopped_more : is_some (first_bad (bytes ++ more)) ≡ true = ap is_some same ∙ stopped in
    decoding_equal _ _
    (ap (λ reading. d.records ++ reading.records) read)
    (ap (λ b. if b then [] else rest_of (bytes ++ more)) stopped_more ∙ sym (ap (λ b. if b then [] else rest_of bytes) stopped))
    (omega (arith, ap length rest, length-append bytes more, length-append (rest_of bytes) more))
    (ap (option_map (moved d.before)) same)

-- a decoder that goes on takes more as if it had come at once
after_taken : (d : Decoding) (bytes ys : List ℕ) → after_piece (with_bytes d bytes) ys ≡ with_bytes d (bytes ++ ys)
after_taken d bytes ys =
    option_cases (first_bad bytes)
    (λ fine.
    ap (λ e. after_piece e ys) (taken-fine d bytes fine) ∙ after_piece-going (going_on d bytes) ys refl
    ∙ taken-append d bytes ys)
    (λ bad found.
    ap (λ e. after_piece e ys) (taken-bad d bytes bad found) ∙ after_piece-stopped (stopped_at d bytes bad) ys refl
    ∙ sym (taken-bad d bytes bad found) ∙ sym (taken-same d bytes ys bad found))

-- it doesn't matter how the stream is cut
pub after_piece-append : (d : Decoding) (xs ys : List ℕ) → after_piece (after_piece d xs) ys ≡ after_piece d (xs ++ ys)
after_piece-append d xs ys =
    elim (cases_Bool (is_some d.bad)) [
      | inl t ↦
          ap (λ e. after_piece e ys) (after_piece-stopped d xs t) ∙ after_piece-stopped d ys t
          ∙ sym (after_piece-stopped d (xs ++ ys) t)
      | inr f ↦
          ap (λ e. after_piece e ys) (after_piece-going d xs f) ∙ after_taken d (d.rest ++ xs) ys
          ∙ ap (with_bytes d) (append_assoc d.rest xs ys) ∙ sym (after_piece-going d (xs ++ ys) f)
    ]

-- no more bytes are counted than have come
pub after_piece-count : (d : Decoding) (piece : List ℕ) → (after_piece d piece).before + length (after_piece d piece).rest ≤ d.before + length d.rest + length piece
after_piece-count d piece =
    let bytes : List ℕ = d.rest ++ piece in
    let long : length bytes ≡ length d.rest + length piece = length-append d.rest piece in
    let count = λ (e : Decoding). e.before + length e.rest in
    elim (cases_Bool (is_some d.bad)) [
      | inl t ↦ omega (arith, ap count (after_piece-stopped d piece t))
      | inr f ↦
          option_cases (first_bad bytes)
          (λ fine. omega (arith, ap count (after_piece-going d piece f ∙ taken-fine d bytes fine), length-rest_of bytes))
          (λ bad found. omega (arith, ap count (after_piece-going d piece f ∙ taken-bad d bytes bad found), length-rest_of bytes))
    ]
