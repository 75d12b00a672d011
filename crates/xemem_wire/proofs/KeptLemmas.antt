-- How a decoder keeps its bytes, through its calls.
use Rattle.std.proofs.Common.{◌≡◌, ℕ, ◌+◌, ◌-◌, ◌<◌, ◌≤◌, Option, Some, None, List, [], ◌∷◌, ◌++◌, length, take, drop, refl, sym, ap, ◌∙◌, subst, if◌then◌else◌, inl, inr, arith, length-drop, drop-drop}
use Rattle.std.specs.Prelude.{is_some}
use Rattle.std.specs.Option.{option_map}
use Rattle.std.proofs.lemmas.Bool.{cases_lt, false≢true}
use Rattle.std.proofs.lemmas.Option.{none-some}
use Rattle.std.proofs.lemmas.List.{append-nil, drop-append-le, drop-take, take_at, length-take-le, take_rest, drop_all}
use Rattle.xemem_wire.specs.declared.format.BadField.{BadField}
use Rattle.xemem_wire.specs.Table.{u32_at}
use Rattle.xemem_wire.specs.Spelling.{spelling_of, spellings_of}
use Rattle.xemem_wire.specs.Faults.{kind_at, fault_of}
use Rattle.xemem_wire.specs.Fields.{length_of_kind}
use Rattle.xemem_wire.specs.Stream.{record_at, front_record, Reading, record_onto, records_onto, nothing_read, reading_of, records_of, rest_of, moved, first_bad}
use Rattle.xemem_wire.specs.Decoding.{Decoding, nothing_taken, after_piece}
use Rattle.xemem_wire.specs.Kept.{decoded, KeepsBytes, Takes}
use Rattle.xemem_wire.proofs.FieldLemmas.{IsBytes}
use Rattle.xemem_wire.proofs.FaultLemmas.{fault_of-empty}
use Rattle.xemem_wire.proofs.SpellingLemmas.{u32_at-spelling_of, fault_of-spelling_of, told_kind, told_length}
use Rattle.xemem_wire.proofs.StreamLemmas.{option_cases, Begins, front_record_begins, front_record_short, reading_of-none, reading_of-some, reading_of-spellings, reading_of-append, Splits, splits, length-rest_of, front_record-is, whole_found}
use Rattle.xemem_wire.proofs.DecodingLemmas.{decoding_equal, taken-fine, taken-bad, stopped_at, after_piece-going}

pub reading_of-empty : reading_of [] ≡ nothing_read []
reading_of-empty = reading_of-none [] (front_record_short [] (omega arith))

kept_empty : KeepsBytes [] 0 0 None
kept_empty = record {
  order = omega arith;
  within = omega arith;
  rest = ap (λ reading. reading.rest) reading_of-empty;
  fine = fault_of-empty;
  stopped = λ h. refl;
}

-- a new decoder
pub kept_nothing : (bytes : List ℕ) → bytes ≡ [] → KeepsBytes bytes 0 0 None
kept_nothing bytes e = subst (λ (xs : List ℕ). KeepsBytes xs 0 0 None) (sym e) kept_empty

pub decoded_nothing : (bytes : List ℕ) → bytes ≡ [] → decoded (drop 0 bytes) 0 None ≡ nothing_taken
decoded_nothing bytes e =
    ap (λ xs. decoded xs 0 None) e
    ∙ ap (λ reading. let d : Decoding = record { records = reading.records; rest = reading.rest; before = 0; bad = None } in d) reading_of-empty

-- bytes without a bad field with which no record begins are shorter than a longest record
pub rest_short : (rest : List ℕ) → IsBytes rest → fault_of rest ≡ None → front_record rest ≡ None → length rest < 16404
rest_short rest h fine none =
    elim (cases_lt (length rest) 16404) [
      | inl lt ↦ lt
      | inr ge ↦
          let long : u32_at rest 0 ≤ length rest = omega (arith, told_length rest (omega arith) fine) in
          absurd (none-some (record_at rest) (sym none ∙ whole_found rest h (omega arith) long fine))
    ]

-- such bytes are the rest that a decoder keeps
pub kept_stops : (bytes : List ℕ) (given whole : ℕ) (bad : Option BadField) → KeepsBytes bytes given whole bad → front_record (take (length bytes - whole) (drop whole bytes)) ≡ None
kept_stops bytes given whole bad k =
    rw take_rest (subst (λ (xs : List ℕ). front_record xs ≡ None) k.rest (splits (drop given bytes)).stops)

pub kept_fine : (bytes : List ℕ) (given whole : ℕ) (bad : Option BadField) → KeepsBytes bytes given whole bad → fault_of (take (length bytes - whole) (drop whole bytes)) ≡ None
kept_fine bytes given whole bad k = rw take_rest k.fine

-- the next record, and its length
pub record GivesNext (bytes : List ℕ) (given whole n : ℕ) (bad : Option BadField) : Type 0 where
  pub long : given + 16 ≤ length bytes
  pub whole_long : length_of_kind (kind_at (drop given bytes)) ≤ length (drop given bytes)
  pub kept : KeepsBytes bytes (given + n) whole bad
  pub records : records_of (drop given bytes) ≡ record_at (drop given bytes) ∷ records_of (drop (given + n) bytes)
  pub rest : rest_of (drop given bytes) ≡ rest_of (drop (given + n) bytes)

pub gives_next : (bytes : List ℕ) (given whole n : ℕ) (bad : Option BadField) → KeepsBytes bytes given whole bad → given < whole → n ≡ u32_at (drop given bytes) 0 → GivesNext bytes given whole n bad
gives_next bytes given whole n bad k lt told =
    let front : List ℕ = drop given bytes in
    option_cases (front_record front)
    (λ none.
    let same : rest_of front ≡ front = ap (λ reading. reading.rest) (reading_of-none front none) in
    absurd (omega (arith, ap length (sym same ∙ k.rest), length-drop given bytes, length-drop whole bytes, k.within)))
    (λ r found.
    let b : Begins front r = front_record_begins front r found in
    let is_it : record_at front ≡ r = front_record-is front r found in
    let fine : fault_of front ≡ None
    = ap fault_of b.spelled ∙ fault_of-spelling_of r (drop (length (spelling_of r)) front) b.valid in
    let length_is : length (spelling_of r) ≡ n
    = sym (told ∙ ap (λ xs. u32_at xs 0) b.spelled ∙ u32_at-spelling_of r (drop (length (spelling_of r)) front)) in
    let read : reading_of front ≡ record_onto r (reading_of (drop (given + n) bytes))
    = reading_of-some front r found ∙ ap (λ m. record_onto r (reading_of (drop m front))) length_is
    ∙ ap (λ xs. record_onto r (reading_of xs)) (drop-drop n given bytes) in
    let rest : rest_of front ≡ rest_of (drop (given + n) bytes) = ap (λ reading. reading.rest) read in
    let shorter : length (rest_of (drop (given + n) bytes)) ≤ length (drop (given + n) bytes)
    = omega (arith, length-rest_of (drop (given + n) bytes)) in
    let within : given + n ≤ whole
    = omega (arith, length_is, b.fits, shorter, ap length (sym rest ∙ k.rest), length-drop given bytes, length-drop whole bytes, length-drop (given + n) bytes, k.within) in
    record {
      long = omega (arith, b.long, length-drop given bytes);
      whole_long = omega (arith, told_kind front (omega (arith, b.long)) fine, told, length_is, b.fits);
      kept = record { order = within; within = k.within; rest = sym rest ∙ k.rest; fine = k.fine; stopped = k.stopped };
      records = ap (λ reading. reading.records) read ∙ ap (λ x. x ∷ records_of (drop (given + n) bytes)) (sym is_it);
      rest = rest;
    })

-- a piece has come, and the rest begins at start
pub record IsFed (bytes piece : List ℕ) (given whole start : ℕ) : Type 0 where
  pub order : whole ≤ start
  pub within : start ≤ length (bytes ++ piece)
  pub rest : drop start (bytes ++ piece) ≡ rest_of (drop whole (bytes ++ piece))

-- what the decoder and the stream have in common then
record Joins (bytes piece : List ℕ) (given whole start : ℕ) : Type 0 where
  all : drop given (bytes ++ piece) ≡ drop given bytes ++ piece
  next : drop whole (bytes ++ piece) ≡ rest_of (drop given bytes) ++ piece
  rest : rest_of (rest_of (drop given bytes) ++ piece) ≡ drop start (bytes ++ piece)
  read : reading_of (drop given bytes ++ piece) ≡ records_onto (records_of (drop given bytes)) (reading_of (rest_of (drop given bytes) ++ piece))
  moves : length (rest_of (drop given bytes) ++ piece) - length (rest_of (rest_of (drop given bytes) ++ piece)) ≡ start - whole

joins : (bytes piece : List ℕ) (given whole start : ℕ) → KeepsBytes bytes given whole None → IsFed bytes piece given whole start → Joins bytes piece given whole start
joins bytes piece given whole start k f =
    let inside : given ≤ length bytes = omega (arith, k.order, k.within) in
    let next : drop whole (bytes ++ piece) ≡ rest_of (drop given bytes) ++ piece
    = drop-append-le whole bytes piece k.within ∙ ap (λ xs. xs ++ piece) (sym k.rest) in
    let rest : rest_of (rest_of (drop given bytes) ++ piece) ≡ drop start (bytes ++ piece) = sym (f.rest ∙ ap rest_of next) in
    record {
      all = drop-append-le given bytes piece inside;
      next = next;
      rest = rest;
      read = reading_of-append (drop given bytes) piece;
      moves = omega (arith, ap length rest, ap length next, length-drop start (bytes ++ piece), length-drop whole (bytes ++ piece), f.order, f.within);
    }

-- the first bad field of the new bytes is that of the rest
joined_bad : (bytes piece : List ℕ) (given whole start : ℕ) → Joins bytes piece given whole start → first_bad (rest_of (drop given bytes) ++ piece) ≡ option_map (moved (start - whole)) (fault_of (drop start (bytes ++ piece)))
unfolding first_bad
joined_bad bytes piece given whole start j =
    ap (λ n. option_map (moved n) (fault_of (rest_of (rest_of (drop given bytes) ++ piece)))) j.moves
    ∙ ap (λ xs. option_map (moved (start - whole)) (fault_of xs)) j.rest

pub fed_kept : (bytes piece : List ℕ) (given whole start : ℕ) → KeepsBytes bytes given whole None → IsFed bytes piece given whole start → fault_of (drop start (bytes ++ piece)) ≡ None → KeepsBytes (bytes ++ piece) given start None
fed_kept bytes piece given whole start k f fine =
    let j : Joins bytes piece given whole start = joins bytes piece given whole start k f in
    record {
      order = omega (arith, k.order, f.order);
      within = f.within;
      rest = ap rest_of j.all ∙ ap (λ reading. reading.rest) j.read ∙ j.rest;
      fine = fine;
      stopped = λ h. absurd (false≢true h);
    }

pub fed_decoded : (bytes piece : List ℕ) (given whole start before : ℕ) → KeepsBytes bytes given whole None → IsFed bytes piece given whole start → fault_of (drop start (bytes ++ piece)) ≡ None → decoded (drop given (bytes ++ piece)) (before + (start - whole)) None ≡ after_piece (decoded (drop given bytes) before None) piece
fed_decoded bytes piece given whole start before k f fine =
    let j : Joins bytes piece given whole start = joins bytes piece given whole start k f in
    let old : Decoding = decoded (drop given bytes) before None in
    let next : List ℕ = rest_of (drop given bytes) ++ piece in
    let none : first_bad next ≡ None = joined_bad bytes piece given whole start j ∙ ap (option_map (moved (start - whole))) fine in
    let read : reading_of (drop given (bytes ++ piece)) ≡ records_onto (records_of (drop given bytes)) (reading_of next) = ap reading_of j.all ∙ j.read in
    ap (λ reading. let d : Decoding = record { records = reading.records; rest = reading.rest; before = before + (start - whole); bad = None } in d) read
    ∙ ap (λ n. let d : Decoding = record { records = records_of (drop given bytes) ++ records_of next; rest = rest_of next; before = before + n; bad = None } in d) (sym j.moves)
    ∙ sym (taken-fine old next none) ∙ sym (after_piece-going old piece refl)

-- the bytes before the rest are the whole records
fed_records : (bytes piece : List ℕ) (given whole start : ℕ) → KeepsBytes bytes given whole None → IsFed bytes piece given whole start → reading_of (drop given (take start (bytes ++ piece))) ≡ record { records = records_of (drop given bytes ++ piece); rest = [] }
fed_records bytes piece given whole start k f =
    let j : Joins bytes piece given whole start = joins bytes piece given whole start k f in
    let u : List ℕ = drop given bytes ++ piece in
    let s : Splits u (records_of u) (rest_of u) = splits u in
    let rest : rest_of u ≡ drop start (bytes ++ piece) = ap (λ reading. reading.rest) j.read ∙ j.rest in
    let order : given ≤ start = omega (arith, k.order, f.order) in
    let sum : start ≡ given + (start - given) = omega arith in
    let long : length (spellings_of (records_of u)) ≡ start - given
    = omega (arith, length-rest_of u, ap length rest, ap length j.all, length-drop given (bytes ++ piece), length-drop start (bytes ++ piece), f.within, k.order, f.order) in
    let front : drop given (take start (bytes ++ piece)) ≡ spellings_of (records_of u)
    = ap (λ n. drop given (take n (bytes ++ piece))) sum
    ∙ drop-take given (start - given) (bytes ++ piece)
    ∙ ap (take (start - given)) (j.all ∙ s.whole)
    ∙ take_at (spellings_of (records_of u)) (rest_of u) (start - given) long in
    ap reading_of (front ∙ sym (append-nil (spellings_of (records_of u))))
    ∙ reading_of-spellings (records_of u) [] s.valid
    ∙ ap (records_onto (records_of u)) reading_of-empty
    ∙ ap (λ xs. let reading : Reading = record { records = xs; rest = [] } in reading) (append-nil (records_of u))

pub stopped_kept : (bytes piece : List ℕ) (given whole start : ℕ) (bad : Option BadField) → KeepsBytes bytes given whole None → IsFed bytes piece given whole start → KeepsBytes (take start (bytes ++ piece)) given start bad
stopped_kept bytes piece given whole start bad k f =
    let long : length (take start (bytes ++ piece)) ≡ start = length-take-le start (bytes ++ piece) f.within in
    let none : drop start (take start (bytes ++ piece)) ≡ [] = drop_all start (take start (bytes ++ piece)) (omega (arith, long)) in
    record {
      order = omega (arith, k.order, f.order);
      within = omega (arith, long);
      rest = ap (λ reading. reading.rest) (fed_records bytes piece given whole start k f) ∙ sym none;
      fine = ap fault_of none ∙ fault_of-empty;
      stopped = λ h. sym long;
    }

pub stopped_decoded : (bytes piece : List ℕ) (given whole start before : ℕ) (bad : BadField) → KeepsBytes bytes given whole None → IsFed bytes piece given whole start → fault_of (drop start (bytes ++ piece)) ≡ Some bad
    → decoded (drop given (take start (bytes ++ piece))) (before + (start - whole)) (Some (record { fault = bad.fault; place = before + (start - whole) + bad.place })) ≡ after_piece (decoded (drop given bytes) before None) piece
stopped_decoded bytes piece given whole start before bad k f found =
    let j : Joins bytes piece given whole start = joins bytes piece given whole start k f in
    let old : Decoding = decoded (drop given bytes) before None in
    let next : List ℕ = rest_of (drop given bytes) ++ piece in
    let n : ℕ = start - whole in
    let first : first_bad next ≡ Some (moved n bad) = joined_bad bytes piece given whole start j ∙ ap (option_map (moved n)) found in
    let place : before + n + bad.place ≡ before + (n + bad.place) = omega arith in
    let records : records_of (drop given (take start (bytes ++ piece))) ≡ records_of (drop given bytes) ++ records_of next
    = ap (λ reading. reading.records) (fed_records bytes piece given whole start k f) ∙ ap (λ reading. reading.records) j.read in
    decoding_equal _ (stopped_at old next (moved n bad)) records
    (ap (λ reading. reading.rest) (fed_records bytes piece given whole start k f))
    (ap (λ m. before + m) (sym j.moves))
    (ap (λ p. Some (record { fault = bad.fault; place = p })) place)
    ∙ sym (taken-bad old next (moved n bad) first) ∙ sym (after_piece-going old piece refl)

-- nothing is left to give
pub kept_done : (bytes : List ℕ) (given whole : ℕ) (bad : Option BadField) → KeepsBytes bytes given whole bad → given ≡ whole → records_of (drop given bytes) ≡ []
kept_done bytes given whole bad k e =
    let stops : front_record (drop whole bytes) ≡ None
    = subst (λ (xs : List ℕ). front_record xs ≡ None) k.rest (splits (drop given bytes)).stops in
    ap (λ n. records_of (drop n bytes)) e ∙ ap (λ reading. reading.records) (reading_of-none (drop whole bytes) stops)

-- a decoding without its first record
abbrev pub without_first : Decoding → Decoding
without_first d = record { records = drop 1 d.records; rest = d.rest; before = d.before; bad = d.bad }

pub without_none : (d : Decoding) → d.records ≡ [] → d ≡ without_first d
without_none d e = decoding_equal d (without_first d) (e ∙ sym (ap (drop 1) e)) refl refl refl

pub given_next : (bytes : List ℕ) (given whole before n : ℕ) (bad : Option BadField) (now : Decoding) → GivesNext bytes given whole n bad → decoded (drop given bytes) before bad ≡ now → decoded (drop (given + n) bytes) before bad ≡ without_first now
given_next bytes given whole before n bad now g view =
    decoding_equal (decoded (drop (given + n) bytes) before bad) (without_first (decoded (drop given bytes) before bad)) (sym (ap (drop 1) g.records)) (sym g.rest) refl refl
    ∙ ap without_first view

-- after a piece without a bad field
pub record Goes (bytes piece new : List ℕ) (given whole start before : ℕ) (bad : Option BadField) : Type 0 where
  pub kept : KeepsBytes new given start bad
  pub view : decoded (drop given new) (before + (start - whole)) bad ≡ after_piece (decoded (drop given bytes) before bad) piece

pub goes : (bytes piece new : List ℕ) (given whole start before : ℕ) (old bad : Option BadField) → old ≡ None → bad ≡ None → KeepsBytes bytes given whole old → Takes bytes piece new whole start bad → Goes bytes piece new given whole start before old
goes bytes piece new given whole start before (Some b) bad e n k t = absurd (none-some b (sym e))
goes bytes piece new given whole start before None bad e n k t =
    let f : IsFed bytes piece given whole start = record { order = t.order; within = t.within; rest = t.rest } in
    let same : bytes ++ piece ≡ new
    = sym (t.new_is ∙ ap (λ b. if is_some b then take start (bytes ++ piece) else (bytes ++ piece)) n) in
    let fine : fault_of (drop start (bytes ++ piece)) ≡ None = sym t.bad_is ∙ n in
    record {
      kept = subst (λ (xs : List ℕ). KeepsBytes xs given start None) same (fed_kept bytes piece given whole start k f fine);
      view = ap (λ xs. decoded (drop given xs) (before + (start - whole)) None) (sym same)
          ∙ fed_decoded bytes piece given whole start before k f fine;
    }

-- after a piece with a bad field
pub record Stops (bytes piece new : List ℕ) (given whole start before : ℕ) (old : Option BadField) (bad : BadField) : Type 0 where
  pub kept : KeepsBytes new given start (Some bad)
  pub view : decoded (drop given new) (before + (start - whole)) (Some bad) ≡ after_piece (decoded (drop given bytes) before old) piece

pub stops_at : (bytes piece new : List ℕ) (given whole start before : ℕ) (old found : Option BadField) (bad : BadField) → old ≡ None → found ≡ Some bad → KeepsBytes bytes given whole old → Takes bytes piece new whole start found → Stops bytes piece new given whole start before old (record { fault = bad.fault; place = before + (start - whole) + bad.place })
stops_at bytes piece new given whole start before (Some b) found bad e n k t = absurd (none-some b (sym e))
stops_at bytes piece new given whole start before None found bad e n k t =
    let f : IsFed bytes piece given whole start = record { order = t.order; within = t.within; rest = t.rest } in
    let same : take start (bytes ++ piece) ≡ new
    = sym (t.new_is ∙ ap (λ b. if is_some b then take start (bytes ++ piece) else (bytes ++ piece)) n) in
    let faulty : fault_of (drop start (bytes ++ piece)) ≡ Some bad = sym t.bad_is ∙ n in
    let moved_bad : BadField = record { fault = bad.fault; place = before + (start - whole) + bad.place } in
    record {
      kept = subst (λ (xs : List ℕ). KeepsBytes xs given start (Some moved_bad)) same (stopped_kept bytes piece given whole start (Some moved_bad) k f);
      view = ap (λ xs. decoded (drop given xs) (before + (start - whole)) (Some moved_bad)) (sym same)
          ∙ stopped_decoded bytes piece given whole start before bad k f faulty;
    }
