-- The whole records of a stream and the bytes after them.
use Rattle.std.proofs.Common.{◌≡◌, ℕ, zero, suc, ◌+◌, ◌-◌, ◌<◌, ◌≤◌, true, false, eqb, Option, Some, None, List, [], ◌∷◌, ◌++◌, length, take, drop, refl, sym, ap, ◌∙◌, subst, arith, append_assoc, length-append, length-drop, length-take, take-append-drop, drop-drop}
use Rattle.std.specs.Option.{option_map}
use Rattle.std.proofs.lemmas.List.{append-nil, take_rest}
use Rattle.std.proofs.lemmas.Bool.{and_parts, eqb-true, eq-eqb}
use Rattle.std.proofs.lemmas.Option.{none-some, same_Some, cond_some}
use Rattle.std.proofs.lemmas.Slice.Eq.{starts_is}
use Rattle.std.proofs.lemmas.List.{drop_at}
use Rattle.std.specs.Bool.{Decides}
use Rattle.std.specs.List.{starts_with}
use Rattle.xemem_language.specs.declared.record.Record.{Record}
use Rattle.xemem_wire.specs.declared.format.BadField.{BadField}
use Rattle.xemem_wire.specs.Spelling.{spelling_of, is_valid, AreValid, spellings_of}
use Rattle.xemem_wire.specs.Faults.{fault_of}
use Rattle.xemem_wire.specs.Stream.{record_at, front_record, Reading, record_onto, records_onto, nothing_read, reading_within, reading_of, records_of, rest_of, moved, first_bad}
use Rattle.xemem_wire.proofs.FaultLemmas.{fault_of-append}
use Rattle.xemem_wire.proofs.SpellingLemmas.{spelling_long, record_at-spelling_of, fault_of-spelling_of, u32_at-spelling_of, IsWhole, is_whole}
use Rattle.xemem_wire.proofs.FieldLemmas.{IsBytes}
use Rattle.xemem_wire.specs.Table.{u32_at}
use Rattle.std.specs.Prelude.{is_some}

eqb_decides : (a b : ℕ) → Decides (eqb a b) (a ≡ b)
eqb_decides a b = (eqb-true a b, eq-eqb a b)

-- a bad field moved twice is moved by the sum
pub moved_twice : (n a b : ℕ) (bad : Option BadField) → n ≡ a + b → option_map (moved n) bad ≡ option_map (moved a) (option_map (moved b) bad)
moved_twice n a b None e = refl
moved_twice n a b (Some bad) e = ap (λ place. Some (record { fault = bad.fault; place = place })) (omega arith)

-- an option is one or the other
pub option_cases : {A B : Type 0} (o : Option A) → (o ≡ None → B) → ((x : A) → o ≡ Some x → B) → B
option_cases None f g = f refl
option_cases (Some x) f g = g x refl

-- bytes that begin with the spelling of a valid record begin with this record
pub front_record-spelling_of : (r : Record) (more : List ℕ) → is_valid r ≡ true → front_record (spelling_of r ++ more) ≡ Some r
unfolding front_record
front_record-spelling_of r more h =
    let begins : starts_with eqb (spelling_of r ++ more) (spelling_of r) ≡ true
    = (starts_is eqb_decides (spelling_of r ++ more) (spelling_of r) _ refl).1 more refl in
    rw (record_at-spelling_of r more h, h, begins) refl

-- and only these
pub record Begins (bytes : List ℕ) (r : Record) : Type 0 where
  pub valid : is_valid r ≡ true
  pub spelled : bytes ≡ spelling_of r ++ drop (length (spelling_of r)) bytes
  pub fits : length (spelling_of r) ≤ length bytes
  pub long : 16 ≤ length bytes

pub front_record_begins : (bytes : List ℕ) (r : Record) → front_record bytes ≡ Some r → Begins bytes r
unfolding front_record
front_record_begins bytes r e =
    let parts = cond_some _ (record_at bytes) r e in
    let tests = and_parts (is_valid (record_at bytes)) (starts_with eqb bytes (spelling_of (record_at bytes))) parts.0 in
    let spelled : bytes ≡ spelling_of (record_at bytes) ++ drop (length (spelling_of (record_at bytes))) bytes
    = (starts_is eqb_decides bytes (spelling_of (record_at bytes)) _ refl).0 tests.1 in
    let spelled_r : bytes ≡ spelling_of r ++ drop (length (spelling_of r)) bytes = rw parts.1 at spelled in
    record {
      valid = rw parts.1 at tests.0;
      spelled = spelled_r;
      fits = omega (arith, ap length spelled_r, length-append (spelling_of r) (drop (length (spelling_of r)) bytes));
      long = omega (arith, ap length spelled_r, length-append (spelling_of r) (drop (length (spelling_of r)) bytes), spelling_long r);
    }

-- it is the one whose fields they have
pub front_record-is : (bytes : List ℕ) (r : Record) → front_record bytes ≡ Some r → record_at bytes ≡ r
unfolding front_record
front_record-is bytes r e = (cond_some _ (record_at bytes) r e).1

-- short bytes begin with no record
pub front_record_short : (bytes : List ℕ) → length bytes < 16 → front_record bytes ≡ None
front_record_short bytes h =
    option_cases (front_record bytes) (λ e. e)
    (λ r e. let b : Begins bytes r = front_record_begins bytes r e in absurd (omega arith))

-- one step, with enough steps
reading_within-none : (n : ℕ) (bytes : List ℕ) → front_record bytes ≡ None → reading_within n bytes ≡ nothing_read bytes
unfolding reading_within
reading_within-none zero bytes e = refl
reading_within-none (suc n) bytes e = rw e refl

reading_within-some : (n : ℕ) (bytes : List ℕ) (r : Record) → front_record bytes ≡ Some r → reading_within (suc n) bytes ≡ record_onto r (reading_within n (drop (length (spelling_of r)) bytes))
unfolding reading_within
reading_within-some n bytes r e = rw e refl

reading_within_enough : (n m : ℕ) (bytes : List ℕ) → length bytes ≤ n → length bytes ≤ m → reading_within n bytes ≡ reading_within m bytes
reading_within_enough zero m bytes h k =
    let none : front_record bytes ≡ None = front_record_short bytes (omega arith) in
    reading_within-none zero bytes none ∙ sym (reading_within-none m bytes none)
reading_within_enough (suc n) zero bytes h k =
    let none : front_record bytes ≡ None = front_record_short bytes (omega arith) in
    reading_within-none (suc n) bytes none ∙ sym (reading_within-none zero bytes none)
reading_within_enough (suc n) (suc m) bytes h k =
    option_cases (front_record bytes)
    (λ e. reading_within-none (suc n) bytes e ∙ sym (reading_within-none (suc m) bytes e))
    (λ r e.
    let b : Begins bytes r = front_record_begins bytes r e in
    let shorter : length (drop (length (spelling_of r)) bytes) + 16 ≤ length bytes
    = omega (arith, length-drop (length (spelling_of r)) bytes, spelling_long r, b.fits) in
    reading_within-some n bytes r e
    ∙ ap (record_onto r) (reading_within_enough n m (drop (length (spelling_of r)) bytes) (omega arith) (omega arith))
    ∙ sym (reading_within-some m bytes r e))

pub reading_of-none : (bytes : List ℕ) → front_record bytes ≡ None → reading_of bytes ≡ nothing_read bytes
unfolding reading_of
reading_of-none bytes e = reading_within-none (length bytes) bytes e

pub reading_of-some : (bytes : List ℕ) (r : Record) → front_record bytes ≡ Some r → reading_of bytes ≡ record_onto r (reading_of (drop (length (spelling_of r)) bytes))
unfolding reading_of
reading_of-some bytes r e =
    let b : Begins bytes r = front_record_begins bytes r e in
    let shorter : length (drop (length (spelling_of r)) bytes) + 16 ≤ length bytes
    = omega (arith, length-drop (length (spelling_of r)) bytes, spelling_long r, b.fits) in
    let one : length bytes ≡ suc (length bytes - 1) = omega arith in
    ap (λ n. reading_within n bytes) one ∙ reading_within-some (length bytes - 1) bytes r e
    ∙ ap (record_onto r) (reading_within_enough (length bytes - 1) (length (drop (length (spelling_of r)) bytes)) (drop (length (spelling_of r)) bytes) (omega arith) (omega arith))

-- a valid record is read first, and then what follows
pub reading_of-spelling_of : (r : Record) (more : List ℕ) → is_valid r ≡ true → reading_of (spelling_of r ++ more) ≡ record_onto r (reading_of more)
reading_of-spelling_of r more h =
    reading_of-some (spelling_of r ++ more) r (front_record-spelling_of r more h)
    ∙ ap (λ bytes. record_onto r (reading_of bytes)) (drop_at (spelling_of r) more (length (spelling_of r)) refl)

pub reading_of-spellings : (rs : List Record) (more : List ℕ) → AreValid rs → reading_of (spellings_of rs ++ more) ≡ records_onto rs (reading_of more)
reading_of-spellings [] more h = refl
reading_of-spellings (r ∷ rs) more h =
    ap reading_of (append_assoc (spelling_of r) (spellings_of rs) more)
    ∙ reading_of-spelling_of r (spellings_of rs ++ more) h.0
    ∙ ap (record_onto r) (reading_of-spellings rs more h.1)

-- the stream is its whole records and the rest, which begins with no record
pub record Splits (bytes : List ℕ) (rs : List Record) (rest : List ℕ) : Type 0 where
  pub whole : bytes ≡ spellings_of rs ++ rest
  pub valid : AreValid rs
  pub stops : front_record rest ≡ None

split_by : (bytes : List ℕ) (reading : Reading) → reading_of bytes ≡ reading → Splits bytes reading.records reading.rest → Splits bytes (records_of bytes) (rest_of bytes)
split_by bytes reading e s =
    subst (λ (found : Reading). Splits bytes found.records found.rest) (sym e) s

splits_within : (n : ℕ) (bytes : List ℕ) → length bytes ≤ n → Splits bytes (records_of bytes) (rest_of bytes)
splits_within zero bytes h =
    let none : front_record bytes ≡ None = front_record_short bytes (omega arith) in
    split_by bytes (nothing_read bytes) (reading_of-none bytes none) (record { whole = refl; valid = tt; stops = none })
splits_within (suc n) bytes h =
    option_cases (front_record bytes)
    (λ e. split_by bytes (nothing_read bytes) (reading_of-none bytes e) (record { whole = refl; valid = tt; stops = e }))
    (λ r e.
    let b : Begins bytes r = front_record_begins bytes r e in
    let later : List ℕ = drop (length (spelling_of r)) bytes in
    let shorter : length later + 16 ≤ length bytes
    = omega (arith, length-drop (length (spelling_of r)) bytes, spelling_long r, b.fits) in
    let s : Splits later (records_of later) (rest_of later) = splits_within n later (omega arith) in
    split_by bytes (record_onto r (reading_of later)) (reading_of-some bytes r e)
    (record {
      whole = b.spelled ∙ ap (λ xs. spelling_of r ++ xs) s.whole
          ∙ sym (append_assoc (spelling_of r) (spellings_of (records_of later)) (rest_of later));
      valid = (b.valid, s.valid);
      stops = s.stops;
    }))

pub splits : (bytes : List ℕ) → Splits bytes (records_of bytes) (rest_of bytes)
splits bytes = splits_within (length bytes) bytes (omega arith)

-- and it is so in one way only
pub reading_of-splits : (bytes : List ℕ) (rs : List Record) (rest : List ℕ) → Splits bytes rs rest → reading_of bytes ≡ record { records = rs; rest = rest }
reading_of-splits bytes rs rest s =
    ap reading_of s.whole ∙ reading_of-spellings rs rest s.valid ∙ ap (records_onto rs) (reading_of-none rest s.stops)
    ∙ ap (λ xs. record { records = xs; rest = rest }) (append-nil rs)

pub length-rest_of : (bytes : List ℕ) → length (spellings_of (records_of bytes)) + length (rest_of bytes) ≡ length bytes
length-rest_of bytes =
    sym (ap length (splits bytes).whole ∙ length-append (spellings_of (records_of bytes)) (rest_of bytes))

-- what more bytes give
pub reading_of-append : (bytes more : List ℕ) → reading_of (bytes ++ more) ≡ records_onto (records_of bytes) (reading_of (rest_of bytes ++ more))
reading_of-append bytes more =
    let s : Splits bytes (records_of bytes) (rest_of bytes) = splits bytes in
    ap (λ xs. reading_of (xs ++ more)) s.whole
    ∙ ap reading_of (append_assoc (spellings_of (records_of bytes)) (rest_of bytes) more)
    ∙ reading_of-spellings (records_of bytes) (rest_of bytes ++ more) s.valid

-- at a bad field no record begins, whatever comes
pub fault_stops : (bytes more : List ℕ) (bad : BadField) → fault_of bytes ≡ Some bad → front_record (bytes ++ more) ≡ None
fault_stops bytes more bad e =
    option_cases (front_record (bytes ++ more)) (λ none. none)
    (λ r found.
    let b : Begins (bytes ++ more) r = front_record_begins (bytes ++ more) r found in
    let later : List ℕ = drop (length (spelling_of r)) (bytes ++ more) in
    absurd (none-some bad (sym (fault_of-spelling_of r later b.valid) ∙ sym (ap fault_of b.spelled) ∙ fault_of-append bytes more bad e)))

-- a front of a valid record has no bad field
pub fault_of-take : (r : Record) (n : ℕ) → is_valid r ≡ true → fault_of (take n (spelling_of r)) ≡ None
fault_of-take r n h =
    option_cases (fault_of (take n (spelling_of r))) (λ none. none)
    (λ bad e.
    let all : take n (spelling_of r) ++ drop n (spelling_of r) ≡ spelling_of r ++ []
    = take-append-drop n (spelling_of r) ∙ sym (append-nil (spelling_of r)) in
    absurd (none-some bad (sym (fault_of-spelling_of r [] h) ∙ sym (ap fault_of all) ∙ fault_of-append (take n (spelling_of r)) (drop n (spelling_of r)) bad e)))

pub reading_of-take : (r : Record) (n : ℕ) → is_valid r ≡ true → n < length (spelling_of r) → reading_of (take n (spelling_of r)) ≡ nothing_read (take n (spelling_of r))
reading_of-take r n h short =
    let front : List ℕ = take n (spelling_of r) in
    reading_of-none front
    (option_cases (front_record front) (λ none. none)
    (λ s found.
    let b : Begins front s = front_record_begins front s found in
    let more : List ℕ = drop (length (spelling_of s)) front ++ drop n (spelling_of r) in
    let all : spelling_of r ++ [] ≡ spelling_of s ++ more
    = append-nil (spelling_of r) ∙ sym (take-append-drop n (spelling_of r)) ∙ ap (λ xs. xs ++ drop n (spelling_of r)) b.spelled
    ∙ append_assoc (spelling_of s) (drop (length (spelling_of s)) front) (drop n (spelling_of r)) in
    let same : r ≡ s
    = same_Some r s (sym (front_record-spelling_of r [] h) ∙ ap front_record all ∙ front_record-spelling_of s more b.valid) in
    absurd (omega (arith, b.fits, ap (λ x. length (spelling_of x)) same, length-take n (spelling_of r), short))))

-- the place of the first bad field, when the front was read before
pub first_bad-append : (bytes more : List ℕ) → first_bad (bytes ++ more) ≡ option_map (moved (length bytes - length (rest_of bytes))) (first_bad (rest_of bytes ++ more))
unfolding first_bad
first_bad-append bytes more =
    let rest : rest_of (bytes ++ more) ≡ rest_of (rest_of bytes ++ more) = ap (λ reading. reading.rest) (reading_of-append bytes more) in
    let last : List ℕ = rest_of (rest_of bytes ++ more) in
    let place : length (bytes ++ more) - length last ≡ (length bytes - length (rest_of bytes)) + (length (rest_of bytes ++ more) - length last)
    = omega (arith, length-append bytes more, length-append (rest_of bytes) more, length-rest_of bytes, length-rest_of (rest_of bytes ++ more)) in
    rw rest (moved_twice (length (bytes ++ more) - length last) (length bytes - length (rest_of bytes)) (length (rest_of bytes ++ more) - length last) (fault_of last) place)

-- how long the record at the front is, as it is found from the bytes
pub none_short : (bytes : List ℕ) → length bytes < 16 → None ≡ option_map (λ r. length (spelling_of r)) (front_record bytes)
none_short bytes h = sym (ap (option_map (λ r. length (spelling_of r))) (front_record_short bytes h))

pub none_faulty : (bytes : List ℕ) → is_some (fault_of bytes) ≡ true → None ≡ option_map (λ r. length (spelling_of r)) (front_record bytes)
none_faulty bytes h =
    option_cases (fault_of bytes) (λ e. cc)
    (λ bad e.
    let none : front_record bytes ≡ None = ap front_record (sym (append-nil bytes)) ∙ fault_stops bytes [] bad e in
    sym (ap (option_map (λ r. length (spelling_of r))) none))

pub none_partial : (bytes : List ℕ) → length bytes < u32_at bytes 0 → None ≡ option_map (λ r. length (spelling_of r)) (front_record bytes)
none_partial bytes h =
    option_cases (front_record bytes) (λ e. sym (ap (option_map (λ r. length (spelling_of r))) e))
    (λ r e.
    let b : Begins bytes r = front_record_begins bytes r e in
    let later : List ℕ = drop (length (spelling_of r)) bytes in
    let told : u32_at bytes 0 ≡ length (spelling_of r) = ap (λ xs. u32_at xs 0) b.spelled ∙ u32_at-spelling_of r later in
    absurd (omega (arith, told, b.fits, h)))

-- the bytes are whole, so they begin with the record that they name
pub whole_found : (bytes : List ℕ) → IsBytes bytes → 16 ≤ length bytes → u32_at bytes 0 ≤ length bytes → fault_of bytes ≡ None → front_record bytes ≡ Some (record_at bytes)
whole_found bytes h n long fine =
    let w : IsWhole bytes = is_whole bytes h n long fine in
    ap front_record w.spelled ∙ front_record-spelling_of (record_at bytes) (drop (u32_at bytes 0) bytes) w.valid

pub some_whole : (bytes : List ℕ) → IsBytes bytes → 16 ≤ length bytes → u32_at bytes 0 ≤ length bytes → is_some (fault_of bytes) ≡ false → Some (u32_at bytes 0) ≡ option_map (λ r. length (spelling_of r)) (front_record bytes)
some_whole bytes h n long f =
    let fine : fault_of bytes ≡ None = option_cases (fault_of bytes) (λ e. e) (λ bad e. cc) in
    let w : IsWhole bytes = is_whole bytes h n long fine in
    let r : Record = record_at bytes in
    let told : u32_at bytes 0 ≡ length (spelling_of r)
    = ap (λ xs. u32_at xs 0) w.spelled ∙ u32_at-spelling_of r (drop (u32_at bytes 0) bytes) in
    ap (λ n. Some n) told ∙ sym (ap (option_map (λ r. length (spelling_of r))) (whole_found bytes h n long fine))

-- a whole record from a place on is passed over
pub record Passes (bytes : List ℕ) (at n : ℕ) : Type 0 where
  pub some : 0 < n
  pub within : at + n ≤ length bytes
  pub rest : rest_of (drop (at + n) bytes) ≡ rest_of (drop at bytes)

pub some_passes : (bytes : List ℕ) (at n : ℕ) → at ≤ length bytes → Some n ≡ option_map (λ r. length (spelling_of r)) (front_record (take (length bytes - at) (drop at bytes))) → Passes bytes at n
some_passes bytes at n inside h =
    let e : Some n ≡ option_map (λ r. length (spelling_of r)) (front_record (drop at bytes)) = rw take_rest at h in
    option_cases (front_record (drop at bytes))
    (λ none. absurd (none-some n (sym (e ∙ ap (option_map (λ r. length (spelling_of r))) none))))
    (λ r found.
    let b : Begins (drop at bytes) r = front_record_begins (drop at bytes) r found in
    let same : n ≡ length (spelling_of r) = same_Some n (length (spelling_of r)) (e ∙ ap (option_map (λ r. length (spelling_of r))) found) in
    record {
      some = omega (arith, spelling_long r);
      within = omega (arith, b.fits, inside, length-drop at bytes);
      rest = ap rest_of (sym (drop-drop n at bytes)) ∙ ap (λ k. rest_of (drop k (drop at bytes))) same
          ∙ sym (ap (λ reading. reading.rest) (reading_of-some (drop at bytes) r found));
    })

pub none_rests : (bytes : List ℕ) (at : ℕ) → None ≡ option_map (λ r. length (spelling_of r)) (front_record (take (length bytes - at) (drop at bytes))) → rest_of (drop at bytes) ≡ drop at bytes
none_rests bytes at h =
    let e : None ≡ option_map (λ r. length (spelling_of r)) (front_record (drop at bytes)) = rw take_rest at h in
    option_cases (front_record (drop at bytes)) (λ none. ap (λ reading. reading.rest) (reading_of-none (drop at bytes) none))
    (λ r found. absurd (none-some (length (spelling_of r)) (e ∙ ap (option_map (λ r. length (spelling_of r))) found)))
