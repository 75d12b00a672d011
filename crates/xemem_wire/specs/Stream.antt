-- A stream of bytes: its whole records, the bytes after them, and its first bad field.
use Rattle.std.specs.Prelude.{◌≡◌, ◌≢◌, ℕ, zero, suc, ◌+◌, ◌-◌, ◌&&◌, nat_eq, true, Option, Some, None, List, [], ◌∷◌, ◌++◌, length, drop, if◌then◌else◌}
use Rattle.std.specs.Option.{option_map, option_map_or}
use Rattle.std.specs.List.{starts_with}
use Rattle.xemem_language.specs.declared.record.Record.{Record}
use Rattle.xemem_wire.specs.declared.format.BadField.{BadField}
use Rattle.xemem_wire.specs.Table.{u16_at, u32_at}
use Rattle.xemem_wire.specs.Fields.{fields_of_kind, fields_numbers, body_of}
use Rattle.xemem_language.specs.Destinations.{destination_of}
use Rattle.xemem_wire.specs.Spelling.{spelling_of, is_valid, AreValid, spellings_of}
use Rattle.xemem_wire.specs.Faults.{kind_at, fault_of}

-- the record whose fields these bytes have
unfoldable pub record_at : List ℕ → Record
record_at bytes = record {
  origin = record { 0 = u16_at bytes 6 };
  dest = destination_of (u16_at bytes 8);
  call = u32_at bytes 12;
  body = body_of (kind_at bytes) (fields_numbers (fields_of_kind (kind_at bytes)) (drop 16 bytes));
}

-- the valid record with whose spelling these bytes begin, where there is one
unfoldable pub front_record : List ℕ → Option Record
front_record bytes =
    if is_valid (record_at bytes) && starts_with nat_eq bytes (spelling_of (record_at bytes))
    then Some (record_at bytes) else None

pub record Reading : Type 0 where
  pub records : List Record
  pub rest : List ℕ

abbrev pub record_onto : Record → Reading → Reading
record_onto r reading = record { records = r ∷ reading.records; rest = reading.rest }

abbrev pub records_onto : List Record → Reading → Reading
records_onto rs reading = record { records = rs ++ reading.records; rest = reading.rest }

abbrev pub nothing_read : List ℕ → Reading
nothing_read bytes = record { records = []; rest = bytes }

-- at most that many whole records at the front, and the bytes after them
unfoldable pub reading_within : ℕ → List ℕ → Reading
reading_within zero bytes = nothing_read bytes
reading_within (suc most) bytes =
    option_map_or (λ r. record_onto r (reading_within most (drop (length (spelling_of r)) bytes))) (front_record bytes)
    (nothing_read bytes)

-- the whole records of a stream up to the first bad field, and the bytes after them
unfoldable pub reading_of : List ℕ → Reading
reading_of bytes = reading_within (length bytes) bytes

abbrev pub records_of : List ℕ → List Record
records_of bytes = (reading_of bytes).records

abbrev pub rest_of : List ℕ → List ℕ
rest_of bytes = (reading_of bytes).rest

-- a bad field with its place counted from that many bytes before
abbrev pub moved : ℕ → BadField → BadField
moved before bad = record { fault = bad.fault; place = before + bad.place }

-- the first bad field of a stream, with its place in the stream
unfoldable pub first_bad : List ℕ → Option BadField
first_bad bytes = option_map (moved (length bytes - length (rest_of bytes))) (fault_of (rest_of bytes))

-- the bytes are these valid records, and a rest with which no valid record begins
pub record IsSplit (bytes : List ℕ) (rs : List Record) (rest : List ℕ) : Type 0 where
  pub whole : bytes ≡ spellings_of rs ++ rest
  pub valid : AreValid rs
  pub partial : (r : Record) (more : List ℕ) → is_valid r ≡ true → rest ≢ spelling_of r ++ more
