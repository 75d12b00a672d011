-- What stands after a record's header: the table of the kinds' fields, and what follows from it.
use Rattle.std.specs.Prelude.{ℕ, ℤ, pos, negsuc, ◌+◌, ◌*◌, ◌==◌, ◌&&◌, ◌||◌, nat_le, Bool, true, false, Option, Some, None, List, [], ◌∷◌, ◌++◌, length, take, drop, slice_index, if◌then◌else◌}
use Rattle.std.specs.Int.{w64, to_le_bytes}
use Rattle.xemem_language.specs.declared.record.Body.{Body}
use Rattle.xemem_language.specs.declared.record.Body.TheVariants as bodies
use Rattle.xemem_language.specs.Destinations.{destination_of}
use Rattle.xm_num.specs.declared.Enclave.{Enclave}
use Rattle.xemem_wire.specs.declared.fields.Field.{Field}
use Rattle.xemem_wire.specs.declared.fields.Width.{Width}
use Rattle.xemem_wire.specs.declared.fields.Width.TheVariants as widths
use Rattle.xemem_wire.specs.declared.format.BadField.{BadField}
use Rattle.xemem_wire.specs.declared.format.WireFault.TheVariants as faults
use Rattle.xemem_wire.specs.Table.{is_enclave, u16_at, u32_at}

-- ---- the table: each kind has its row, from which its length, its spelling, its checks and its reading follow

-- a segid is at most 2 ^ 63 - 1
abbrev pub segid_field : Field
segid_field = record { width = widths.Eight; least = 0; most = 9223372036854775807; or_none = false; fault = faults.Field }

-- an owner is an enclave or none
abbrev pub owner_field : Field
owner_field = record { width = widths.Two; least = 0; most = 255; or_none = true; fault = faults.Field }

abbrev pub zero_field : Field
zero_field = record { width = widths.Two; least = 0; most = 0; or_none = false; fault = faults.Zero }

-- any number of 32 bits: a user or a group
abbrev pub user_field : Field
user_field = record { width = widths.Four; least = 0; most = 4294967295; or_none = false; fault = faults.Field }

-- 1 to read, 2 to read and to write
abbrev pub flags_field : Field
flags_field = record { width = widths.Four; least = 1; most = 2; or_none = false; fault = faults.Field }

abbrev pub pages_field : Field
pages_field = record { width = widths.Four; least = 1; most = 4096; or_none = false; fault = faults.Field }

-- a get is refused for want of its segment or of a right to it
abbrev pub get_cause_field : Field
get_cause_field = record { width = widths.Four; least = 6; most = 7; or_none = false; fault = faults.Field }

-- an apid is the number of a get
abbrev pub apid_field : Field
apid_field = record { width = widths.Four; least = 1; most = 4294967295; or_none = false; fault = faults.Field }

-- the fields of a kind, in order; a kind without a row has none
abbrev pub fields_of_kind : ℕ → List Field
fields_of_kind kind =
    if kind == 6 || kind == 7 || kind == 8 then segid_field ∷ []
    else if kind == 9 then segid_field ∷ owner_field ∷ zero_field ∷ []
    else if kind == 10 then segid_field ∷ flags_field ∷ user_field ∷ user_field ∷ []
    else if kind == 11 then pages_field ∷ []
    else if kind == 12 then get_cause_field ∷ []
    else if kind == 13 then apid_field ∷ []
    else []

-- a negative segid or apid stands as the highest number, which its field doesn't allow
abbrev pub name_number : ℤ → ℕ
name_number (pos n) = n
name_number (negsuc n) = 18446744073709551615

-- what a number stands for, the other way round
abbrev pub name_of : ℕ → ℤ
name_of number = if nat_le number 9223372036854775807 then pos number else negsuc 0

-- an owner that is no enclave's number stands as 256, which its field doesn't allow
abbrev pub owner_number : Option Enclave → ℕ
owner_number None = 65535
owner_number (Some enclave) = if is_enclave enclave.0 then enclave.0 else 256

-- the numbers that a body has for its kind's fields
abbrev pub numbers_of : Body → List ℕ
numbers_of (bodies.Named segid) = name_number segid.0 ∷ []
numbers_of (bodies.Unname segid) = name_number segid.0 ∷ []
numbers_of (bodies.Lookup segid) = name_number segid.0 ∷ []
numbers_of (bodies.Found segid owner) = name_number segid.0 ∷ owner_number owner ∷ 0 ∷ []
numbers_of (bodies.Get segid flags uid gid) = name_number segid.0 ∷ flags ∷ uid ∷ gid ∷ []
numbers_of (bodies.Granted pages) = pages ∷ []
numbers_of (bodies.GetRefused cause) = cause ∷ []
numbers_of (bodies.Release apid) = name_number apid.0 ∷ []
numbers_of _ = []

-- the body of a built kind with these numbers
abbrev pub body_of : ℕ → List ℕ → Body
body_of kind numbers =
    if kind == 1 then bodies.Query
    else if kind == 2 then bodies.Here
    else if kind == 3 then bodies.Register
    else if kind == 4 then bodies.Admit
    else if kind == 5 then bodies.NameReq
    else if kind == 6 then bodies.Named (record { 0 = name_of (slice_index numbers 0) })
    else if kind == 7 then bodies.Unname (record { 0 = name_of (slice_index numbers 0) })
    else if kind == 8 then bodies.Lookup (record { 0 = name_of (slice_index numbers 0) })
    else if kind == 9
    then bodies.Found (record { 0 = name_of (slice_index numbers 0) }) (destination_of (slice_index numbers 1))
    else if kind == 10
    then
    bodies.Get (record { 0 = name_of (slice_index numbers 0) }) (slice_index numbers 1) (slice_index numbers 2)
    (slice_index numbers 3)
    else if kind == 11 then bodies.Granted (slice_index numbers 0)
    else if kind == 12 then bodies.GetRefused (slice_index numbers 0)
    else bodies.Release (record { 0 = name_of (slice_index numbers 0) })

-- ---- a field

abbrev pub bytes_in : Width → ℕ
bytes_in widths.Two = 2
bytes_in widths.Four = 4
bytes_in widths.Eight = 8

-- the numbers that have room in that many bytes
abbrev pub limit_of : Width → ℕ
limit_of widths.Two = 65536
limit_of widths.Four = 4294967296
limit_of widths.Eight = 18446744073709551616

-- a number in that many bytes, the lowest first
abbrev pub number_bytes : Width → ℕ → List ℕ
number_bytes width number = take (bytes_in width) (to_le_bytes w64 number)

-- the number that the first bytes are
abbrev pub number_at_front : Width → List ℕ → ℕ
number_at_front widths.Two bytes = u16_at bytes 0
number_at_front widths.Four bytes = u32_at bytes 0
number_at_front widths.Eight bytes = u32_at bytes 0 + u32_at bytes 4 * 4294967296

-- a number of the field's range, or 65535 where that stands for none
abbrev pub is_allowed : Field → ℕ → Bool
is_allowed field number = (field.or_none && (number == 65535)) || (nat_le field.least number && nat_le number field.most)

-- ---- fields one after the other

abbrev pub fields_length : List Field → ℕ
fields_length [] = 0
fields_length (field ∷ fields) = bytes_in field.width + fields_length fields

abbrev pub fields_spelling : List Field → List ℕ → List ℕ
fields_spelling (field ∷ fields) (number ∷ numbers) = number_bytes field.width number ++ fields_spelling fields numbers
fields_spelling _ _ = []

-- the numbers that these bytes give
abbrev pub fields_numbers : List Field → List ℕ → List ℕ
fields_numbers [] bytes = []
fields_numbers (field ∷ fields) bytes =
    number_at_front field.width bytes ∷ fields_numbers fields (drop (bytes_in field.width) bytes)

-- there is one number for each field, which that field allows
abbrev pub are_allowed : List Field → List ℕ → Bool
are_allowed [] [] = true
are_allowed (field ∷ fields) (number ∷ numbers) = is_allowed field number && are_allowed fields numbers
are_allowed _ _ = false

-- the first field that is there, with its last byte, and isn't allowed; they begin at that place
abbrev pub fields_fault : ℕ → List Field → List ℕ → Option BadField
fields_fault place [] bytes = None
fields_fault place (field ∷ fields) bytes =
    if nat_le (bytes_in field.width) (length bytes)
    then
    if is_allowed field (number_at_front field.width bytes)
    then fields_fault (place + bytes_in field.width) fields (drop (bytes_in field.width) bytes)
    else Some (record { fault = field.fault; place = place })
    else None

-- ---- the records of a kind

abbrev pub length_of_kind : ℕ → ℕ
length_of_kind kind = 16 + fields_length (fields_of_kind kind)
