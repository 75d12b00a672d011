-- The spelling of a record.
use Rattle.std.specs.Prelude.{ℕ, ◌≡◌, ◌+◌, ◌&&◌, Bool, true, List, [], ◌∷◌, ◌++◌, length}
use Rattle.std.specs.List.{AllByRecursion, flat_map}
use Rattle.std.specs.Int.{w16, w32, to_le_bytes}
use Rattle.xemem_language.specs.declared.record.Body.{Body}
use Rattle.xemem_language.specs.declared.record.Record.{Record}
use Rattle.xemem_wire.specs.Table.{kind_of, is_kind_built, is_enclave, is_destination, is_call}
use Rattle.xemem_wire.specs.Fields.{fields_of_kind, numbers_of, fields_spelling, are_allowed}
use Rattle.xemem_language.specs.Destinations.{destination_number}

-- length, version, kind, origin, destination, zero, call
unfoldable pub header_of : ℕ → Record → List ℕ
header_of length r =
    to_le_bytes w32 length ++ 1 ∷ kind_of r.body ∷ [] ++ to_le_bytes w16 r.origin.0
    ++ to_le_bytes w16 (destination_number r.dest) ++ to_le_bytes w16 0 ++ to_le_bytes w32 r.call

-- the fields of the kind with the numbers of the body
abbrev pub body_spelling : Body → List ℕ
body_spelling body = fields_spelling (fields_of_kind (kind_of body)) (numbers_of body)

-- the bytes of a record
unfoldable pub spelling_of : Record → List ℕ
spelling_of r = header_of (16 + length (body_spelling r.body)) r ++ body_spelling r.body

-- the kind is built, and each of its fields has a number that it may have
abbrev pub is_body : Body → Bool
is_body body = is_kind_built (kind_of body) && are_allowed (fields_of_kind (kind_of body)) (numbers_of body)

-- every number of the record is one that its field may have
unfoldable pub is_valid : Record → Bool
is_valid r =
    is_body r.body && is_enclave r.origin.0
    && is_destination (kind_of r.body) r.dest && is_call (kind_of r.body) r.call

abbrev pub AreValid : List Record → Type 0
AreValid rs = AllByRecursion (λ r. is_valid r ≡ true) rs

-- one spelling after the other
abbrev pub spellings_of : List Record → List ℕ
spellings_of rs = flat_map spelling_of rs
