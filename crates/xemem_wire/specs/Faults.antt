-- The fields of a record in the order in which their last bytes come, and the first of them that isn't allowed.
use Rattle.std.specs.Prelude.{ℕ, ◌==◌, ◌&&◌, not, nat_le, Bool, Option, Some, None, List, [], ◌∷◌, length, take, drop, if◌then◌else◌}
use Rattle.std.specs.Option.{option_or}
use Rattle.xemem_wire.specs.declared.format.WireFault.{WireFault}
use Rattle.xemem_wire.specs.declared.format.WireFault.TheVariants as faults
use Rattle.xemem_wire.specs.declared.format.BadField.{BadField}
use Rattle.xemem_wire.specs.Table.{is_kind_built, is_enclave, is_destination, is_call, u8_at, u16_at, u32_at}
use Rattle.xemem_wire.specs.Fields.{fields_of_kind, length_of_kind, fields_fault}
use Rattle.xemem_language.specs.Destinations.{destination_of}

-- a field of the header is judged as soon as that many bytes of the record are there, by these bytes
pub record Check : Type 0 where
  pub needs : ℕ
  pub place : ℕ
  pub fault : WireFault
  pub is_met : List ℕ → Bool

abbrev pub kind_at : List ℕ → ℕ
kind_at front = u8_at front 5

-- the length is judged twice: for its range, and for the kind once that is there
abbrev pub range_check : Check
range_check = record {
  needs = 4;
  place = 0;
  fault = faults.Length;
  is_met = λ front. nat_le 16 (u32_at front 0) && nat_le (u32_at front 0) 16404;
}

abbrev pub version_check : Check
version_check = record { needs = 5; place = 4; fault = faults.Version; is_met = λ front. u8_at front 4 == 1 }

abbrev pub kind_check : Check
kind_check = record { needs = 6; place = 5; fault = faults.Kind; is_met = λ front. is_kind_built (kind_at front) }

abbrev pub kind_length_check : Check
kind_length_check = record {
  needs = 6;
  place = 0;
  fault = faults.Length;
  is_met = λ front. u32_at front 0 == length_of_kind (kind_at front);
}

abbrev pub origin_check : Check
origin_check = record { needs = 8; place = 6; fault = faults.Field; is_met = λ front. is_enclave (u16_at front 6) }

abbrev pub destination_check : Check
destination_check = record {
  needs = 10;
  place = 8;
  fault = faults.Field;
  is_met = λ front. is_destination (kind_at front) (destination_of (u16_at front 8));
}

abbrev pub zero_check : Check
zero_check = record { needs = 12; place = 10; fault = faults.Zero; is_met = λ front. u16_at front 10 == 0 }

abbrev pub call_check : Check
call_check = record { needs = 16; place = 12; fault = faults.Field; is_met = λ front. is_call (kind_at front) (u32_at front 12) }

-- in the order in which they are judged
abbrev pub header_checks : List Check
header_checks =
    range_check ∷ version_check ∷ kind_check ∷ kind_length_check ∷ origin_check ∷ destination_check ∷ zero_check
    ∷ call_check ∷ []

-- the field is there and isn't allowed
abbrev pub is_failed : List ℕ → Check → Bool
is_failed bytes c = nat_le c.needs (length bytes) && not (c.is_met (take c.needs bytes))

unfoldable pub first_failed : List Check → List ℕ → Option BadField
first_failed [] bytes = None
first_failed (c ∷ cs) bytes =
    if is_failed bytes c then Some (record { fault = c.fault; place = c.place }) else first_failed cs bytes

-- the first bad field of the record that these bytes begin: one of the header, or one of the kind's own
unfoldable pub fault_of : List ℕ → Option BadField
fault_of bytes =
    option_or (first_failed header_checks bytes) (fields_fault 16 (fields_of_kind (kind_at bytes)) (drop 16 bytes))
