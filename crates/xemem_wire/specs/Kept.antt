-- How a decoder keeps the bytes of its stream.
use Rattle.std.specs.Prelude.{◌≡◌, ℕ, ◌≤◌, true, Option, None, List, ◌++◌, length, take, drop, is_some, if◌then◌else◌}
use Rattle.xemem_wire.specs.declared.format.BadField.{BadField}
use Rattle.xemem_wire.specs.Faults.{fault_of}
use Rattle.xemem_wire.specs.Stream.{records_of, rest_of}
use Rattle.xemem_wire.specs.Decoding.{Decoding}

-- what these bytes are, where so many came before
abbrev pub decoded : List ℕ → ℕ → Option BadField → Decoding
decoded bytes before bad = record { records = records_of bytes; rest = rest_of bytes; before = before; bad = bad }

-- how a decoder keeps its bytes: the next record begins at given, and the rest at whole
pub record KeepsBytes (bytes : List ℕ) (given whole : ℕ) (bad : Option BadField) : Type 0 where
  pub order : given ≤ whole
  pub within : whole ≤ length bytes
  pub rest : rest_of (drop given bytes) ≡ drop whole bytes
  pub fine : fault_of (drop whole bytes) ≡ None
  pub stopped : is_some bad ≡ true → whole ≡ length bytes

-- a piece is taken behind the kept bytes: the rest begins at start, and is dropped where it has a bad field
pub record Takes (bytes piece new : List ℕ) (whole start : ℕ) (bad : Option BadField) : Type 0 where
  pub order : whole ≤ start
  pub within : start ≤ length (bytes ++ piece)
  pub rest : drop start (bytes ++ piece) ≡ rest_of (drop whole (bytes ++ piece))
  pub bad_is : bad ≡ fault_of (drop start (bytes ++ piece))
  pub new_is : new ≡ (if is_some bad then take start (bytes ++ piece) else (bytes ++ piece))
