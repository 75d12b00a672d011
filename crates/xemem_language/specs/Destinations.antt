-- The number that stands for a record's destination.
use Rattle.std.specs.Prelude.{ℕ, Option, Some, None, if◌then◌else◌, ◌==◌}
use Rattle.xm_num.specs.declared.Enclave.{Enclave}

-- 65535 stands for none
abbrev pub destination_number : Option Enclave → ℕ
destination_number None = 65535
destination_number (Some enclave) = enclave.0

abbrev pub destination_of : ℕ → Option Enclave
destination_of number = if number == 65535 then None else Some (record { 0 = number })
