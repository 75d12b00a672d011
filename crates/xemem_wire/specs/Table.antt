-- The kinds of record, the numbers in their fields and which of these are allowed.
use Rattle.std.specs.Prelude.{ℕ, ◌+◌, ◌*◌, ◌^◌, ◌==◌, ◌&&◌, not, nat_le, nat_lt, Bool, Option, Some, None, List, [], ◌∷◌, slice_index, if◌then◌else◌}
use Rattle.std.specs.List.{list_any}
use Rattle.xm_num.specs.declared.Enclave.{Enclave}
use Rattle.xemem_language.specs.declared.record.Body.{Body}
use Rattle.xemem_language.specs.declared.record.Body.TheVariants as bodies

-- the number of a kind
abbrev pub kind_of : Body → ℕ
kind_of bodies.Query = 1
kind_of bodies.Here = 2
kind_of bodies.Register = 3
kind_of bodies.Admit = 4
kind_of bodies.NameReq = 5
kind_of (bodies.Named segid) = 6
kind_of (bodies.Unname segid) = 7
kind_of (bodies.Lookup segid) = 8
kind_of (bodies.Found segid owner) = 9
kind_of (bodies.Get segid flags uid gid) = 10
kind_of (bodies.Granted pages) = 11
kind_of (bodies.GetRefused cause) = 12
kind_of (bodies.Release apid) = 13
kind_of (bodies.Attach apid offset pages) = 14
kind_of (bodies.Attached frames) = 15
kind_of (bodies.AttachRefused cause) = 16
kind_of bodies.Detach = 17
kind_of (bodies.Died enclave) = 18
kind_of (bodies.Dead enclave) = 19
kind_of (bodies.Confirm enclave) = 20

-- the kinds that are built
abbrev pub is_kind_built : ℕ → Bool
is_kind_built kind = nat_le 1 kind && nat_le kind 13

-- the kinds that name no destination: they go to the neighbour, to the name server or to the host
abbrev pub is_undirected : ℕ → Bool
is_undirected kind = list_any (λ other. kind == other) (1 ∷ 2 ∷ 3 ∷ 5 ∷ 7 ∷ 8 ∷ 18 ∷ 20 ∷ [])

-- the kinds that serve a call
abbrev pub has_call : ℕ → Bool
has_call kind = nat_le 5 kind && nat_le kind 17

abbrev pub is_enclave : ℕ → Bool
is_enclave number = nat_le number 255

-- where a record of that kind may go; None stands for 65535
abbrev pub is_destination : ℕ → Option Enclave → Bool
is_destination kind None = is_undirected kind
is_destination kind (Some enclave) = not (is_undirected kind) && is_enclave enclave.0

-- the call that a record of that kind may carry
abbrev pub is_call : ℕ → ℕ → Bool
is_call kind call = if has_call kind then nat_le 1 call && nat_lt call (2 ^ 32) else (call == 0)

-- the numbers of one, two and four bytes from a place on, the lowest byte first
abbrev pub u8_at : List ℕ → ℕ → ℕ
u8_at bytes place = slice_index bytes place

abbrev pub u16_at : List ℕ → ℕ → ℕ
u16_at bytes place = slice_index bytes place + slice_index bytes (place + 1) * 256

abbrev pub u32_at : List ℕ → ℕ → ℕ
u32_at bytes place = u16_at bytes place + u16_at bytes (place + 2) * 65536
