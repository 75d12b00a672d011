-- Gets that wait: for the name server to tell the owner of their segment, and then for that owner.
use Rattle.std.specs.Prelude.{ℕ, Bool, false, ◌&&◌, if◌then◌else◌, Option, None, Some}
use Rattle.std.specs.Option.{option_map_or}
use Rattle.std.specs.Ordering.{int_eq}
use Rattle.xm_num.specs.declared.Enclave.{Enclave}
use Rattle.xm_num.specs.declared.Segid.{Segid}
use Rattle.xm_num.specs.Rows.{at}
use Rattle.attach_map.specs.declared.Pending.{Pending}
use Rattle.attach_map.specs.declared.Pending.TheVariants as pendings
use Rattle.attach_map.specs.declared.Waiting.{Waiting}
use Rattle.attach_map.specs.Attaching.{AttacherState, gets_from}

-- it is a get of the segment that waits for the name server
abbrev pub looks_for : Segid → Pending → Bool
looks_for segid pendings.Make = false
looks_for segid (pendings.Lookup other access) = int_eq other.0 segid.0
looks_for segid (pendings.GetFrom owner other access) = false

-- the call of that number, where it waits for that and its process lives
abbrev pub waiting_for : (Pending → Bool) → AttacherState → ℕ → Option Waiting
waiting_for test m call = option_map_or (λ w. if w.living && test w.what then Some w else None) (at m.waiting call) None

-- the get that looks for the segment
abbrev pub seeker : AttacherState → ℕ → Segid → Option Waiting
seeker m call segid = waiting_for (looks_for segid) m call

-- the get that waits for the owner
abbrev pub getter : AttacherState → ℕ → Enclave → Option Waiting
getter m call owner = waiting_for (gets_from owner) m call
