-- The processes of an enclave, its waiting calls and its permits.
use Rattle.std.specs.Prelude.{◌+◌, ◌==◌, ◌&&◌, ℕ, ℤ, pos, negsuc, List, [], ◌∷◌, map, Bool, true, false, nat_le, Option, None, Some, option_map, if◌then◌else◌}
use Rattle.std.specs.List.{find}
use Rattle.std.specs.Option.{option_map_or}
use Rattle.xm_num.specs.declared.Page.{Page}
use Rattle.xm_num.specs.declared.Pid.{Pid}
use Rattle.xm_num.specs.declared.Enclave.{Enclave}
use Rattle.xm_num.specs.declared.Apid.{Apid}
use Rattle.xm_num.specs.Rows.{at, put, less}
use Rattle.attach_map.specs.declared.Pending.{Pending}
use Rattle.attach_map.specs.declared.Pending.TheVariants.{Make, Lookup, GetFrom}
use Rattle.attach_map.specs.declared.Waiting.{Waiting}
use Rattle.attach_map.specs.declared.Permit.{Permit}
use Rattle.attach_map.specs.declared.Holder.{Holder}
use Rattle.attach_map.specs.declared.Holder.TheVariants as holders

-- user, group and pages, ascending
pub record ProcessState : Type 0 where
  pub uid : ℕ
  pub gid : ℕ
  pub pages : List (ℕ × Page)

-- a permit, and the process that holds it
pub record PermitState : Type 0 where
  pub pid : ℕ
  pub permit : Permit

-- how many processes were started and those that live, by their numbers; how many calls were issued, and those that wait, by their numbers;
-- the permits that are held, by the numbers of the calls that got them
pub record AttacherState : Type 0 where
  pub started : ℕ
  pub processes : List (ℕ × ProcessState)
  pub issued : ℕ
  pub waiting : List (ℕ × Waiting)
  pub permits : List (ℕ × PermitState)

abbrev pub nothing_started : AttacherState
nothing_started = record { started = 0; processes = []; issued = 0; waiting = []; permits = [] }

abbrev pub fresh_process : ℕ → ℕ → ProcessState
fresh_process uid gid = record { uid = uid; gid = gid; pages = [] }

-- the next process is started, with nothing mapped
abbrev pub process_started : AttacherState → ℕ → ℕ → AttacherState
process_started s uid gid = record s { started = s.started + 1; processes = put s.processes (s.started + 1) (fresh_process uid gid) }

-- the pages of a living process
abbrev pub pages_in : AttacherState → ℕ → List (ℕ × Page)
pages_in s pid = option_map_or (λ process. process.pages) (at s.processes pid) []

-- a living process has these pages
abbrev pub with_pages_in : AttacherState → ℕ → List (ℕ × Page) → AttacherState
with_pages_in s pid pages = option_map_or (λ process. record s { processes = put s.processes pid (record process { pages = pages }) }) (at s.processes pid) s

-- the waiting call of a process that lives
abbrev pub waiting_call_of : List (ℕ × Waiting) → ℕ → Option ℕ
waiting_call_of [] p = None
waiting_call_of (row ∷ rows) p = if row.1.living && (row.1.pid.0 == p) then Some row.0 else waiting_call_of rows p

-- the next call is issued, by a process that lives
abbrev pub call_issued : AttacherState → Pid → Pending → AttacherState
call_issued s pid what = record s { issued = s.issued + 1; waiting = put s.waiting (s.issued + 1) (record { call = record { 0 = s.issued + 1 }; pid = pid; living = true; what = what }) }

-- what waits for a permit of that owner
abbrev pub gets_from : Enclave → Pending → Bool
gets_from owner Make = false
gets_from owner (Lookup segid access) = false
gets_from owner (GetFrom from segid access) = from.0 == owner.0

-- the least call from a number on that waits for a permit of that owner
abbrev pub next_get : List (ℕ × Waiting) → Enclave → ℕ → Option ℕ
next_get rows owner from = option_map (λ row. row.0) (find (λ row. nat_le from row.0 && gets_from owner row.1.what) rows)

-- what waits for the owner of a segment
abbrev pub is_lookup : Pending → Bool
is_lookup Make = false
is_lookup (Lookup segid access) = true
is_lookup (GetFrom owner segid access) = false

abbrev pub looks_up : Option Waiting → Bool
looks_up None = false
looks_up (Some w) = is_lookup w.what

-- the owner of a segment is known, of which a permit is then wanted
abbrev pub to_owner : Enclave → Pending → Pending
to_owner owner Make = Make
to_owner owner (Lookup segid access) = GetFrom owner segid access
to_owner owner (GetFrom other segid access) = GetFrom other segid access

abbrev pub with_owner : Enclave → Waiting → Waiting
with_owner owner w = record w { what = to_owner owner w.what }

abbrev pub owner_found : AttacherState → ℕ → Enclave → AttacherState
owner_found s call owner = option_map_or (λ w. record s { waiting = put s.waiting call (with_owner owner w) }) (at s.waiting call) s

-- a call ends without effect
abbrev pub call_settled : AttacherState → ℕ → AttacherState
call_settled s call = record s { waiting = less s.waiting call }

-- a call of a living process that waits for a permit
abbrev pub is_get : Pending → Bool
is_get Make = false
is_get (Lookup segid access) = false
is_get (GetFrom owner segid access) = true

abbrev pub awaits_permit : Option Waiting → Bool
awaits_permit None = false
awaits_permit (Some w) = w.living && is_get w.what

-- the permit that is waited for, with so many pages
abbrev pub wanted_permit : Pending → ℕ → Option Permit
wanted_permit Make pages = None
wanted_permit (Lookup segid access) pages = None
wanted_permit (GetFrom owner segid access) pages = Some (record { owner = owner; segid = segid; access = access; pages = pages })

-- a call waits no more, and its process has this permit under its number
abbrev pub with_permit : AttacherState → ℕ → ℕ → Permit → AttacherState
with_permit s call pid permit = record s { waiting = less s.waiting call; permits = put s.permits call (record { pid = pid; permit = permit }) }

-- the permit for which a call waits is granted, with so many pages
abbrev pub permit_granted : AttacherState → ℕ → ℕ → AttacherState
permit_granted s call pages = option_map_or (λ w. option_map_or (with_permit s call w.pid.0) (wanted_permit w.what pages) s) (at s.waiting call) s

-- the permit of a name; a name below 0 has none
abbrev pub permit_at : List (ℕ × PermitState) → ℤ → Option PermitState
permit_at rows (pos n) = at rows n
permit_at rows (negsuc n) = None

-- a permit, where that process holds it
abbrev pub held_by : ℕ → Option PermitState → Option Permit
held_by pid None = None
held_by pid (Some held) = if held.pid == pid then Some held.permit else None

-- the name is that number
abbrev pub is_named : ℤ → ℕ → Bool
is_named (pos n) k = n == k
is_named (negsuc n) k = false

-- the permit is one of a process, the one of that name, or one from an owner
abbrev pub is_of : Holder → ℕ × PermitState → Bool
is_of (holders.Process pid) row = row.1.pid == pid.0
is_of (holders.Permit apid) row = is_named apid.0 row.0
is_of (holders.Owner owner) row = row.1.permit.owner.0 == owner.0

-- the least of these permits
abbrev pub lowest_permit : List (ℕ × PermitState) → Holder → Option ℕ
lowest_permit rows of = option_map (λ row. row.0) (find (is_of of) rows)

abbrev pub apid_numbered : ℕ → Apid
apid_numbered n = record { 0 = pos n }

-- a permit is held no more
abbrev pub permit_released : AttacherState → ℕ → AttacherState
permit_released s apid = record s { permits = less s.permits apid }

-- a call that waits on, for no one
abbrev pub orphaned : Waiting → Waiting
orphaned w = record w { living = false }

-- a process ends, and its calls with no effect to come
abbrev pub process_ended : AttacherState → ℕ → AttacherState
process_ended s pid = record s {
  processes = less s.processes pid;
  waiting = map (λ row. (row.0, if row.1.pid.0 == pid then orphaned row.1 else row.1)) s.waiting;
}
