-- What an enclave writes for gets and releases, and for the records that serve them. Where a record's goal is the enclave itself, none
-- is sent, and what would be written for it follows at once.
use Rattle.std.specs.Prelude.{ℕ, List, [], ◌∷◌, length, ◌==◌, if◌then◌else◌, Option, None, Some, is_some}
use Rattle.std.specs.Option.{option_map_or}
use Rattle.xm_num.specs.declared.Access.{Access}
use Rattle.xm_num.specs.declared.Cause.{Cause}
use Rattle.xm_num.specs.declared.Cause.TheVariants as causes
use Rattle.xm_num.specs.declared.Enclave.{Enclave}
use Rattle.xm_num.specs.declared.Segid.{Segid}
use Rattle.xm_num.specs.Causes.{number_of}
use Rattle.holder_table.specs.Holding.{held}
use Rattle.xemem_language.specs.declared.record.Record.{Record}
use Rattle.xemem_language.specs.declared.record.Body.TheVariants as bodies
use Rattle.xemem_language.specs.declared.line.Line.{Line}
use Rattle.xemem_language.specs.declared.line.Line.TheVariants as lines
use Rattle.attach_map.specs.Attaching.{apid_numbered}
use Rattle.exporter_pins.specs.Holdings.{Export, is_permitted, live_export}
use Rattle.enclave_rules.specs.Hand.{Hand}
use Rattle.enclave_rules.specs.Exports.{segid_number}
use Rattle.enclave_rules.specs.Permits.{getter}
use Rattle.enclave_rules.specs.View.{View, own_lines}
use Rattle.enclave_rules.specs.Sending.{To, drop_lines, made_lines}

-- ---- records

abbrev pub granted_record : Enclave → Enclave → ℕ → ℕ → Record
granted_record e caller call pages = record { origin = e; dest = Some caller; call = call; body = bodies.Granted pages }

abbrev pub refused_record : Enclave → Enclave → ℕ → Cause → Record
refused_record e caller call cause = record { origin = e; dest = Some caller; call = call; body = bodies.GetRefused (number_of cause) }

abbrev pub release_record : Enclave → Enclave → ℕ → Record
release_record e owner call = record { origin = e; dest = Some owner; call = call; body = bodies.Release (apid_numbered call) }

-- ---- at the caller: the owner's reply, which counts where the get waits for that owner

-- the get is answered, and its process holds the permit
abbrev pub granted_lines : View → ℕ → Enclave → ℕ → List Line
granted_lines v call from pages =
    option_map_or (λ w. lines.AnswerApid v.me w.pid (record { 0 = call }) (apid_numbered call) pages ∷ []) (getter v.memory call from) (drop_lines v)

abbrev pub refused_lines : View → ℕ → Enclave → Cause → List Line
refused_lines v call from cause =
    option_map_or (λ w. lines.AnswerRefused v.me w.pid (record { 0 = call }) cause ∷ []) (getter v.memory call from) (drop_lines v)

-- ---- at the owner of the segment

-- why a get isn't granted: no such live segment, or the user may not have the access
abbrev pub get_refusal : List (ℕ × Export) → Segid → ℕ → ℕ → Access → Option Cause
get_refusal exports segid uid gid access =
    option_map_or (λ row. if is_permitted uid gid access row.1 then None else Some causes.Denied) (live_export exports (segid_number segid)) (Some causes.NoSegment)

-- how many pages the live segment has
abbrev pub segment_pages : List (ℕ × Export) → Segid → ℕ
segment_pages exports segid = option_map_or (λ row. length row.1.frames) (live_export exports (segid_number segid)) 0

-- the reply
abbrev pub granting_lines : View → Enclave → ℕ → ℕ → List Line
granting_lines v caller call pages =
    if caller.0 == v.me.0 then granted_lines v call v.me pages else made_lines v (To caller) (granted_record v.me caller call pages)

abbrev pub refusing_lines : View → Enclave → ℕ → Cause → List Line
refusing_lines v caller call cause =
    if caller.0 == v.me.0 then refused_lines v call v.me cause else made_lines v (To caller) (refused_record v.me caller call cause)

abbrev pub grant_line : View → Enclave → ℕ → Segid → Access → Line
grant_line v caller call segid access = lines.Grant v.me caller (record { 0 = call }) segid access

abbrev pub grant_lines : Hand → View → Enclave → ℕ → Segid → Access → List Line
grant_lines hand v caller call segid access =
    grant_line v caller call segid access
    ∷ granting_lines (own_lines hand v (grant_line v caller call segid access ∷ [])) caller call (segment_pages v.exports segid)

abbrev pub deny_lines : View → Enclave → ℕ → Cause → List Line
deny_lines v caller call cause = lines.Deny v.me caller (record { 0 = call }) cause ∷ refusing_lines v caller call cause

-- a get whose grant stands already is dropped
abbrev pub get_lines : Hand → View → Enclave → ℕ → Segid → Access → ℕ → ℕ → List Line
get_lines hand v caller call segid access uid gid =
    if is_some (held v.grants caller.0 call) then drop_lines v
    else option_map_or (deny_lines v caller call) (get_refusal v.exports segid uid gid access) (grant_lines hand v caller call segid access)

-- a grant is taken back, where it stands
abbrev pub ungrant_lines : View → Enclave → ℕ → List Line
ungrant_lines v caller call = if is_some (held v.grants caller.0 call) then lines.Ungrant v.me caller (record { 0 = call }) ∷ [] else drop_lines v

-- ---- releases

-- The permit ends. Its owner takes the grant back, at once where it is the enclave itself.
abbrev pub release_acts : Hand → View → Enclave → ℕ → List Line
release_acts hand v owner call =
    lines.Release v.me (record { 0 = call })
    ∷ (if owner.0 == v.me.0 then ungrant_lines v v.me call else made_lines v (To owner) (release_record v.me owner call))
