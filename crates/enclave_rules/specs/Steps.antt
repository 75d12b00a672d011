-- What an enclave writes, for a record or for a call: a function of its view and of the record or the call alone.
use Rattle.std.specs.Prelude.{zero, suc, drop, ◌+◌, ◌/◌, ℕ, List, [], ◌∷◌, ◌++◌, length, take, map, Bool, ◌||◌, ◌==◌, nat_lt, if◌then◌else◌, Option, None, Some, false, Result, Ok, Err}
use Rattle.std.specs.List.{list_any, range_with_len, flat_map}
use Rattle.std.specs.Option.{option_map_or}
use Rattle.xm_num.specs.declared.Enclave.{Enclave}
use Rattle.xm_num.specs.declared.Pid.{Pid}
use Rattle.xm_num.specs.declared.Segid.{Segid}
use Rattle.xm_num.specs.declared.Vpn.{Vpn}
use Rattle.xm_num.specs.declared.Frame.{Frame}
use Rattle.xm_num.specs.declared.Block.{Block}
use Rattle.xm_num.specs.declared.Kind.{Kind}
use Rattle.xm_num.specs.declared.Kind.TheVariants as kinds
use Rattle.xm_num.specs.declared.Page.{Page}
use Rattle.xm_num.specs.declared.Want.{Want}
use Rattle.xm_num.specs.declared.Cause.{Cause}
use Rattle.xm_num.specs.declared.Cause.TheVariants as causes
use Rattle.xm_num.specs.Rows.{at, less, any_between}
use Rattle.frame_pool.specs.declared.BlockState.{BlockState}
use Rattle.frame_pool.specs.declared.BlockState.TheVariants as states
use Rattle.xemem_language.specs.declared.record.Record.{Record}
use Rattle.xemem_language.specs.declared.record.Body.{Body}
use Rattle.xemem_language.specs.declared.record.Body.TheVariants as bodies
use Rattle.xemem_language.specs.declared.line.Line.{Line}
use Rattle.xemem_language.specs.declared.line.Line.TheVariants as lines
use Rattle.enclave_rules.specs.Pages.{allows}
use Rattle.enclave_rules.specs.Core.{host}
use Rattle.enclave_rules.specs.Ways.{place_among}
use Rattle.attach_map.specs.Attaching.{ProcessState}
use Rattle.enclave_rules.specs.Memory.{is_busy, unused}
use Rattle.enclave_rules.specs.Hand.{Reads}
use Rattle.enclave_rules.specs.View.{View, own_lines}
use Rattle.enclave_rules.specs.Sending.{Next, Server, To, knows_way, drop_lines, send_lines}
use Rattle.enclave_rules.specs.Segments.{name_lines, named_lines, unname_lines}

abbrev pub refusal : Cause → List Line
refusal cause = lines.Refused cause ∷ []

-- ---- births

-- a child without the name server asks its parent for the way
abbrev pub query_of : Enclave → Record
query_of e = record { origin = e; dest = None; call = 0; body = bodies.Query }

abbrev pub child_lines : Enclave → Enclave → Bool → List Line
child_lines child parent ns = if ns then lines.Admitted child ∷ [] else lines.Sent child parent (query_of child) ∷ []

-- it is born knowing the deaths of which its parent heard
abbrev pub told_lines : Enclave → List Enclave → List Line
told_lines child heard = map (λ d. lines.Told child d) heard

-- what an enclave writes at its birth
abbrev pub birth_lines : Enclave → Kind → Enclave → List Block → Bool → List Enclave → List Line
birth_lines child kind parent blocks ns heard = lines.Born child kind parent ns blocks ∷ told_lines child heard ++ child_lines child parent ns

abbrev pub host_lines : List Block → Bool → List Line
host_lines blocks ns = lines.Born host kinds.Host host ns blocks ∷ (if ns then lines.Admitted host ∷ [] else [])

-- a parent that doesn't know the way asks the child
abbrev pub adopt_lines : View → Enclave → List Line
adopt_lines v child = if knows_way v then [] else send_lines v None (Next child) (query_of v.me)

-- ---- records

abbrev pub here_of : Enclave → Record
here_of e = record { origin = e; dest = None; call = 0; body = bodies.Here }

abbrev pub register_of : Enclave → Record
register_of e = record { origin = e; dest = None; call = 0; body = bodies.Register }

abbrev pub admit_of : Enclave → Enclave → Record
admit_of e d = record { origin = e; dest = Some d; call = 0; body = bodies.Admit }

-- a query is answered where the way is known, and else its sender is remembered
abbrev pub query_lines : View → Enclave → List Line
query_lines v from = if knows_way v then send_lines v None (Next from) (here_of v.me) else lines.Asked v.me from ∷ []

-- those that asked are told, in their order
abbrev pub told_askers : View → List (ℕ × Enclave) → List Line
told_askers v askers = flat_map (λ row. send_lines v None (Next row.1) (here_of v.me)) askers

-- The first here fixes the way. The enclave tells those that asked, but not the one that told it, and registers over the way.
abbrev pub here_lines : View → Enclave → List Line
here_lines v from =
    if knows_way v then drop_lines v
    else lines.Way v.me from ∷ told_askers v (less v.ways.askers (place_among v.core.parent from)) ++ send_lines v None (Next from) (register_of v.me)

-- Who takes a register remembers the way back. The holder of the name server learns it as the route and admits over it, and
-- another enclave passes the register on toward the name server.
abbrev pub register_lines : View → Enclave → Record → List Line
register_lines v from r =
    lines.Back v.me r.origin from
    ∷ (if v.core.holder then lines.Route v.me r.origin from ∷ send_lines v None (Next from) (admit_of v.me r.origin)
    else send_lines v (Some from) Server r)

-- an admit for another enclave goes over the way back to it, which becomes the route
abbrev pub admit_over : View → Enclave → Enclave → Record → Option Enclave → List Line
admit_over v from d r None = drop_lines v
admit_over v from d r (Some over) = lines.Route v.me d over ∷ send_lines v (Some from) (Next over) r

-- an admit for the enclave itself makes it ready
abbrev pub admit_to : View → Enclave → Record → Option Enclave → List Line
admit_to v from r None = drop_lines v
admit_to v from r (Some d) =
    if d.0 == v.me.0 then (if v.core.admitted then drop_lines v else lines.Admitted v.me ∷ [])
    else admit_over v from d r (at v.ways.backs d.0)

-- the holder of the name server draws a segid, and another enclave passes the request on toward it
abbrev pub name_request_lines : View → Enclave → Record → List Line
name_request_lines v from r = if v.core.holder then name_lines v r.origin r.call else send_lines v (Some from) Server r

-- the name of a segment is taken by the enclave that asked for it, and passed on toward it by another
abbrev pub named_to : View → Enclave → Record → Segid → Option Enclave → List Line
named_to v from r segid None = drop_lines v
named_to v from r segid (Some d) = if d.0 == v.me.0 then named_lines v r.call segid else send_lines v (Some from) (To d) r

-- the holder of the name server forgets a name of that owner, and another enclave passes the record on toward it
abbrev pub unname_to : View → Enclave → Record → Segid → List Line
unname_to v from r segid = if v.core.holder then unname_lines v r.origin segid else send_lines v (Some from) Server r

abbrev pub body_lines : View → Enclave → Record → Body → List Line
body_lines v from r bodies.Query = query_lines v from
body_lines v from r bodies.Here = here_lines v from
body_lines v from r bodies.Register = register_lines v from r
body_lines v from r bodies.Admit = admit_to v from r r.dest
body_lines v from r bodies.NameReq = name_request_lines v from r
body_lines v from r (bodies.Named segid) = named_to v from r segid r.dest
body_lines v from r (bodies.Unname segid) = unname_to v from r segid
body_lines v from r body = drop_lines v

abbrev pub knows_dead : View → Enclave → Bool
knows_dead v e = list_any (λ d. d.0 == e.0) v.core.heard

-- a record that comes back to its origin, and one from or to an enclave that was heard dead
abbrev pub is_stray : View → Record → Bool
is_stray v r = (r.origin.0 == v.me.0) || knows_dead v r.origin || option_map_or (knows_dead v) r.dest false

abbrev pub record_lines : View → Enclave → Record → List Line
record_lines v from r = if is_stray v r then drop_lines v else body_lines v from r r.body

-- the lines of a record that comes from a neighbour
abbrev pub handled_lines : View → Enclave → Record → List Line
handled_lines v from r = lines.Got from v.me ∷ record_lines v from r

-- the view after them, the record being at hand
abbrev pub after_record : View → Enclave → Record → View
after_record v from r = own_lines (Reads r) v (handled_lines v from r)

-- records that come one after the other, each handled by the view after the lines before it
abbrev pub lines_of_records : View → Enclave → List Record → List Line
lines_of_records v from [] = []
lines_of_records v from (r ∷ rs) = handled_lines v from r ++ lines_of_records (after_record v from r) from rs

abbrev pub after_records : View → Enclave → List Record → View
after_records v from [] = v
after_records v from (r ∷ rs) = after_records (after_record v from r) from rs

-- ---- calls of processes

-- the process of that number, where it lives
abbrev pub process_at : View → Pid → Option ProcessState
process_at v p = at v.memory.processes p.0

abbrev pub start_lines : View → ℕ → ℕ → List Line
start_lines v uid gid = lines.Proc v.me (record { 0 = v.memory.started + 1 }) uid gid ∷ []

-- the frames that the enclave can hand out, the lowest first
abbrev pub unused_in : View → List Frame
unused_in v = unused v.core.blocks v.memory v.exports

-- the lowest unused frames become own pages, unless a call of the process waits, a page lies past the last one, is taken, or the
-- frames don't reach
abbrev pub own_lines_of : View → Pid → Vpn → ℕ → List (ℕ × Page) → List Line
own_lines_of v p page count rows =
    if is_busy v.memory p.0 then refusal causes.Busy
    else (if nat_lt 16777216 (page.0 + count) then refusal causes.BadRange
    else (if any_between rows page.0 (page.0 + count) then refusal causes.Taken
    else (if nat_lt (length (unused_in v)) count then refusal causes.NoFrames
    else lines.Alloc v.me p page (take count (unused_in v)) ∷ [])))

abbrev pub alloc_lines : View → Pid → Vpn → ℕ → List Line
alloc_lines v p page count = option_map_or (λ process. own_lines_of v p page count process.pages) (process_at v p) (refusal causes.NoProcess)

-- what a touch finds: a page and its frame, or the cause of its refusal
abbrev pub page_answer : Want → Vpn → Option Page → Result (Vpn × Frame) Cause
page_answer want page None = Err causes.NotMapped
page_answer want page (Some found) = if allows found.access want then Ok (page, found.frame) else Err causes.Denied

abbrev pub touch_answer : View → Pid → ℕ → Want → Result (Vpn × Frame) Cause
touch_answer v p addr want = option_map_or (λ process. page_answer want (record { 0 = addr / 4096 }) (at process.pages (addr / 4096))) (process_at v p) (Err causes.NoProcess)

abbrev pub answer_lines : Enclave → Pid → Result (Vpn × Frame) Cause → List Line
answer_lines e p (Ok found) = lines.Touched e p found.0 found.1 ∷ []
answer_lines e p (Err cause) = refusal cause

-- ---- routes

abbrev pub way_line : View → Line
way_line v = if v.core.holder then lines.AtWayOwn v.me else option_map_or (λ over. lines.AtWay v.me over) v.ways.way (lines.AtWayNone v.me)

-- the way to the name server, and the learned routes, ascending
abbrev pub route_lines : View → List Line
route_lines v = way_line v ∷ map (λ row. lines.AtRoute v.me (record { 0 = row.0 }) row.1) v.ways.routes

-- ---- waiting bytes

-- the bytes from that one on, 32 a line, in at most so many lines
abbrev pub bytes_lines : Enclave → Enclave → ℕ → ℕ → List ℕ → List Line
bytes_lines x y zero at bytes = []
bytes_lines x y (suc most) at [] = []
bytes_lines x y (suc most) at (byte ∷ bytes) =
    lines.Bytes x y at (take 32 (byte ∷ bytes)) ∷ bytes_lines x y most (at + 32) (drop 32 (byte ∷ bytes))

-- ---- the pool

abbrev pub state_line : ℕ → BlockState → Line
state_line b states.Free = lines.BlockFree (record { 0 = b })
state_line b (states.Lent e) = lines.BlockLent (record { 0 = b }) e
state_line b (states.Held e) = lines.BlockHeld (record { 0 = b }) e

-- the state of each block, from that number on
abbrev pub state_lines : ℕ → List BlockState → List Line
state_lines b [] = []
state_lines b (s ∷ ss) = state_line b s ∷ state_lines (b + 1) ss

-- so many blocks from the first one on
abbrev pub first_blocks : ℕ → List Block
first_blocks count = map (λ b. record { 0 = b }) (range_with_len 0 count)
