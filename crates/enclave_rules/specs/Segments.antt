-- What an enclave writes for makes and removes, and for the records that serve them.
use Rattle.std.specs.Prelude.{◌+◌, ◌-◌, ◌/◌, ◌%◌, ℕ, List, [], ◌∷◌, Bool, ◌&&◌, ◌||◌, not, ◌==◌, nat_lt, if◌then◌else◌, Option, None, Some, is_none, true, false, map}
use Rattle.std.specs.List.{list_all, range_with_len}
use Rattle.std.specs.Option.{option_map_or}
use Rattle.xm_num.specs.declared.Cause.{Cause}
use Rattle.xm_num.specs.declared.Cause.TheVariants as causes
use Rattle.xm_num.specs.declared.Enclave.{Enclave}
use Rattle.xm_num.specs.declared.Page.{Page}
use Rattle.xm_num.specs.declared.Pid.{Pid}
use Rattle.xm_num.specs.declared.Segid.{Segid}
use Rattle.xm_num.specs.Rows.{at}
use Rattle.xm_num.specs.Sizes.{page_bytes, most_pages, last_page}
use Rattle.xemem_language.specs.declared.record.Record.{Record}
use Rattle.xemem_language.specs.declared.record.Body.TheVariants as bodies
use Rattle.xemem_language.specs.declared.line.Line.{Line}
use Rattle.xemem_language.specs.declared.line.Line.TheVariants as lines
use Rattle.attach_map.specs.declared.Pending.{Pending}
use Rattle.attach_map.specs.declared.Pending.TheVariants as pendings
use Rattle.attach_map.specs.declared.Waiting.{Waiting}
use Rattle.attach_map.specs.Attaching.{ProcessState}
use Rattle.exporter_pins.specs.Holdings.{Export, is_asked, live_export}
use Rattle.name_server.specs.Names.{has_name}
use Rattle.enclave_rules.specs.Hand.{Hand}
use Rattle.enclave_rules.specs.Memory.{is_busy}
use Rattle.enclave_rules.specs.Exports.{segid_number, is_segid}
use Rattle.enclave_rules.specs.Names.{can_draw, segid_of, next_segid}
use Rattle.enclave_rules.specs.View.{View, own_lines}
use Rattle.enclave_rules.specs.Sending.{Server, To, drop_lines, made_lines}

-- ---- records

abbrev pub name_request : Enclave → ℕ → Record
name_request e call = record { origin = e; dest = None; call = call; body = bodies.NameReq }

abbrev pub named_record : Enclave → Enclave → ℕ → Segid → Record
named_record e caller call segid = record { origin = e; dest = Some caller; call = call; body = bodies.Named segid }

abbrev pub unname_record : Enclave → ℕ → Segid → Record
unname_record e call segid = record { origin = e; dest = None; call = call; body = bodies.Unname segid }

-- ---- the reply to a make

abbrev pub is_make : Pending → Bool
is_make pendings.Make = true
is_make (pendings.Lookup segid access) = false
is_make (pendings.GetFrom owner segid access) = false

-- the call is a make of a living process that waits
abbrev pub is_waiting_make : Waiting → Bool
is_waiting_make waiting = waiting.living && is_make waiting.what

-- the make's reply counts: it waits, its export is asked, and no live one has the segid
abbrev pub takes_name : View → ℕ → Segid → Waiting → Bool
takes_name v call segid waiting =
    is_segid segid && (is_waiting_make waiting && (is_asked (at v.exports call) && is_none (live_export v.exports (segid_number segid))))

abbrev pub named_lines : View → ℕ → Segid → List Line
named_lines v call segid =
    option_map_or (λ waiting. if takes_name v call segid waiting
    then lines.Named v.me (record { 0 = call }) segid ∷ lines.AnswerSegid v.me waiting.pid (record { 0 = call }) segid ∷ []
    else drop_lines v)
    (at v.memory.waiting call) (drop_lines v)

-- ---- at the name server's enclave

-- the next segid is drawn for a make of that enclave
abbrev pub drew_line : View → Enclave → ℕ → Line
drew_line v caller call = lines.Drew caller (record { 0 = call }) (next_segid v.names)

-- it is told to another enclave by a record; there are more than can ever be drawn
abbrev pub name_lines : View → Enclave → ℕ → List Line
name_lines v caller call =
    if can_draw v.names then drew_line v caller call ∷ made_lines v (To caller) (named_record v.me caller call (next_segid v.names))
    else drop_lines v

-- the pair is forgotten, where it is there
abbrev pub unname_lines : View → Enclave → Segid → List Line
unname_lines v owner segid = if is_segid segid && has_name v.names (segid_number segid) owner then lines.Unnamed segid ∷ [] else drop_lines v

-- ---- makes

-- the first condition that holds of a region: its alignment, its size, its place
abbrev pub region_refusal : ℕ → ℕ → Option Cause
region_refusal addr size =
    if not (addr % page_bytes == 0) || not (size % page_bytes == 0) then Some causes.BadAlign
    else (if size == 0 then Some causes.BadRange
    else (if nat_lt most_pages (size / page_bytes) then Some causes.TooLarge
    else (if (addr / page_bytes == 0) || nat_lt last_page (addr / page_bytes + (size / page_bytes - 1)) then Some causes.BadRange
    else None)))

-- the page is an own one
abbrev pub is_own_page : List (ℕ × Page) → ℕ → Bool
is_own_page pages page = option_map_or (λ found. found.own) (at pages page) false

-- so many pages from that one on are own ones
abbrev pub are_own_pages : List (ℕ × Page) → ℕ → ℕ → Bool
are_own_pages pages page count = list_all (is_own_page pages) (range_with_len page count)

-- the condition on the pages comes after those on the region
abbrev pub make_refusal : ProcessState → ℕ → ℕ → Option Cause
make_refusal process addr size =
    option_map_or (λ cause. Some cause) (region_refusal addr size)
    (if are_own_pages process.pages (addr / page_bytes) (size / page_bytes) then None else Some causes.NotMapped)

-- the first condition that holds of any call but `alloc` and those behind it: the enclave isn't admitted, the process has a call that
-- waits
abbrev pub unready : View → Pid → Option Cause
unready v p = if not v.core.admitted then Some causes.NotReady else (if is_busy v.memory p.0 then Some causes.Busy else None)

abbrev pub issue_line : View → Pid → Line
issue_line v p = lines.Issue v.me p (record { 0 = v.memory.issued + 1 })

-- The call is issued. The holder of the name server names the segment itself, and another enclave asks for its name.
abbrev pub naming_lines : Hand → View → ℕ → List Line
naming_lines hand v call =
    if can_draw v.names then drew_line v v.me call ∷ named_lines (own_lines hand v (drew_line v v.me call ∷ [])) call (next_segid v.names)
    else drop_lines v

abbrev pub asking_lines : Hand → View → ℕ → List Line
asking_lines hand v call =
    if v.core.holder then naming_lines hand v call else made_lines v Server (name_request v.me call)

abbrev pub make_acts : Hand → View → Pid → List Line
make_acts hand v p = issue_line v p ∷ asking_lines hand (own_lines hand v (issue_line v p ∷ [])) (v.memory.issued + 1)

-- ---- removes

-- the first condition that holds of a remove: no such live segment, another process's
abbrev pub remove_refusal : View → Pid → Segid → Option Cause
remove_refusal v p segid =
    option_map_or (λ row. if row.1.pid == p.0 then None else Some causes.NotOwner) (live_export v.exports (segid_number segid)) (Some causes.NoSegment)

-- the call of the make of a live segment
abbrev pub make_of : List (ℕ × Export) → ℕ → ℕ
make_of exports segid = option_map_or (λ row. row.0) (live_export exports segid) 0

-- The segment ends. The holder of the name server forgets its name, and another enclave tells it.
abbrev pub remove_acts : View → Segid → List Line
remove_acts v segid =
    lines.Remove v.me segid
    ∷ (if v.core.holder then unname_lines v v.me segid
    else made_lines v Server (unname_record v.me (make_of v.exports (segid_number segid)) segid))

-- ---- what is shown

-- the names, ascending
abbrev pub name_rows : List (ℕ × Enclave) → List Line
name_rows pairs = map (λ row. lines.Name (segid_of row.0) row.1) pairs
