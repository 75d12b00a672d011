-- The lines of calls are an enclave's own, and those that show something change nothing.
use Rattle.std.proofs.Common.{◌≡◌, ◌+◌, ◌==◌, ℕ, List, [], ◌∷◌, length, map, Bool, true, false, cond, ltb, nat_lt, not, ◌&&◌, ◌||◌, ◌/◌, ◌%◌, ◌-◌, if◌then◌else◌, Option, None, Some, refl}
use Rattle.std.specs.Option.{option_map_or}
use Rattle.xm_num.specs.declared.Enclave.{Enclave}
use Rattle.xm_num.specs.declared.Pid.{Pid}
use Rattle.xm_num.specs.declared.Vpn.{Vpn}
use Rattle.xm_num.specs.declared.Segid.{Segid}
use Rattle.xm_num.specs.declared.Cause.{Cause}
use Rattle.xm_num.specs.declared.Cause.TheVariants as causes
use Rattle.xm_num.specs.Rows.{at, any_between}
use Rattle.xm_num.specs.Sizes.{page_bytes, most_pages, last_page}
use Rattle.xemem_language.specs.declared.record.Record.{Record}
use Rattle.xemem_wire.specs.Spelling.{is_valid}
use Rattle.attach_map.specs.declared.Waiting.{Waiting}
use Rattle.exporter_pins.specs.Holdings.{Export, live_export}
use Rattle.name_server.specs.Names.{has_name}
use Rattle.enclave_rules.specs.Hand.{Hand}
use Rattle.enclave_rules.specs.Memory.{is_busy}
use Rattle.enclave_rules.specs.Exports.{segid_number, is_segid}
use Rattle.enclave_rules.specs.Names.{can_draw, next_segid}
use Rattle.enclave_rules.specs.Sending.{Goal, Server, drop_lines, made_lines, over_lines, way_to}
use Rattle.enclave_rules.specs.Segments.{asking_lines, drew_line, issue_line, make_acts, make_of, make_refusal, name_request, are_own_pages, name_rows, named_lines, naming_lines, region_refusal, remove_acts, remove_refusal, takes_name, unname_lines, unname_record, unready}
use Rattle.xemem_language.specs.declared.line.Line.{Line}
use Rattle.xemem_language.specs.declared.line.Line.TheVariants as lines
use Rattle.xemem_language.specs.declared.call.Call.{Call}
use Rattle.xemem_language.specs.declared.call.Call.TheVariants as calls
use Rattle.xemem_language.specs.declared.call.Show.{Show}
use Rattle.xemem_language.specs.declared.call.Show.TheVariants as shows
use Rattle.frame_pool.specs.declared.BlockState.{BlockState}
use Rattle.frame_pool.specs.declared.BlockState.TheVariants as states
use Rattle.attach_map.specs.Attaching.{ProcessState}
use Rattle.enclave_rules.specs.View.{View, own_lines}
use Rattle.enclave_rules.specs.Steps.{process_at, unused_in, own_lines_of, alloc_lines, state_line, state_lines}
use Rattle.enclave_rules.specs.Calls.{at_hand, call_lines, refused_or, show_lines, IsOwnCause, IsShowLine, AreCallLines, AreShowLines}

cond_case : (P : List Line → Type 0) (b : Bool) (ls ms : List Line) → P ls → P ms → P (cond b ls ms)
cond_case P true ls ms one two = one
cond_case P false ls ms one two = two

on_map : {A : Type 0} (P : List Line → Type 0) (f : A → List Line) (none : List Line) → ((x : A) → P (f x)) → P none → (found : Option A) → P (option_map_or f found none)
on_map P f none some other None = other
on_map P f none some other (Some x) = some x

alloc_own : (holder : Enclave) (v : View) (p : Pid) (page : Vpn) (count : ℕ) → AreCallLines holder v.me (alloc_lines v p page count)
alloc_own holder v p page count = on_map (AreCallLines holder v.me) _ _ by (tt, tt) (process_at v p)
  where
    by : (process : ProcessState) → AreCallLines holder v.me (own_lines_of v p page count process.pages)
    by process =
        cond_case (AreCallLines holder v.me) (is_busy v.memory p.0) _ _ (tt, tt)
        (cond_case (AreCallLines holder v.me) (ltb 16777216 (page.0 + count)) _ _ (tt, tt)
        (cond_case (AreCallLines holder v.me) (any_between process.pages page.0 (page.0 + count)) _ _ (tt, tt)
        (cond_case (AreCallLines holder v.me) (ltb (length (unused_in v)) count) _ _ (tt, tt) (refl, tt))))

-- ---- what serves a call

dropped_own : (holder : Enclave) (v : View) → AreCallLines holder v.me (drop_lines v)
dropped_own holder v = (refl, tt)

over_own : (holder : Enclave) (v : View) (r : Record) (over : Option Enclave) → AreCallLines holder v.me (over_lines v None over r)
over_own holder v r None = (refl, tt)
over_own holder v r (Some over) = (refl, tt)

made_own : (holder : Enclave) (v : View) (goal : Goal) (r : Record) → AreCallLines holder v.me (made_lines v goal r)
made_own holder v goal r =
    cond_case (AreCallLines holder v.me) (is_valid r) _ _ (over_own holder v r (way_to v goal)) (dropped_own holder v)

named_own : (holder : Enclave) (v : View) (call : ℕ) (segid : Segid) → AreCallLines holder v.me (named_lines v call segid)
named_own holder v call segid = on_map (AreCallLines holder v.me) _ _ by (dropped_own holder v) (at v.memory.waiting call)
  where
    by : (waiting : Waiting) → AreCallLines holder v.me (if takes_name v call segid waiting
        then lines.Named v.me (record { 0 = call }) segid ∷ lines.AnswerSegid v.me waiting.pid (record { 0 = call }) segid ∷ []
        else drop_lines v)
    by waiting = cond_case (AreCallLines holder v.me) (takes_name v call segid waiting) _ _ (refl, (refl, tt)) (dropped_own holder v)

unnamed_own : (holder : Enclave) (v : View) (owner : Enclave) (segid : Segid) → holder ≡ v.me → AreCallLines holder v.me (unname_lines v owner segid)
unnamed_own holder v owner segid held =
    cond_case (AreCallLines holder v.me) (is_segid segid && has_name v.names (segid_number segid) owner) _ _ (held, tt) (dropped_own holder v)

asking_own : (holder : Enclave) (hand : Hand) (v : View) (call : ℕ) → (v.core.holder ≡ true → holder ≡ v.me) → AreCallLines holder v.me (asking_lines hand v call)
asking_own holder hand v call held = by v.core.holder held
  where
    by : (b : Bool) → (b ≡ true → holder ≡ v.me)
        → AreCallLines holder v.me (cond b (naming_lines hand v call) (made_lines v Server (name_request v.me call)))
    by true held = cond_case (AreCallLines holder v.me) (can_draw v.names) _ _
        (held refl, named_own holder (own_lines hand v (drew_line v v.me call ∷ [])) call (next_segid v.names)) (dropped_own holder v)
    by false held = made_own holder v Server (name_request v.me call)

make_own : (holder : Enclave) (hand : Hand) (v : View) (p : Pid) → (v.core.holder ≡ true → holder ≡ v.me) → AreCallLines holder v.me (make_acts hand v p)
make_own holder hand v p held = (refl, asking_own holder hand (own_lines hand v (issue_line v p ∷ [])) (v.memory.issued + 1) held)

remove_own : (holder : Enclave) (v : View) (segid : Segid) → (v.core.holder ≡ true → holder ≡ v.me) → AreCallLines holder v.me (remove_acts v segid)
remove_own holder v segid held = (refl, by v.core.holder held)
  where
    by : (b : Bool) → (b ≡ true → holder ≡ v.me) → AreCallLines holder v.me (cond b (unname_lines v v.me segid)
        (made_lines v Server (unname_record v.me (make_of v.exports (segid_number segid)) segid)))
    by true held = unnamed_own holder v v.me segid (held refl)
    by false held = made_own holder v Server _

-- ---- refusals

-- a cause that an enclave may find itself, where there is one
abbrev MayRefuse : Option Cause → Type 0
MayRefuse None = Unit {0}
MayRefuse (Some cause) = IsOwnCause cause

refused_own : (holder : Enclave) (v : View) (cause : Option Cause) (acts : List Line) → MayRefuse cause → AreCallLines holder v.me acts
    → AreCallLines holder v.me (refused_or cause acts)
refused_own holder v None acts found own = own
refused_own holder v (Some cause) acts found own = (found, tt)

found_case : (b : Bool) (one two : Option Cause) → MayRefuse one → MayRefuse two → MayRefuse (cond b one two)
found_case true one two is other = is
found_case false one two is other = other

unready_found : (v : View) (p : Pid) → MayRefuse (unready v p)
unready_found v p =
    found_case (not v.core.admitted) (Some causes.NotReady) (if is_busy v.memory p.0 then Some causes.Busy else None) tt
    (found_case (is_busy v.memory p.0) (Some causes.Busy) None tt tt)

region_found : (addr size : ℕ) → MayRefuse (region_refusal addr size)
region_found addr size = by (not (addr % page_bytes == 0) || not (size % page_bytes == 0)) (size == 0) (nat_lt most_pages (size / page_bytes))
    ((addr / page_bytes == 0) || nat_lt last_page (addr / page_bytes + (size / page_bytes - 1)))
  where
    by : (a b c d : Bool) → MayRefuse (if a then Some causes.BadAlign else (if b then Some causes.BadRange else (if c then Some causes.TooLarge
        else (if d then Some causes.BadRange else None))))
    by true b c d = tt
    by false true c d = tt
    by false false true d = tt
    by false false false true = tt
    by false false false false = tt

pages_found : (region other : Option Cause) → MayRefuse region → MayRefuse other → MayRefuse (option_map_or (λ cause. Some cause) region other)
pages_found None other is found = found
pages_found (Some cause) other is found = is

make_found : (process : ProcessState) (addr size : ℕ) → MayRefuse (make_refusal process addr size)
make_found process addr size = pages_found (region_refusal addr size) (if are_own_pages process.pages (addr / page_bytes) (size / page_bytes) then None else Some causes.NotMapped) (region_found addr size)
    (found_case (are_own_pages process.pages (addr / page_bytes) (size / page_bytes)) None (Some causes.NotMapped) tt tt)

remove_found : (v : View) (p : Pid) (segid : Segid) → MayRefuse (remove_refusal v p segid)
remove_found v p segid = by (live_export v.exports (segid_number segid))
  where
    by : (found : Option (ℕ × Export)) → MayRefuse (option_map_or (λ row. if row.1.pid == p.0 then None else Some causes.NotOwner) found (Some causes.NoSegment))
    by None = tt
    by (Some row) = found_case (row.1.pid == p.0) None (Some causes.NotOwner) tt tt

pub calls_own : (holder : Enclave) (v : View) (p : Pid) (call : Call) → (v.core.holder ≡ true → holder ≡ v.me) → AreCallLines holder v.me (call_lines v p call)
calls_own holder v p (calls.Alloc at n) held = alloc_own holder v p at n
calls_own holder v p (calls.Make addr size mode) held = on_map (AreCallLines holder v.me) _ _ by (tt, tt) (process_at v p)
  where
    by : (process : ProcessState) → AreCallLines holder v.me
        (refused_or (unready v p) (refused_or (make_refusal process addr size) (make_acts (at_hand v p (calls.Make addr size mode)) v p)))
    by process = refused_own holder v (unready v p) _ (unready_found v p)
        (refused_own holder v (make_refusal process addr size) _ (make_found process addr size) (make_own holder (at_hand v p (calls.Make addr size mode)) v p held))
calls_own holder v p (calls.Remove segid) held = on_map (AreCallLines holder v.me) _ _ by (tt, tt) (process_at v p)
  where
    by : (process : ProcessState) → AreCallLines holder v.me (refused_or (unready v p) (refused_or (remove_refusal v p segid) (remove_acts v segid)))
    by process = refused_own holder v (unready v p) _ (unready_found v p)
        (refused_own holder v (remove_refusal v p segid) _ (remove_found v p segid) (remove_own holder v segid held))

way_shown : (e : Enclave) (holder : Bool) (way : Option Enclave)
    → IsShowLine (cond holder (lines.AtWayOwn e) (option_map_or (λ over. lines.AtWay e over) way (lines.AtWayNone e)))
way_shown e true way = tt
way_shown e false None = tt
way_shown e false (Some over) = tt

routes_shown : (e : Enclave) (rows : List (ℕ × Enclave)) → AreShowLines (map (λ row. lines.AtRoute e (record { 0 = row.0 }) row.1) rows)
routes_shown e [] = tt
routes_shown e (row ∷ rows) = (tt, routes_shown e rows)

state_shown : (b : ℕ) (s : BlockState) → IsShowLine (state_line b s)
state_shown b states.Free = tt
state_shown b (states.Lent e) = tt
state_shown b (states.Held e) = tt

states_shown : (b : ℕ) (ss : List BlockState) → AreShowLines (state_lines b ss)
states_shown b [] = tt
states_shown b (s ∷ ss) = (state_shown b s, states_shown (b + 1) ss)

names_shown : (pairs : List (ℕ × Enclave)) → AreShowLines (name_rows pairs)
names_shown [] = tt
names_shown (row ∷ pairs) = (tt, names_shown pairs)

pub shows_still : (v : View) (show : Show) → AreShowLines (show_lines v show)
shows_still v shows.Routes = (way_shown v.me v.core.holder v.ways.way, routes_shown v.me v.ways.routes)
shows_still v shows.Pool = states_shown 0 v.host.states
shows_still v shows.Names = names_shown v.names.pairs
