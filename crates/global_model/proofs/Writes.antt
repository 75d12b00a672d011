-- What an enclave writes for a record, whatever it knows: a property of each kind of line that it may write is one of all its lines.
use Rattle.std.proofs.Common.{◌≡◌, ◌+◌, ◌^◌, ◌&&◌, subst, arith, ℤ, pos, negsuc, ℕ, List, [], ◌∷◌, ◌++◌, Bool, true, false, Option, None, Some, if◌then◌else◌, refl}
use Rattle.std.specs.Prelude.{◌==◌, is_none}
use Rattle.std.specs.Option.{option_map_or}
use Rattle.std.specs.List.{AllByRecursion}
use Rattle.std.specs.Map.{values_of}
use Rattle.std.proofs.lemmas.Bool.{and_parts, leb-true, ltb-true}
use Rattle.std.proofs.lemmas.Int.{ints}
use Rattle.xemem_language.specs.Ranges.{IsName}
use Rattle.std.proofs.lemmas.List.Elements.{All-head, All-tail}
use Rattle.xm_num.specs.declared.CallNo.{CallNo}
use Rattle.xm_num.specs.declared.Enclave.{Enclave}
use Rattle.xm_num.specs.declared.Pid.{Pid}
use Rattle.xm_num.specs.declared.Segid.{Segid}
use Rattle.xm_num.specs.Rows.{at, less}
use Rattle.xemem_language.specs.declared.record.Record.{Record}
use Rattle.xemem_language.specs.declared.record.Body.{Body}
use Rattle.xemem_language.specs.declared.record.Body.TheVariants as bodies
use Rattle.xemem_language.specs.declared.line.Line.{Line}
use Rattle.xemem_language.specs.declared.line.Line.TheVariants as lines
use Rattle.enclave_rules.specs.Ways.{place_among}
use Rattle.xemem_wire.specs.Spelling.{is_valid}
use Rattle.attach_map.specs.declared.Waiting.{Waiting}
use Rattle.attach_map.specs.Attaching.{AttacherState}
use Rattle.exporter_pins.specs.Holdings.{Export, is_asked, live_export}
use Rattle.name_server.specs.Names.{NamesState, has_name}
use Rattle.enclave_rules.specs.Hand.{Hand}
use Rattle.enclave_rules.specs.Exports.{fits_signed, is_segid, segid_number}
use Rattle.enclave_rules.specs.Names.{can_draw, next_segid}
use Rattle.enclave_rules.specs.View.{View, own_lines}
use Rattle.enclave_rules.specs.Sending.{Goal, Server, To, knows_way, toward_server, route_or, way_to, drop_lines, made_lines, over_lines, send_lines}
use Rattle.enclave_rules.specs.Segments.{asking_lines, drew_line, is_waiting_make, issue_line, make_acts, make_of, name_lines, name_request, named_lines, named_record, naming_lines, remove_acts, takes_name, unname_lines, unname_record}
use Rattle.enclave_rules.specs.Steps.{is_stray, here_of, register_of, admit_of, query_lines, told_askers, here_lines, register_lines, admit_over, admit_to, name_request_lines, named_to, unname_to, body_lines, record_lines}
use Rattle.global_model.proofs.Rows.{AllRows, all_less, all_at}

-- ---- lists of lines

-- each of the lines has the property
abbrev pub EachIs : (Line → Type 0) → List Line → Type 0
EachIs P journal = AllByRecursion P journal

pub each-append : (P : Line → Type 0) (ls ms : List Line) → EachIs P ls → EachIs P ms → EachIs P (ls ++ ms)
each-append P [] ms first more = more
each-append P (l ∷ ls) ms first more = (first.0, each-append P ls ms first.1 more)

pub each_either : (P : Line → Type 0) (b : Bool) (ls ms : List Line) → EachIs P ls → EachIs P ms → EachIs P (if b then ls else ms)
each_either P true ls ms left right = left
each_either P false ls ms left right = right

-- ---- what is written for a record

-- The lines that an enclave may write for a record have the property, where they name enclaves that are near, and send
-- records that are good.
pub record MayWrite (P : Line → Type 0) (Near : Enclave → Type 0) (Good : Record → Type 0) (v : View) : Type 0 where
  pub dropped : P (lines.Dropped v.me)
  pub admitted : P (lines.Admitted v.me)
  pub asked : (x : Enclave) → Near x → P (lines.Asked v.me x)
  pub way : (x : Enclave) → Near x → P (lines.Way v.me x)
  pub back : (d x : Enclave) → Near x → P (lines.Back v.me d x)
  pub route : (d x : Enclave) → Near x → P (lines.Route v.me d x)
  pub drew : v.core.holder ≡ true → (e : Enclave) (call : CallNo) (segid : Segid) → IsName segid.0 → P (lines.Drew e call segid)
  pub named : (call : CallNo) (segid : Segid) → IsName segid.0 → P (lines.Named v.me call segid)
  pub unnamed : v.core.holder ≡ true → (segid : Segid) → IsName segid.0 → P (lines.Unnamed segid)
  pub answered : (p : Pid) (call : CallNo) (segid : Segid) → IsName segid.0 → P (lines.AnswerSegid v.me p call segid)
  pub sent : (x : Enclave) (r : Record) → Near x → Good r → P (lines.Sent v.me x r)

-- the enclaves that a view knows are near
pub record KnowsNear (Near : Enclave → Type 0) (v : View) : Type 0 where
  pub way : (x : Enclave) → v.ways.way ≡ Some x → Near x
  pub askers : AllRows Near v.ways.askers
  pub backs : AllRows Near v.ways.backs
  pub routes : AllRows Near v.ways.routes

-- the records that an enclave may send for that one are good
pub record MaySend (Good : Record → Type 0) (v : View) (r : Record) : Type 0 where
  pub here : Good (here_of v.me)
  pub register : Good (register_of v.me)
  pub admit : Good (admit_of v.me r.origin)
  pub made : (m : Record) → is_valid m ≡ true → Good m
  pub passed : Good r

-- a segid is in its range where the rules ask for that, and where it is drawn
segid_in_range : (segid : Segid) → is_segid segid ≡ true → IsName segid.0
segid_in_range segid is = by segid.0 is
  where
    by : (z : ℤ) → fits_signed z ≡ true → IsName z
    by (pos n) fits = let most = leb-true n 9223372036854775807 fits in (omega (arith, ints), omega (arith, ints, most))
    by (negsuc n) fits = cc

drawn_in_range : (v : View) → can_draw v.names ≡ true → IsName (next_segid v.names).0
drawn_in_range v can = let few = ltb-true v.names.drawn (2 ^ 32) can in (omega (arith, ints), omega (arith, ints, few))

module _ (P : Line → Type 0) (Near : Enclave → Type 0) (Good : Record → Type 0) (v : View) (may : MayWrite P Near Good v) where
  writes_drop : EachIs P (drop_lines v)
  writes_drop = (may.dropped, tt)

  writes_query : (from : Enclave) → Near from → Good (here_of v.me) → EachIs P (query_lines v from)
  writes_query from near good = each_either P (knows_way v) (lines.Sent v.me from (here_of v.me) ∷ []) (lines.Asked v.me from ∷ [])
      (may.sent from _ near good, tt) (may.asked from near, tt)

  writes_askers : (rows : List (ℕ × Enclave)) → AllRows Near rows → Good (here_of v.me) → EachIs P (told_askers v rows)
  writes_askers [] near good = tt
  writes_askers (row ∷ rows) near good = (
    may.sent row.1 _ (All-head Near row.1 (values_of rows) near) good,
    writes_askers rows
        (All-tail Near row.1 (values_of rows) near) good,
  )

  writes_here : (from : Enclave) → AllRows Near v.ways.askers → Near from → Good (here_of v.me) → Good (register_of v.me)
      → EachIs P (here_lines v from)
  writes_here from askers near here register =
      let others = less v.ways.askers (place_among v.core.parent from) in
      let last = lines.Sent v.me from (register_of v.me) ∷ [] in
      each_either P (knows_way v) (drop_lines v) (lines.Way v.me from ∷ told_askers v others ++ last) writes_drop (
        may.way from near,
        each-append P (told_askers v others) last
            (writes_askers others (all_less Near v.ways.askers (place_among v.core.parent from) askers) here) (may.sent from _ near register, tt),
      )

  -- the way, where there is one, goes over an enclave that is near
  writes_over_way : (came over : Option Enclave) (r : Record) → ((x : Enclave) → over ≡ Some x → Near x) → Good r
      → EachIs P (over_lines v came over r)
  writes_over_way came None r near good = writes_drop
  writes_over_way came (Some over) r near good =
      each_either P (option_map_or (λ from. over.0 == from.0) came false) (drop_lines v) (lines.Sent v.me over r ∷ []) writes_drop
      (may.sent over r (near over refl) good, tt)

  pub server_near : ((x : Enclave) → v.ways.way ≡ Some x → Near x) → (x : Enclave) → way_to v Server ≡ Some x → Near x
  server_near near x is = by v.core.holder is
    where
      by : (holder : Bool) → (if holder then None else v.ways.way) ≡ Some x → Near x
      by true found = cc
      by false found = near x found

  writes_register : (from : Enclave) (r : Record) → ((x : Enclave) → v.ways.way ≡ Some x → Near x) → Near from → Good (admit_of v.me r.origin)
      → Good r → EachIs P (register_lines v from r)
  writes_register from r way near admit good = (
    may.back r.origin from near,
    each_either P v.core.holder (lines.Route v.me r.origin from ∷ lines.Sent v.me from (admit_of v.me r.origin) ∷ [])
        (send_lines v (Some from) Server r)
        (may.route r.origin from near, (may.sent from _ near admit, tt))
        (writes_over_way (Some from) (way_to v Server) r (server_near way) good),
  )

  writes_over : (from d : Enclave) (r : Record) (over : Option Enclave) → ((x : Enclave) → over ≡ Some x → Near x) → Good r
      → EachIs P (admit_over v from d r over)
  writes_over from d r None near good = writes_drop
  writes_over from d r (Some over) near good = (may.route d over (near over refl), writes_over_way (Some from) (Some over) r near good)

  writes_admit : (from : Enclave) (r : Record) (dest : Option Enclave) → AllRows Near v.ways.backs → Good r → EachIs P (admit_to v from r dest)
  writes_admit from r None backs good = writes_drop
  writes_admit from r (Some d) backs good =
      each_either P (d.0 == v.me.0) (if v.core.admitted then drop_lines v else lines.Admitted v.me ∷ []) (admit_over v from d r (at v.ways.backs d.0))
      (each_either P v.core.admitted (drop_lines v) (lines.Admitted v.me ∷ []) writes_drop (may.admitted, tt))
      (writes_over from d r (at v.ways.backs d.0) (λ x is. all_at Near v.ways.backs d.0 x backs is) good)

  -- ---- what serves a call

  routed_near : ((x : Enclave) → v.ways.way ≡ Some x → Near x) → AllRows Near v.ways.routes → (d x : Enclave) → way_to v (To d) ≡ Some x → Near x
  routed_near way routes d x is = by (at v.ways.routes d.0) refl is
    where
      by : (found : Option Enclave) → at v.ways.routes d.0 ≡ found → route_or found (toward_server v) ≡ Some x → Near x
      by None none is = server_near way x is
      by (Some over) found is = let same : over ≡ x = cc in subst Near same (all_at Near v.ways.routes d.0 over routes found)

  writes_made : (goal : Goal) (r : Record) → ((x : Enclave) → way_to v goal ≡ Some x → Near x) → ((m : Record) → is_valid m ≡ true → Good m)
      → EachIs P (made_lines v goal r)
  writes_made goal r near good = by (is_valid r) refl
    where
      by : (valid : Bool) → is_valid r ≡ valid → EachIs P (if valid then send_lines v None goal r else drop_lines v)
      by true valid = writes_over_way None (way_to v goal) r near (good r valid)
      by false invalid = writes_drop

  pub writes_named : (call : ℕ) (segid : Segid) → EachIs P (named_lines v call segid)
  writes_named call segid = by (at v.memory.waiting call)
    where
      taken : (waiting : Waiting) (takes : Bool) → takes_name v call segid waiting ≡ takes → EachIs P (if takes
          then lines.Named v.me (record { 0 = call }) segid ∷ lines.AnswerSegid v.me waiting.pid (record { 0 = call }) segid ∷ []
          else drop_lines v)
      taken waiting true is =
          let range = segid_in_range segid (and_parts (is_segid segid) (is_waiting_make waiting && (is_asked (at v.exports call) && is_none (live_export v.exports (segid_number segid)))) is).0 in
          (may.named (record { 0 = call }) segid range, (may.answered waiting.pid (record { 0 = call }) segid range, tt))
      taken waiting false is = writes_drop

      by : (found : Option Waiting) → EachIs P (option_map_or (λ waiting. if takes_name v call segid waiting
          then lines.Named v.me (record { 0 = call }) segid ∷ lines.AnswerSegid v.me waiting.pid (record { 0 = call }) segid ∷ []
          else drop_lines v) found (drop_lines v))
      by None = writes_drop
      by (Some waiting) = taken waiting (takes_name v call segid waiting) refl

  writes_unname : v.core.holder ≡ true → (owner : Enclave) (segid : Segid) → EachIs P (unname_lines v owner segid)
  writes_unname held owner segid = by (is_segid segid && has_name v.names (segid_number segid) owner) refl
    where
      by : (there : Bool) → (is_segid segid && has_name v.names (segid_number segid) owner) ≡ there
          → EachIs P (if there then lines.Unnamed segid ∷ [] else drop_lines v)
      by true is = (may.unnamed held segid (segid_in_range segid (and_parts (is_segid segid) (has_name v.names (segid_number segid) owner) is).0), tt)
      by false is = writes_drop

  writes_names : v.core.holder ≡ true → (caller : Enclave) (call : ℕ) → KnowsNear Near v → ((m : Record) → is_valid m ≡ true → Good m)
      → EachIs P (name_lines v caller call)
  writes_names held caller call known good = by (can_draw v.names) refl
    where
      by : (can : Bool) → can_draw v.names ≡ can → EachIs P (if can
          then drew_line v caller call ∷ made_lines v (To caller) (named_record v.me caller call (next_segid v.names)) else drop_lines v)
      by true is = (
        may.drew held caller (record { 0 = call }) (next_segid v.names) (drawn_in_range v is),
        writes_made (To caller) (named_record v.me caller call (next_segid v.names)) (routed_near known.way known.routes caller) good,
      )
      by false is = writes_drop

  writes_request : (from : Enclave) (r : Record) → KnowsNear Near v → MaySend Good v r → EachIs P (name_request_lines v from r)
  writes_request from r known send = by v.core.holder refl
    where
      by : (holder : Bool) → v.core.holder ≡ holder → EachIs P (if holder then name_lines v r.origin r.call else send_lines v (Some from) Server r)
      by true held = writes_names held r.origin r.call known send.made
      by false other = writes_over_way (Some from) (way_to v Server) r (server_near known.way) send.passed

  writes_name : (from : Enclave) (r : Record) (segid : Segid) (dest : Option Enclave) → KnowsNear Near v → Good r → EachIs P (named_to v from r segid dest)
  writes_name from r segid None known good = writes_drop
  writes_name from r segid (Some d) known good =
      each_either P (d.0 == v.me.0) (named_lines v r.call segid) (send_lines v (Some from) (To d) r) (writes_named r.call segid)
      (writes_over_way (Some from) (way_to v (To d)) r (routed_near known.way known.routes d) good)

  writes_forget : (from : Enclave) (r : Record) (segid : Segid) → KnowsNear Near v → Good r → EachIs P (unname_to v from r segid)
  writes_forget from r segid known good = by v.core.holder refl
    where
      by : (holder : Bool) → v.core.holder ≡ holder → EachIs P (if holder then unname_lines v r.origin segid else send_lines v (Some from) Server r)
      by true held = writes_unname held r.origin segid
      by false other = writes_over_way (Some from) (way_to v Server) r (server_near known.way) good

  -- a call that may need the name server, where the lines by which it begins have the property too
  pub writes_remove : (segid : Segid) → P (lines.Remove v.me segid) → KnowsNear Near v → ((m : Record) → is_valid m ≡ true → Good m)
      → EachIs P (remove_acts v segid)
  writes_remove segid removed known good = (removed, by v.core.holder refl)
    where
      by : (holder : Bool) → v.core.holder ≡ holder → EachIs P (if holder then unname_lines v v.me segid
          else made_lines v Server (unname_record v.me (make_of v.exports (segid_number segid)) segid))
      by true held = writes_unname held v.me segid
      by false other = writes_made Server (unname_record v.me (make_of v.exports (segid_number segid)) segid) (server_near known.way) good

  writes_body : (from : Enclave) (r : Record) (body : Body) → KnowsNear Near v → Near from → MaySend Good v r
      → EachIs P (body_lines v from r body)
  writes_body from r bodies.Query known near send = writes_query from near send.here
  writes_body from r bodies.Here known near send = writes_here from known.askers near send.here send.register
  writes_body from r bodies.Register known near send = writes_register from r known.way near send.admit send.passed
  writes_body from r bodies.Admit known near send = writes_admit from r r.dest known.backs send.passed
  writes_body from r bodies.NameReq known near send = writes_request from r known send
  writes_body from r (bodies.Named segid) known near send = writes_name from r segid r.dest known send.passed
  writes_body from r (bodies.Unname segid) known near send = writes_forget from r segid known send.passed
  writes_body from r _ known near send = writes_drop

  pub writes_record : (from : Enclave) (r : Record) → KnowsNear Near v → Near from → MaySend Good v r → EachIs P (record_lines v from r)
  writes_record from r known near send = each_either P (is_stray v r) (drop_lines v) (body_lines v from r r.body) writes_drop
      (writes_body from r r.body known near send)

-- what an enclave may write doesn't depend on its processes, exports and names
may_later : (P : Line → Type 0) (Near : Enclave → Type 0) (Good : Record → Type 0) (v : View) (memory : AttacherState) (exports : List (ℕ × Export)) (names : NamesState)
    → MayWrite P Near Good v → MayWrite P Near Good (record v { memory = memory; exports = exports; names = names })
may_later P Near Good v memory exports names may = record {
  dropped = may.dropped;
  admitted = may.admitted;
  asked = may.asked;
  way = may.way;
  back = may.back;
  route = may.route;
  drew = may.drew;
  named = may.named;
  unnamed = may.unnamed;
  answered = may.answered;
  sent = may.sent;
}

-- what is written for the name of a make, the call being issued
writes_asking : (P : Line → Type 0) (Near : Enclave → Type 0) (Good : Record → Type 0) (v : View) → MayWrite P Near Good v → KnowsNear Near v
    → ((m : Record) → is_valid m ≡ true → Good m) → (hand : Hand) (call : ℕ) → EachIs P (asking_lines hand v call)
writes_asking P Near Good v may known good hand call = by v.core.holder refl
  where
    drawn : v.core.holder ≡ true → (can : Bool) → can_draw v.names ≡ can → EachIs P (if can
        then drew_line v v.me call ∷ named_lines (own_lines hand v (drew_line v v.me call ∷ [])) call (next_segid v.names) else drop_lines v)
    drawn held true is =
        let w = own_lines hand v (drew_line v v.me call ∷ []) in
        let later = may_later P Near Good v w.memory w.exports w.names may in
        (may.drew held v.me (record { 0 = call }) (next_segid v.names) (drawn_in_range v is), writes_named P Near Good w later call (next_segid v.names))
    drawn held false is = writes_drop P Near Good v may

    by : (holder : Bool) → v.core.holder ≡ holder → EachIs P (if holder then naming_lines hand v call else made_lines v Server (name_request v.me call))
    by true held = drawn held (can_draw v.names) refl
    by false other = writes_made P Near Good v may Server (name_request v.me call) (server_near P Near Good v may known.way) good

pub writes_make : (P : Line → Type 0) (Near : Enclave → Type 0) (Good : Record → Type 0) (v : View) → MayWrite P Near Good v → KnowsNear Near v
    → ((m : Record) → is_valid m ≡ true → Good m) → ((p : Pid) (call : CallNo) → P (lines.Issue v.me p call)) → (hand : Hand) (p : Pid)
    → EachIs P (make_acts hand v p)
writes_make P Near Good v may known good issued hand p =
    let w = own_lines hand v (issue_line v p ∷ []) in
    let later = may_later P Near Good v w.memory w.exports w.names may in
    let knows : KnowsNear Near w = record { way = known.way; askers = known.askers; backs = known.backs; routes = known.routes } in
    (issued p (record { 0 = v.memory.issued + 1 }), writes_asking P Near Good w later knows good hand (v.memory.issued + 1))
