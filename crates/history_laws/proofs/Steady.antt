-- What an enclave writes for records, and a delivery or a settle, is steady where the facts fit.
use Rattle.std.proofs.Common.{◌≡◌, ◌+◌, ◌-◌, ◌<◌, ◌≤◌, ◌^◌, ℕ, zero, suc, min, List, [], ◌∷◌, ◌++◌, length, drop, Bool, true, false, cond, leb, eqb, not, ◌&&◌, ltb, is_some, Option, None, Some, if◌then◌else◌, All, refl, subst, arith}
use Rattle.std.specs.Prelude.{◌==◌}
use Rattle.std.specs.List.{range_with_len, flat_map, slice_get}
use Rattle.std.specs.Option.{option_map_or}
use Rattle.std.specs.Map.{values_of, lookup}
use Rattle.std.specs.Ordering.{nat_cmp}
use Rattle.std.specs.BTreeMap.{is_at}
use Rattle.std.proofs.lemmas.Bool.{leb-true, le-leb, ltb-true, eqb-true, and_parts, cond_both}
use Rattle.std.proofs.lemmas.List.Elements.{All-nil, All-cons, All-head, All-tail, All-filter, All-weaker}
use Rattle.xm_num.specs.declared.Enclave.{Enclave}
use Rattle.xm_num.specs.declared.Pid.{Pid}
use Rattle.xm_num.specs.declared.Segid.{Segid}
use Rattle.xm_num.specs.Rows.{at, less}
use Rattle.xemem_language.specs.declared.record.Record.{Record}
use Rattle.xemem_language.specs.declared.record.Body.{Body}
use Rattle.xemem_language.specs.declared.record.Body.TheVariants as bodies
use Rattle.xemem_language.specs.declared.line.Line.{Line}
use Rattle.xemem_language.specs.declared.line.Line.TheVariants as lines
use Rattle.xemem_wire.specs.Table.{kind_of, has_call, is_destination, is_enclave, is_undirected}
use Rattle.xemem_wire.specs.Fields.{are_allowed, flags_field, get_cause_field, is_allowed, name_number, pages_field, segid_field, user_field}
use Rattle.xemem_wire.specs.Spelling.{is_body, is_valid, AreValid}
use Rattle.line_reader.specs.Typed.{Is32, IsTypedBody}
use Rattle.attach_map.specs.declared.Pending.TheVariants as pendings
use Rattle.attach_map.specs.declared.Waiting.{Waiting}
use Rattle.name_server.specs.Names.{has_name}
use Rattle.enclave_rules.specs.Exports.{is_segid, segid_number}
use Rattle.enclave_rules.specs.Hand.{Hand}
use Rattle.enclave_rules.specs.Names.{can_draw, next_segid}
use Rattle.enclave_rules.specs.View.{View, own_lines}
use Rattle.enclave_rules.specs.Ways.{place_among}
use Rattle.enclave_rules.specs.Sending.{Goal, Server, To, drop_lines, knows_way, made_lines, over_lines, route_or, send_lines, toward_server, way_to}
use Rattle.enclave_rules.specs.Segments.{asking_lines, drew_line, issue_line, make_acts, make_of, name_lines, name_request, named_lines, named_record, naming_lines, remove_acts, takes_name, unname_lines, unname_record}
use Rattle.enclave_rules.specs.Steps.{query_of, here_of, register_of, admit_of, is_stray, query_lines, told_askers, here_lines, register_lines, admit_over, admit_to, named_to, body_lines, record_lines, handled_lines}
use Rattle.global_model.specs.Facts.{Facts, ChannelFact, after_line, after_lines, fact_of}
use Rattle.global_model.specs.Channels.{size_of, waiting_in, whole_records, arriving}
use Rattle.global_model.specs.Views.{view_of}
use Rattle.global_model.specs.Due.{got_lines, took_lines, deliver_lines, next_rest, rest_of_record, channels_of, waits, waiting_channels, first_waiting, settle_end, settle_from}
use Rattle.history_laws.specs.Laws.{HistoryLaws}
use Rattle.history_laws.proofs.Fit.{IsNumber, AllNumbers, IsFitWaiting, IsFitWays, IsFit, IsSteady, AreSteady, fit_line, fit_lines, less_numbers, put_waiting}
use Rattle.history_laws.proofs.Lending.{All-range}

-- ---- lists of lines

pub steady_append : (ls ms : List Line) → AreSteady ls → AreSteady ms → AreSteady (ls ++ ms)
steady_append [] ms first more = more
steady_append (l ∷ ls) ms first more = (first.0, steady_append ls ms first.1 more)

pub steady_either : (b : Bool) (ls ms : List Line) → AreSteady ls → AreSteady ms → AreSteady (if b then ls else ms)
steady_either true ls ms left right = left
steady_either false ls ms left right = right

-- ---- records

pub valid_query : (e : Enclave) → IsNumber e → is_valid (query_of e) ≡ true
unfolding is_valid
valid_query e number = rw (le-leb e.0 255 number) refl

valid_here : (e : Enclave) → IsNumber e → is_valid (here_of e) ≡ true
unfolding is_valid
valid_here e number = rw (le-leb e.0 255 number) refl

valid_register : (e : Enclave) → IsNumber e → is_valid (register_of e) ≡ true
unfolding is_valid
valid_register e number = rw (le-leb e.0 255 number) refl

valid_admit : (e d : Enclave) → IsNumber e → IsNumber d → is_valid (admit_of e d) ≡ true
unfolding is_valid
valid_admit e d number dest = rw (le-leb e.0 255 number, le-leb d.0 255 dest) refl

-- the numbers of a valid record
pub record HasNumbers (r : Record) : Type 0 where
  pub origin : IsNumber r.origin
  pub dest : (d : Enclave) → r.dest ≡ Some d → IsNumber d
  pub call : Is32 r.call
  pub body : IsTypedBody r.body

in_range : (low high n : ℕ) → (leb low n && leb n high) ≡ true → n ≤ high
in_range low high n is = leb-true n high (and_parts (leb low n) (leb n high) is).1

typed_get : (segid : Segid) (flags uid gid : ℕ) → is_body (bodies.Get segid flags uid gid) ≡ true → Is32 flags × Is32 uid × Is32 gid
typed_get segid flags uid gid valid =
    let name = and_parts (is_allowed segid_field (name_number segid.0)) (are_allowed (flags_field ∷ user_field ∷ user_field ∷ []) (flags ∷ uid ∷ gid ∷ [])) valid in
    let access = and_parts (is_allowed flags_field flags) (are_allowed (user_field ∷ user_field ∷ []) (uid ∷ gid ∷ [])) name.1 in
    let user = and_parts (is_allowed user_field uid) (are_allowed (user_field ∷ []) (gid ∷ [])) access.1 in
    let group = and_parts (is_allowed user_field gid) true user.1 in
    let small = in_range 1 2 flags access.0 in
    (omega (arith, small), in_range 0 4294967295 uid user.0, in_range 0 4294967295 gid group.0)

typed_pages : (pages : ℕ) → is_body (bodies.Granted pages) ≡ true → Is32 pages
typed_pages pages valid =
    let small = in_range 1 4096 pages (and_parts (is_allowed pages_field pages) true valid).0 in omega (arith, small)

typed_cause : (cause : ℕ) → is_body (bodies.GetRefused cause) ≡ true → Is32 cause
typed_cause cause valid =
    let small = in_range 6 7 cause (and_parts (is_allowed get_cause_field cause) true valid).0 in omega (arith, small)

typed_body : (body : Body) → is_body body ≡ true → IsTypedBody body
typed_body bodies.Query valid = tt
typed_body bodies.Here valid = tt
typed_body bodies.Register valid = tt
typed_body bodies.Admit valid = tt
typed_body bodies.NameReq valid = tt
typed_body (bodies.Named segid) valid = tt
typed_body (bodies.Unname segid) valid = tt
typed_body (bodies.Lookup segid) valid = tt
typed_body (bodies.Found segid owner) valid = tt
typed_body (bodies.Get segid flags uid gid) valid = typed_get segid flags uid gid valid
typed_body (bodies.Granted pages) valid = typed_pages pages valid
typed_body (bodies.GetRefused cause) valid = typed_cause cause valid
typed_body (bodies.Release apid) valid = tt
typed_body _ valid = cc

typed_call : (serves : Bool) (call : ℕ) → cond serves (leb 1 call && ltb call (2 ^ 32)) (eqb call 0) ≡ true → Is32 call
typed_call true call is = let low = ltb-true call (2 ^ 32) (and_parts (leb 1 call) (ltb call (2 ^ 32)) is).1 in omega (arith, low)
typed_call false call is = let none = eqb-true call 0 is in omega (arith, none)

typed_dest : (kind : ℕ) (dest : Option Enclave) → is_destination kind dest ≡ true → (d : Enclave) → dest ≡ Some d → IsNumber d
typed_dest kind None is d some = cc
typed_dest kind (Some e) is d some =
    let same : e ≡ d = cc in
    subst IsNumber same (leb-true e.0 255 (and_parts (not (is_undirected kind)) (is_enclave e.0) is).1)

pub valid_numbers : (r : Record) → is_valid r ≡ true → HasNumbers r
unfolding is_valid
valid_numbers r valid =
    let three = and_parts _ _ valid in
    let two = and_parts _ _ three.0 in
    let one = and_parts _ _ two.0 in
    record {
      origin = leb-true r.origin.0 255 one.1;
      dest = typed_dest (kind_of r.body) r.dest two.1;
      call = typed_call (has_call (kind_of r.body)) r.call three.1;
      body = typed_body r.body one.0;
    }

-- ---- rows

found_has : {V : Type 0} (P : V → Type 0) (test : ℕ → Bool) (rows : List (ℕ × V)) (x : V) → All P (values_of rows) → lookup test rows ≡ Some x → P x
found_has P test [] x all is = cc
found_has {V = V} P test (row ∷ rows) x all is = by (test row.0) (found_has P test rows x (All-tail P row.1 (values_of rows) all)) is
  where
    by : (b : Bool) → (lookup test rows ≡ Some x → P x) → cond b (Some row.1) (lookup test rows) ≡ Some x → P x
    by true later found = let same : row.1 ≡ x = cc in subst P same (All-head P row.1 (values_of rows) all)
    by false later found = later found

-- what stands at a number has what all rows have
pub at_has : {V : Type 0} (P : V → Type 0) (rows : List (ℕ × V)) (k : ℕ) (x : V) → All P (values_of rows) → at rows k ≡ Some x → P x
unfolding at
at_has P rows k x all is = found_has P (is_at (nat_cmp k)) rows x all is

-- ---- what is written for a record

-- what a view knows of enclaves fits, and so do the processes whose calls wait
pub record IsFitView (v : View) : Type 0 where
  pub me : IsNumber v.me
  pub ways : IsFitWays v.ways
  pub waiting : All IsFitWaiting (values_of v.memory.waiting)

module _ (v : View) (fit : IsFitView v) where
  steady_drop : AreSteady (drop_lines v)
  steady_drop = (fit.me, tt)

  steady_over : (came over : Option Enclave) (r : Record) → ((x : Enclave) → over ≡ Some x → IsNumber x) → is_valid r ≡ true → AreSteady (over_lines v came over r)
  steady_over came None r near valid = steady_drop
  steady_over came (Some over) r near valid =
      steady_either (option_map_or (λ (from : Enclave). over.0 == from.0) came false) (drop_lines v) (lines.Sent v.me over r ∷ []) steady_drop ((fit.me, near over refl, valid), tt)

  way_number : (x : Enclave) → way_to v Server ≡ Some x → IsNumber x
  way_number x is = by v.core.holder is
    where
      by : (holder : Bool) → cond holder None v.ways.way ≡ Some x → IsNumber x
      by true none = cc
      by false some = fit.ways.over x some

  goal_number : (d x : Enclave) → way_to v (To d) ≡ Some x → IsNumber x
  goal_number d x is = by (at v.ways.routes d.0) refl is
    where
      by : (o : Option Enclave) → at v.ways.routes d.0 ≡ o → route_or o (toward_server v) ≡ Some x → IsNumber x
      by None none way = way_number x way
      by (Some over) found way = let same : over ≡ x = cc in subst IsNumber same (at_has IsNumber v.ways.routes d.0 over fit.ways.route found)

  -- what an enclave makes itself is sent where it is valid
  steady_made : (goal : Goal) (r : Record) → ((x : Enclave) → way_to v goal ≡ Some x → IsNumber x) → AreSteady (made_lines v goal r)
  steady_made goal r near =
      cond_both (is_valid r) (send_lines v None goal r) (drop_lines v) AreSteady (λ valid. steady_over None (way_to v goal) r near valid) (λ other. steady_drop)

  pub steady_named : (call : ℕ) (segid : Segid) → Is32 call → AreSteady (named_lines v call segid)
  steady_named call segid few = by (at v.memory.waiting call) refl
    where
      by : (found : Option Waiting) → at v.memory.waiting call ≡ found → AreSteady (option_map_or (λ waiting. if takes_name v call segid waiting
          then lines.Named v.me (record { 0 = call }) segid ∷ lines.AnswerSegid v.me waiting.pid (record { 0 = call }) segid ∷ []
          else drop_lines v) found (drop_lines v))
      by None is = steady_drop
      by (Some waiting) is = steady_either (takes_name v call segid waiting)
          (lines.Named v.me (record { 0 = call }) segid ∷ lines.AnswerSegid v.me waiting.pid (record { 0 = call }) segid ∷ []) (drop_lines v)
          ((fit.me, few), ((fit.me, at_has IsFitWaiting v.memory.waiting call waiting fit.waiting is, few), tt)) steady_drop

  steady_names : (caller : Enclave) (call : ℕ) → IsNumber caller → Is32 call → AreSteady (name_lines v caller call)
  steady_names caller call number few =
      let told = named_record v.me caller call (next_segid v.names) in
      steady_either (can_draw v.names) (drew_line v caller call ∷ made_lines v (To caller) told) (drop_lines v)
      ((number, few), steady_made (To caller) told (goal_number caller)) steady_drop

  steady_unname : (owner : Enclave) (segid : Segid) → AreSteady (unname_lines v owner segid)
  steady_unname owner segid = steady_either (is_segid segid && has_name v.names (segid_number segid) owner) (lines.Unnamed segid ∷ []) (drop_lines v) (tt, tt) steady_drop

  steady_named_to : (from : Enclave) (r : Record) (segid : Segid) (dest : Option Enclave) → is_valid r ≡ true → AreSteady (named_to v from r segid dest)
  steady_named_to from r segid None valid = steady_drop
  steady_named_to from r segid (Some d) valid =
      steady_either (d.0 == v.me.0) (named_lines v r.call segid) (over_lines v (Some from) (way_to v (To d)) r)
      (steady_named r.call segid (valid_numbers r valid).call) (steady_over (Some from) (way_to v (To d)) r (goal_number d) valid)

  -- the segment ends
  pub steady_remove : (segid : Segid) → AreSteady (remove_acts v segid)
  steady_remove segid =
      let away = unname_record v.me (make_of v.exports (segid_number segid)) segid in
      (fit.me, steady_either v.core.holder (unname_lines v v.me segid) (made_lines v Server away) (steady_unname v.me segid) (steady_made Server away way_number))

  steady_query : (from : Enclave) → IsNumber from → AreSteady (query_lines v from)
  steady_query from near =
      steady_either (knows_way v) (lines.Sent v.me from (here_of v.me) ∷ []) (lines.Asked v.me from ∷ []) ((fit.me, near, valid_here v.me fit.me), tt) ((fit.me, near), tt)

  steady_askers : (rows : List (ℕ × Enclave)) → AllNumbers rows → AreSteady (told_askers v rows)
  steady_askers [] all = tt
  steady_askers (row ∷ rows) all =
      ((fit.me, All-head IsNumber row.1 (values_of rows) all, valid_here v.me fit.me), steady_askers rows (All-tail IsNumber row.1 (values_of rows) all))

  steady_here : (from : Enclave) → IsNumber from → AreSteady (here_lines v from)
  steady_here from near =
      let others = less v.ways.askers (place_among v.core.parent from) in
      let last = lines.Sent v.me from (register_of v.me) ∷ [] in
      steady_either (knows_way v) (drop_lines v) (lines.Way v.me from ∷ told_askers v others ++ last) steady_drop
      ((fit.me, near), steady_append (told_askers v others) last (steady_askers others (less_numbers v.ways.askers _ fit.ways.asked)) ((fit.me, near, valid_register v.me fit.me), tt))

  steady_register : (from : Enclave) (r : Record) → IsNumber from → is_valid r ≡ true → AreSteady (register_lines v from r)
  steady_register from r near valid =
      let origin = (valid_numbers r valid).origin in (
        (fit.me, origin, near),
        steady_either v.core.holder (lines.Route v.me r.origin from ∷ lines.Sent v.me from (admit_of v.me r.origin) ∷ []) (over_lines v (Some from) (way_to v Server) r)
            ((fit.me, origin, near), ((fit.me, near, valid_admit v.me r.origin fit.me origin), tt))
            (steady_over (Some from) (way_to v Server) r way_number valid),
      )

  steady_back : (from d : Enclave) (r : Record) (over : Option Enclave) → IsNumber d → ((x : Enclave) → over ≡ Some x → IsNumber x) → is_valid r ≡ true
      → AreSteady (admit_over v from d r over)
  steady_back from d r None dest near valid = steady_drop
  steady_back from d r (Some over) dest near valid = ((fit.me, dest, near over refl), steady_over (Some from) (Some over) r near valid)

  steady_admit : (from : Enclave) (r : Record) (dest : Option Enclave) → ((d : Enclave) → dest ≡ Some d → IsNumber d) → is_valid r ≡ true
      → AreSteady (admit_to v from r dest)
  steady_admit from r None dest valid = steady_drop
  steady_admit from r (Some d) dest valid =
      let backs = v.ways.backs in
      steady_either (d.0 == v.me.0) (if v.core.admitted then drop_lines v else lines.Admitted v.me ∷ []) (admit_over v from d r (at backs d.0))
      (steady_either v.core.admitted (drop_lines v) (lines.Admitted v.me ∷ []) steady_drop (fit.me, tt))
      (steady_back from d r (at backs d.0) (dest d refl) (λ x is. at_has IsNumber backs d.0 x fit.ways.back is) valid)

  steady_body : (from : Enclave) (r : Record) (body : Body) → IsNumber from → is_valid r ≡ true → AreSteady (body_lines v from r body)
  steady_body from r bodies.Query near valid = steady_query from near
  steady_body from r bodies.Here near valid = steady_here from near
  steady_body from r bodies.Register near valid = steady_register from r near valid
  steady_body from r bodies.Admit near valid = steady_admit from r r.dest (valid_numbers r valid).dest valid
  steady_body from r bodies.NameReq near valid =
      let numbers = valid_numbers r valid in
      steady_either v.core.holder (name_lines v r.origin r.call) (over_lines v (Some from) (way_to v Server) r)
      (steady_names r.origin r.call numbers.origin numbers.call) (steady_over (Some from) (way_to v Server) r way_number valid)
  steady_body from r (bodies.Named segid) near valid = steady_named_to from r segid r.dest valid
  steady_body from r (bodies.Unname segid) near valid =
      steady_either v.core.holder (unname_lines v r.origin segid) (over_lines v (Some from) (way_to v Server) r)
      (steady_unname r.origin segid) (steady_over (Some from) (way_to v Server) r way_number valid)
  steady_body from r _ near valid = steady_drop

  steady_record : (from : Enclave) (r : Record) → IsNumber from → is_valid r ≡ true → AreSteady (record_lines v from r)
  steady_record from r near valid = steady_either (is_stray v r) (drop_lines v) (body_lines v from r r.body) steady_drop (steady_body from r r.body near valid)

  steady_handled : (from : Enclave) (r : Record) → IsNumber from → is_valid r ≡ true → AreSteady (handled_lines v from r)
  steady_handled from r near valid = ((near, fit.me), steady_record from r near valid)

-- ---- makes

-- the call is issued, and its number fits; a segment is named at once where the enclave draws the segids
module _ (v : View) (fit : IsFitView v) (hand : Hand) where
  steady_drawn : (call : ℕ) → Is32 call → AreSteady (naming_lines hand v call)
  steady_drawn call few =
      let w = own_lines hand v (drew_line v v.me call ∷ []) in
      steady_either (can_draw v.names) (drew_line v v.me call ∷ named_lines w call (next_segid v.names)) (drop_lines v)
      ((fit.me, few), steady_named w (record { me = fit.me; ways = fit.ways; waiting = fit.waiting }) call (next_segid v.names) few) (fit.me, tt)

  steady_asking : (call : ℕ) → Is32 call → AreSteady (asking_lines hand v call)
  steady_asking call few =
      steady_either v.core.holder (naming_lines hand v call) (made_lines v Server (name_request v.me call)) (steady_drawn call few)
      (steady_made v fit Server (name_request v.me call) (way_number v fit))

pub steady_make : (v : View) → IsFitView v → (hand : Hand) (p : Pid) → Is32 p.0 → Is32 (v.memory.issued + 1) → AreSteady (make_acts hand v p)
steady_make v fit hand p low few =
    let w = own_lines hand v (issue_line v p ∷ []) in
    let waiting = put_waiting v.memory.waiting (v.memory.issued + 1) (record { call = record { 0 = v.memory.issued + 1 }; pid = p; living = true; what = pendings.Make }) fit.waiting low in
    ((fit.me, low, few), steady_asking w (record { me = fit.me; ways = fit.ways; waiting = waiting }) hand (v.memory.issued + 1) few)

-- ---- deliveries

valid-whole : (n : ℕ) (rs : List Record) → AreValid rs → AreValid (whole_records n rs)
valid-whole n [] all = tt
valid-whole n (r ∷ rs) all = by (leb (size_of r) n) (valid-whole (n - size_of r) rs all.1)
  where
    by : (b : Bool) → AreValid (whole_records (n - size_of r) rs) → AreValid (cond b (r ∷ whole_records (n - size_of r) rs) [])
    by true later = (all.0, later)
    by false later = tt

valid-drop : (k : ℕ) (rs : List Record) → AreValid rs → AreValid (drop k rs)
valid-drop zero rs all = all
valid-drop (suc k) [] all = tt
valid-drop (suc k) (r ∷ rs) all = valid-drop k rs all.1

valid_arriving : (c : ChannelFact) → AreValid c.sent → AreValid (arriving c)
valid_arriving c all = valid-drop c.got (whole_records c.taken c.sent) (valid-whole c.taken c.sent all)

pub view_fits : (G : Facts) (e : Enclave) → IsFit G → IsNumber e → IsFitView (view_of G e)
view_fits G e fit number = record { me = number; ways = fit.ways e.0; waiting = (fit.memory e.0).waiting }

steady_got : (G : Facts) (x y : Enclave) (rs : List Record) → IsFit G → IsNumber x → IsNumber y → AreValid rs → AreSteady (got_lines G x y rs)
steady_got G x y [] fit from to valid = tt
steady_got G x y (r ∷ rs) fit from to valid =
    let own = handled_lines (view_of G y) x r in
    let steady : AreSteady own = steady_handled (view_of G y) (view_fits G y fit to) x r from valid.0 in
    steady_append own (got_lines (after_lines G own) x y rs) steady (steady_got (after_lines G own) x y rs (fit_lines G own fit steady) from to valid.1)

steady_took : (G : Facts) (x y : Enclave) (count : ℕ) → IsFit G → IsNumber x → IsNumber y → Is32 count → AreSteady (took_lines G x y count)
steady_took G x y count fit from to few =
    let H = after_line G (lines.Took x y count) in
    let after : IsFit H = fit_line G fit (lines.Took x y count) (from, to, few) in
    ((from, to, few), steady_got H x y (arriving (H.channel x.0 y.0)) after from to (valid_arriving (H.channel x.0 y.0) (after.channels x.0 y.0)))

pub steady_deliver : (G : Facts) (x y : Enclave) (count : ℕ) → IsFit G → IsNumber x → IsNumber y → Is32 count → AreSteady (deliver_lines G x y count)
steady_deliver G x y count fit from to few =
    let waiting = length (waiting_in G x.0 y.0) in
    steady_either (waiting == 0) (lines.Idle x y ∷ []) (took_lines G x y (min count waiting)) ((from, to), tt) (steady_took G x y (min count waiting) fit from to (omega (arith, few)))

-- ---- settles

-- both ends of a channel
abbrev AreBothNumbers : Enclave × Enclave → Type 0
AreBothNumbers ends = IsNumber ends.0 × IsNumber ends.1

channels_fit : (G : Facts) → IsFit G → (cs : List ℕ) → All (λ c. c ≤ 255) cs → All AreBothNumbers (flat_map (channels_of G) cs)
channels_fit G fit [] low = All-nil AreBothNumbers
channels_fit G fit (c ∷ cs) low =
    let child : c ≤ 255 = All-head (λ n. n ≤ 255) c cs low in
    let parent : Enclave = (fact_of (G.enclave c)).parent in
    let above : IsNumber parent = fit.tree.parent c in
    let up : Enclave × Enclave = (record { 0 = c }, parent) in
    let down : Enclave × Enclave = (parent, record { 0 = c }) in
    let more = flat_map (channels_of G) cs in
    All-cons AreBothNumbers up (down ∷ more) (child, above) (All-cons AreBothNumbers down more (above, child) (channels_fit G fit cs (All-tail (λ n. n ≤ 255) c cs low)))

first_has : {X : Type 0} (P : X → Type 0) (xs : List X) (x : X) → All P xs → slice_get xs 0 ≡ Some x → P x
first_has P [] x all is = cc
first_has P (y ∷ ys) x all is = let same : y ≡ x = cc in subst P same (All-head P y ys all)

first_fits : (G : Facts) (channel : Enclave × Enclave) → IsFit G → first_waiting G ≡ Some channel → AreBothNumbers channel
first_fits G channel fit is =
    let most = fit.tree.most in
    let low = All-weaker (λ k. (1 ≤ k) × (k < 1 + (G.born - 1))) (λ k. k ≤ 255) (λ k h. omega (arith, h.0, h.1, most)) (range_with_len 1 (G.born - 1)) (All-range 1 (G.born - 1)) in
    let all = channels_fit G fit (range_with_len 1 (G.born - 1)) low in
    first_has AreBothNumbers (waiting_channels G) channel (All-filter (waits G) AreBothNumbers (flat_map (channels_of G) (range_with_len 1 (G.born - 1))) all) is

-- a delivery of a settle takes no more than a record
rest_few : HistoryLaws → (taken : ℕ) (rs : List Record) → AreValid rs → rest_of_record taken rs ≤ 16404
rest_few laws taken [] valid = omega arith
rest_few laws taken (r ∷ rs) valid =
    let most = laws.wire.most r valid.0 in
    cond_both (leb (size_of r) taken) (rest_of_record (taken - size_of r) rs) (size_of r - taken) (λ n. n ≤ 16404)
    (λ is. rest_few laws (taken - size_of r) rs valid.1) (λ other. omega (arith, most))

steady_end : (G : Facts) (made : ℕ) → Is32 made → AreSteady (settle_end G made ∷ [])
steady_end G made few = (by (is_some (first_waiting G)), tt)
  where
    by : (b : Bool) → IsSteady (if b then lines.Waiting made else lines.Settled made)
    by true = few
    by false = few

-- the rest of a settle, where that channel is the first in which something waits
abbrev settle_at : ℕ → ℕ → Facts → Option (Enclave × Enclave) → List Line
settle_at left made G first =
    option_map_or (λ channel. let own = deliver_lines G channel.0 channel.1 (next_rest G channel.0 channel.1) in own ++ settle_from left (made + 1) (after_lines G own)) first (settle_end G made ∷ [])

pub steady_settle : HistoryLaws → (left made : ℕ) (G : Facts) → IsFit G → Is32 (made + left) → AreSteady (settle_from left made G)
steady_settle laws zero made G fit few = steady_end G made (omega (arith, few))
steady_settle laws (suc left) made G fit few = by (first_waiting G) refl (λ H after. steady_settle laws left (made + 1) H after (omega (arith, few)))
  where
    by : (o : Option (Enclave × Enclave)) → first_waiting G ≡ o → ((H : Facts) → IsFit H → AreSteady (settle_from left (made + 1) H))
        → AreSteady (settle_at left made G o)
    by None is more = steady_end G made (omega (arith, few))
    by (Some channel) is more =
        let x = channel.0 in
        let y = channel.1 in
        let own = deliver_lines G x y (next_rest G x y) in
        let ends = first_fits G channel fit is in
        let rest = rest_few laws (G.channel x.0 y.0).taken (G.channel x.0 y.0).sent (fit.channels x.0 y.0) in
        let steady : AreSteady own = steady_deliver G x y (next_rest G x y) fit ends.0 ends.1 (omega (arith, rest)) in
        steady_append own (settle_from left (made + 1) (after_lines G own)) steady (more (after_lines G own) (fit_lines G own fit steady))
