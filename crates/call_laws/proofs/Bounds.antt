-- What each step sends for calls goes straight to its goal.
use Rattle.std.proofs.Common.{◌≡◌, ◌≢◌, ℕ, List, [], ◌∷◌, Bool, true, false, cond, eqb, Option, None, Some, is_some, refl, sym, ◌∙◌, subst}
use Rattle.std.proofs.lemmas.Bool.{eqb-false}
use Rattle.xm_num.specs.declared.Enclave.{Enclave}
use Rattle.xm_num.specs.declared.Segid.{Segid}
use Rattle.xemem_language.specs.declared.line.Line.{Line}
use Rattle.xemem_language.specs.declared.line.Line.TheVariants as lines
use Rattle.xemem_language.specs.declared.record.Record.{Record}
use Rattle.xemem_language.specs.declared.record.Body.{Body}
use Rattle.xemem_language.specs.declared.record.Body.TheVariants as bodies
use Rattle.enclave_rules.specs.Names.{next_segid}
use Rattle.enclave_rules.specs.View.{View}
use Rattle.enclave_rules.specs.Segments.{name_lines, named_lines, named_record, unname_lines}
use Rattle.enclave_rules.specs.Sending.{Server, To, drop_lines, send_lines, way_to}
use Rattle.enclave_rules.specs.Steps.{body_lines, handled_lines, is_stray, named_to}
use Rattle.global_model.specs.Facts.{Facts}
use Rattle.global_model.specs.Parts.{Lacks}
use Rattle.global_model.specs.Tree.{IsRooted, parent_of}
use Rattle.global_model.specs.Views.{view_of}
use Rattle.discovery_laws.specs.Known.{holds, route_at, way_at}
use Rattle.discovery_laws.specs.Ways.{IsLeading}
use Rattle.call_laws.specs.Laws.{TreePaths}
use Rattle.call_laws.specs.Roads.{IsReachable, Reaches}
use Rattle.call_laws.proofs.Each.{all_but_calls, each_either, each_name, each_named, each_sent, each_unname}
use Rattle.call_laws.proofs.Rows.{all_more}
use Rattle.call_laws.proofs.Handled.{free_body, ns_is}
use Rattle.call_laws.proofs.Onward.{Ahead, AreSent, Bound, BoundBy, IsToCaller, IsToServer, SentBy, is_foreign}
use Rattle.call_laws.proofs.Roads.{AreRoads, Toward}
use Rattle.call_laws.proofs.Tied.{AreFreeOfCalls, IsFreeOfCalls, IsPlainBody}

-- ---- the next enclave on a path is one

hop_one : (G : Facts) (x d y z : ℕ) → Toward G x d y → Toward G x d z → y ≡ z
hop_one G x d y z one two = one.next ∙ sym two.next

-- routes lead from b to d
pub record IsAhead (G : Facts) (d b : ℕ) : Type 0 where
  pub after : List ℕ
  pub ahead : Ahead G d b after

-- the road from the holder, read from its front
turned : (G : Facts) (h d b : ℕ) (before after : List ℕ) → Reaches G h d b before → Ahead G d b after → IsAhead G d h
turned G h d b [] after is ahead = record { after = after; ahead = subst (λ n. Ahead G d n after) is ahead }
turned G h d b (a ∷ before) after is ahead = turned G h d a before (b ∷ after) is.2 (is.0, is.1, ahead)

pub ahead_some : (G : Facts) (d b : ℕ) → IsAhead G d b → b ≢ d → is_some (route_at G b d) ≡ true
ahead_some G d b ahead other = by ahead.after ahead.ahead
  where
    by : (after : List ℕ) → Ahead G d b after → is_some (route_at G b d) ≡ true
    by [] is = absurd (other is)
    by (c ∷ after) is = is.0

module _ (G : Facts) (roads : AreRoads G) (leading : IsLeading G) where
  ahead_over : (d b : ℕ) (z : Enclave) → IsAhead G d b → b ≢ d → route_at G b d ≡ Some z → IsAhead G d z.0
  ahead_over d b z ahead other route = by ahead.after ahead.ahead
    where
      by : (after : List ℕ) → Ahead G d b after → IsAhead G d z.0
      by [] is = absurd (other is)
      by (c ∷ after) is = record { after = after; ahead = subst (λ n. Ahead G d n after) (hop_one G b d c z.0 is.1 (leading.routes b d z route)) is.2 }

  -- routes lead from the holder of the name server to each enclave that is reached
  pub reached_ahead : (d h : ℕ) → IsReachable G d → holds G h ≡ true → IsAhead G d h
  reached_ahead d h reach held =
      subst (IsAhead G d) (leading.holder reach.road.holder h reach.road.holds held)
      (turned G reach.road.holder d d reach.road.before [] reach.road.reaches refl)

  -- ---- over ways

  pub first_server : (a : ℕ) (z : Enclave) → way_at G a ≡ Some z → IsToServer G a a z.0
  first_server a z way =
      let leads = leading.way a z way in
      record { holder = leads.holder; holds = leads.holds; sent = record { before = []; came = refl; next = leads.toward }; knowing = roads.ways a z way }

  on_server : (o x y : ℕ) (z : Enclave) → way_at G y ≡ Some z → IsToServer G o x y → IsToServer G o y z.0
  on_server o x y z way to =
      let leads = leading.way y z way in
      let same : leads.holder ≡ to.holder = leading.holder leads.holder to.holder leads.holds to.holds in
      record {
        holder = to.holder;
        holds = to.holds;
        sent = record { before = x ∷ to.sent.before; came = (to.sent.next, to.sent.came); next = subst (λ h. Toward G y h z.0) same leads.toward };
        knowing = roads.ways y z way;
      }

  -- ---- over routes

  first_caller : (y : ℕ) (d z : Enclave) (r : Record) → r.dest ≡ Some d → r.origin.0 ≡ y → IsAhead G d.0 y → y ≢ d.0 → route_at G y d.0 ≡ Some z → IsToCaller G y z.0 r
  first_caller y d z r to from ahead other route =
      let more = ahead_over d.0 y z ahead other route in
      record {
        caller = d;
        is = to;
        sent = record { before = []; came = sym from; next = leading.routes y d.0 z route };
        after = more.after;
        ahead = more.ahead;
      }

  on_caller : (x y : ℕ) (z : Enclave) (r : Record) (to : IsToCaller G x y r) → y ≢ to.caller.0 → route_at G y to.caller.0 ≡ Some z → IsToCaller G y z.0 r
  on_caller x y z r to other route =
      let more = ahead_over to.caller.0 y z (record { after = to.after; ahead = to.ahead }) other route in
      record {
        caller = to.caller;
        is = to.is;
        sent = record { before = x ∷ to.sent.before; came = (to.sent.next, to.sent.came); next = leading.routes y to.caller.0 z route };
        after = more.after;
        ahead = more.ahead;
      }

-- ---- what lines send

pub sent_for_calls : (P : ℕ → ℕ → Record → Type 0) (line : Line) → Lacks all_but_calls line → SentBy P line
sent_for_calls P (lines.Sent x y r) none = absurd none
sent_for_calls P _ none = tt

plain_bound : (G : Facts) (a b : ℕ) (r : Record) (body : Body) → IsPlainBody body → BoundBy G a b r body
plain_bound G a b r bodies.Query plain = tt
plain_bound G a b r _ plain = search

free_line : (G : Facts) (line : Line) → IsFreeOfCalls line → SentBy (Bound G) line
free_line G (lines.Sent x y r) free = plain_bound G x.0 y.0 r r.body free
free_line G _ free = tt

pub sent_free : (G : Facts) (ls : List Line) → AreFreeOfCalls ls → AreSent (Bound G) ls
sent_free G ls free = all_more IsFreeOfCalls (SentBy (Bound G)) ls free (free_line G)

-- the holder has no way to the name server
pub server_way : (G : Facts) (y z : Enclave) → way_to (view_of G y) Server ≡ Some z → way_at G y.0 ≡ Some z
server_way G y z is = by (view_of G y).core.holder is
  where
    by : (t : Bool) → cond t None (way_at G y.0) ≡ Some z → way_at G y.0 ≡ Some z
    by true is = cc
    by false is = is

-- a route that is known serves first
pub route_way : (G : Facts) (y d z : Enclave) → is_some (route_at G y.0 d.0) ≡ true → way_to (view_of G y) (To d) ≡ Some z → route_at G y.0 d.0 ≡ Some z
route_way G y d z some is = by (route_at G y.0 d.0) refl some
  where
    by : (route : Option Enclave) → route_at G y.0 d.0 ≡ route → is_some route ≡ true → route_at G y.0 d.0 ≡ Some z
    by None none some = cc
    by (Some w) there some = there ∙ let first : Some w ≡ Some z = rw there at is in first

-- ---- a record that was got

module _ (tree : TreePaths) (G : Facts) (rooted : IsRooted (parent_of G)) (roads : AreRoads G) (leading : IsLeading G) (x y : Enclave) (r : Record) where
  abbrev pub v : View
  v = view_of G y

  bound_request : r.body ≡ bodies.NameReq → BoundBy G x.0 y.0 r bodies.NameReq → AreSent (Bound G) (body_lines v x r bodies.NameReq)
  bound_request body is = by v.core.holder refl
    where
      foreign : r.origin.0 ≢ y.0
      foreign = is_foreign tree G rooted is.0.holder r.origin.0 x.0 y.0 is.0.sent

      named : holds G y.0 ≡ true → (z : Enclave) → way_to v (To r.origin) ≡ Some z → Bound G y.0 z.0 (named_record y r.origin r.call (next_segid v.names))
      named held z way =
          let ahead = reached_ahead G roads leading r.origin.0 y.0 is.1 held in
          let other : y.0 ≢ r.origin.0 = λ same. foreign (sym same) in
          first_caller G roads leading y.0 r.origin z (named_record y r.origin r.call (next_segid v.names)) refl refl ahead other
          (route_way G y r.origin z (ahead_some G r.origin.0 y.0 ahead other) way)

      by : (t : Bool) → v.core.holder ≡ t → AreSent (Bound G) (cond t (name_lines v r.origin r.call) (send_lines v (Some x) Server r))
      by true held = each_name (SentBy (Bound G)) (sent_for_calls (Bound G)) v r.origin r.call (named (sym (ns_is (G.enclave y.0)) ∙ held))
      by false held = each_sent (SentBy (Bound G)) (sent_for_calls (Bound G)) v (Some x) Server r
          (λ z way. subst (BoundBy G y.0 z.0 r) (sym body) (on_server G roads leading r.origin.0 x.0 y.0 z (server_way G y z way) is.0, is.1))

  bound_name : (segid : Segid) → r.body ≡ bodies.Named segid → IsToCaller G x.0 y.0 r → AreSent (Bound G) (body_lines v x r (bodies.Named segid))
  bound_name segid body is = subst (λ dest. AreSent (Bound G) (named_to v x r segid dest)) (sym is.is) (by (eqb is.caller.0 y.0) refl)
    where
      by : (t : Bool) → eqb is.caller.0 y.0 ≡ t → AreSent (Bound G) (cond t (named_lines v r.call segid) (send_lines v (Some x) (To is.caller) r))
      by true here = each_named (SentBy (Bound G)) (sent_for_calls (Bound G)) v r.call segid
      by false there =
          let other : y.0 ≢ is.caller.0 = λ same. eqb-false is.caller.0 y.0 there (sym same) in
          let ahead : IsAhead G is.caller.0 y.0 = record { after = is.after; ahead = is.ahead } in
          each_sent (SentBy (Bound G)) (sent_for_calls (Bound G)) v (Some x) (To is.caller) r
          (λ z way. subst (BoundBy G y.0 z.0 r) (sym body) (on_caller G roads leading x.0 y.0 z r is other
          (route_way G y is.caller z (ahead_some G is.caller.0 y.0 ahead other) way)))

  bound_unname : (segid : Segid) → r.body ≡ bodies.Unname segid → IsToServer G r.origin.0 x.0 y.0 → AreSent (Bound G) (body_lines v x r (bodies.Unname segid))
  bound_unname segid body is =
      each_either (SentBy (Bound G)) v.core.holder (unname_lines v r.origin segid) (send_lines v (Some x) Server r) (each_unname (SentBy (Bound G)) (sent_for_calls (Bound G)) v r.origin segid)
      (each_sent (SentBy (Bound G)) (sent_for_calls (Bound G)) v (Some x) Server r (λ z way. subst (BoundBy G y.0 z.0 r) (sym body) (on_server G roads leading r.origin.0 x.0 y.0 z (server_way G y z way) is)))

  bound_body : (body : Body) → r.body ≡ body → BoundBy G x.0 y.0 r body → AreSent (Bound G) (body_lines v x r body)
  bound_body bodies.NameReq is bound = bound_request is bound
  bound_body (bodies.Named segid) is bound = bound_name segid is bound
  bound_body (bodies.Unname segid) is bound = bound_unname segid is bound
  bound_body body is bound = sent_free G (body_lines v x r body) (free_body v x r body (subst IsPlainBody (sym is) tt) tt)

  pub bound_handled : Bound G x.0 y.0 r → AreSent (Bound G) (handled_lines v x r)
  bound_handled bound = (tt, each_either (SentBy (Bound G)) (is_stray v r) (drop_lines v) (body_lines v x r r.body) (tt, tt) (bound_body r.body refl bound))
