-- What an enclave makes of a record that it got is lawful.
use Rattle.std.proofs.Common.{◌≡◌, ◌+◌, ℕ, List, [], ◌∷◌, ◌++◌, filter, Bool, true, false, cond, ◌&&◌, eqb, Option, None, Some, is_none, refl, sym, ap, ◌∙◌, subst, inl, inr}
use Rattle.std.specs.List.{AllByRecursion}
use Rattle.std.specs.Option.{option_map_or}
use Rattle.std.proofs.lemmas.Bool.{and_parts, and_from, eqb-true, eq-eqb, or_parts}
use Rattle.xm_num.specs.declared.Enclave.{Enclave}
use Rattle.xm_num.specs.declared.Segid.{Segid}
use Rattle.xm_num.specs.Rows.{at, less}
use Rattle.xemem_language.specs.declared.record.Record.{Record}
use Rattle.xemem_language.specs.declared.record.Body.{Body}
use Rattle.xemem_language.specs.declared.record.Body.TheVariants as bodies
use Rattle.xemem_language.specs.declared.line.Line.{Line}
use Rattle.xemem_language.specs.declared.line.Line.TheVariants as lines
use Rattle.attach_map.specs.declared.Pending.TheVariants as pendings
use Rattle.attach_map.specs.declared.Waiting.{Waiting}
use Rattle.exporter_pins.specs.Holdings.{is_asked, live_export}
use Rattle.name_server.specs.Names.{NamesState, has_name}
use Rattle.enclave_rules.specs.Exports.{segid_number, is_segid}
use Rattle.enclave_rules.specs.Names.{can_draw, next_segid}
use Rattle.enclave_rules.specs.View.{View}
use Rattle.enclave_rules.specs.Ways.{place_among}
use Rattle.enclave_rules.specs.Segments.{drew_line, is_make, is_waiting_make, name_lines, named_lines, named_record, takes_name, unname_lines}
use Rattle.enclave_rules.specs.Sending.{Server, To, drop_lines, made_lines, send_lines, knows_way, way_to}
use Rattle.enclave_rules.specs.Steps.{admit_of, admit_over, admit_to, body_lines, handled_lines, here_of, is_stray, name_request_lines, named_to, record_lines, register_of, told_askers, unname_to}
use Rattle.global_model.specs.Facts.{EnclaveFact, Facts, fact_of, facts_at, is_holder, runs}
use Rattle.global_model.specs.Views.{view_of}
use Rattle.discovery_laws.specs.Known.{holds, in_flight}
use Rattle.call_laws.specs.Cells.{CallCell, as_drawn, cells}
use Rattle.call_laws.specs.Flights.{FitsBy, IsFit, IsNowhere, IsSingle, is_of, is_of_by}
use Rattle.call_laws.specs.Legal.{MayForget}
use Rattle.call_laws.specs.Laws.{CallRows}
use Rattle.call_laws.proofs.CellLines.{is_cell_itself}
use Rattle.call_laws.proofs.Each.{each_either, each_over, each_told}
use Rattle.call_laws.proofs.Rows.{all_append}
use Rattle.call_laws.proofs.MemoryLines.{make_is, make_row, waiting_row}
use Rattle.call_laws.specs.One.{IsPair}
use Rattle.call_laws.proofs.SentLines.{IsEnded, Tells, TellsBy}
use Rattle.call_laws.proofs.Requests.{RequestsOnce, all-behind, got_gone, got_same}
use Rattle.call_laws.proofs.Tied.{AreFreeOfCalls, GoesOn, IsFreeOfCalls, IsPlainBody, IsTied, answered_named, goes_free, goes_first, goes_made, goes_over, goes_quiet}

-- ---- records that say nothing of calls

free_admit_over : (v : View) (from d : Enclave) (r : Record) (over : Option Enclave) → IsPlainBody r.body → AreFreeOfCalls (admit_over v from d r over)
free_admit_over v from d r None plain = (tt, tt)
free_admit_over v from d r (Some over) plain = (tt, each_over IsFreeOfCalls v (Some from) (Some over) r tt (λ z way. plain))

free_admit : (v : View) (from : Enclave) (r : Record) (dest : Option Enclave) → IsPlainBody r.body → AreFreeOfCalls (admit_to v from r dest)
free_admit v from r None plain = (tt, tt)
free_admit v from r (Some d) plain =
    each_either IsFreeOfCalls (eqb d.0 v.me.0) (cond v.core.admitted (drop_lines v) (lines.Admitted v.me ∷ [])) (admit_over v from d r (at v.ways.backs d.0))
    (each_either IsFreeOfCalls v.core.admitted (drop_lines v) (lines.Admitted v.me ∷ []) (tt, tt) (tt, tt)) (free_admit_over v from d r (at v.ways.backs d.0) plain)

pub free_body : (v : View) (from : Enclave) (r : Record) (body : Body) → IsPlainBody r.body → IsPlainBody body → AreFreeOfCalls (body_lines v from r body)
free_body v from r bodies.Query plain is =
    each_either IsFreeOfCalls (knows_way v) (lines.Sent v.me from (here_of v.me) ∷ []) (lines.Asked v.me from ∷ []) (tt, tt) (tt, tt)
free_body v from r bodies.Here plain is =
    each_either IsFreeOfCalls (knows_way v) (drop_lines v)
    (lines.Way v.me from ∷ told_askers v (less v.ways.askers (place_among v.core.parent from)) ++ lines.Sent v.me from (register_of v.me) ∷ []) (tt, tt) (
      tt,
      all_append IsFreeOfCalls (told_askers v (less v.ways.askers (place_among v.core.parent from))) (lines.Sent v.me from (register_of v.me) ∷ [])
          (each_told IsFreeOfCalls v (less v.ways.askers (place_among v.core.parent from)) (λ x. tt)) (tt, tt),
    )
free_body v from r bodies.Register plain is = (
  tt,
  each_either IsFreeOfCalls v.core.holder (lines.Route v.me r.origin from ∷ lines.Sent v.me from (admit_of v.me r.origin) ∷ []) (send_lines v (Some from) Server r) (tt, (tt, tt))
      (each_over IsFreeOfCalls v (Some from) (way_to v Server) r tt (λ z way. plain)),
)
free_body v from r bodies.Admit plain is = free_admit v from r r.dest plain
free_body v from r bodies.NameReq plain is = absurd is
free_body v from r (bodies.Named segid) plain is = absurd is
free_body v from r (bodies.Unname segid) plain is = absurd is
free_body v from r _ plain is = (tt, tt)

-- ---- the holder

pub ns_is : (fact : Option EnclaveFact) → (fact_of fact).ns ≡ is_holder fact
ns_is None = refl
ns_is (Some fact) = refl

-- ---- the name of a segment

-- where the enclave has a waiting make under that number, it may be named
pub record IsNameable (past : List Line) (e : Enclave) (call : ℕ) (segid : Segid) (w : Waiting) : Type 0 where
  pub waits : (cells past e.0 call).waits ≡ true
  pub process : (cells past e.0 call).process ≡ w.pid.0
  pub running : runs (facts_at past) e.0 (cells past e.0 call).process ≡ true
  pub drawn : (cells past e.0 call).drew ≡ Some (segid_number segid)
  pub stands : (cells past e.0 call).far ≡ true
  pub nowhere : IsNowhere (facts_at past) e.0 call

pub goes_named : CallRows → (past : List Line) (v : View) (call : ℕ) (segid : Segid)
    → ((w : Waiting) → at v.memory.waiting call ≡ Some w → is_make w.what ≡ true → IsNameable past v.me call segid w) → GoesOn past (named_lines v call segid)
goes_named rows past v call segid may = by (at v.memory.waiting call) (λ w is. may w is)
  where
    named : (w : Waiting) → (t : Bool) → (t ≡ true → IsNameable past v.me call segid w)
        → GoesOn past (cond t (lines.Named v.me (record { 0 = call }) segid ∷ lines.AnswerSegid v.me w.pid (record { 0 = call }) segid ∷ []) (drop_lines v))
    named w true may =
        let ok : IsNameable past v.me call segid w = may refl in
        record {
          keeps = (
            record {
              legal = record { waits = ok.waits; process = ok.running; drawn = ok.drawn };
              next = tt;
              served = tt;
              sends = tt;
              once = (ok.nowhere, ok.stands);
              gives = tt;
            },
            (
              record {
                legal = record {
                  waits = rw (is_cell_itself v.me.0 call) ok.waits;
                  process = rw (is_cell_itself v.me.0 call) ok.process;
                  named = rw (is_cell_itself v.me.0 call) refl;
                  drawn = rw (is_cell_itself v.me.0 call) ok.drawn;
                };
                next = tt;
                served = tt;
                sends = tt;
                once = ok.nowhere;
                gives = tt;
              },
              tt,
            ),
          );
          answered = λ tied answered. answered_named past v.me w.pid (record { 0 = call }) segid segid answered;
        }
    named w false may = goes_free rows past (drop_lines v) (tt, tt)

    making : (w : Waiting) → takes_name v call segid w ≡ true → is_make w.what ≡ true
    making w takes =
        let rest = (and_parts (is_segid segid) (is_waiting_make w && (is_asked (at v.exports call) && is_none (live_export v.exports (segid_number segid)))) takes).1 in
        (and_parts w.living (is_make w.what) (and_parts (is_waiting_make w) (is_asked (at v.exports call) && is_none (live_export v.exports (segid_number segid))) rest).0).1

    by : (found : Option Waiting) → ((w : Waiting) → found ≡ Some w → is_make w.what ≡ true → IsNameable past v.me call segid w)
        → GoesOn past (option_map_or (λ waiting. cond (takes_name v call segid waiting) (lines.Named v.me (record { 0 = call }) segid ∷ lines.AnswerSegid v.me waiting.pid (record { 0 = call }) segid ∷ []) (drop_lines v)) found (drop_lines v))
    by None may = goes_free rows past (drop_lines v) (tt, tt)
    by (Some w) may = named w (takes_name v call segid w) (λ takes. may w refl (making w takes))

-- what waits by a cell
pub row_waits : (k : ℕ) (c : CallCell) (w : Waiting) → waiting_row k c ≡ Some w → (c.waits ≡ true) × (c.process ≡ w.pid.0)
row_waits k c w = by c.waits
  where
    row : Waiting
    row = record { call = record { 0 = k }; pid = record { 0 = c.process }; living = true; what = pendings.Make }

    by : (t : Bool) → cond t (Some row) None ≡ Some w → (t ≡ true) × (c.process ≡ w.pid.0)
    by true is = let same : row ≡ w = cc in (refl, ap (λ w. w.pid.0) same)
    by false is = cc

-- ---- a segid is forgotten

named_by : (n : NamesState) (s : ℕ) (owner : Enclave) (P : Type 0) → has_name n s owner ≡ true → ((of : Enclave) → at n.pairs s ≡ Some of → P) → P
named_by n s owner P has found = by (at n.pairs s) has found
  where
    by : (row : Option Enclave) → option_map_or (λ of. eqb of.0 owner.0) row false ≡ true → ((of : Enclave) → row ≡ Some of → P) → P
    by None has found = cc
    by (Some of) has found = found of refl

pub goes_forgotten : CallRows → (past : List Line) (v : View) (owner : Enclave) (segid : Segid) → holds (facts_at past) (facts_at past).holder.0 ≡ true
    → ((of : Enclave) → at v.names.pairs (segid_number segid) ≡ Some of → MayForget past (segid_number segid))
    → ((e k : ℕ) → (cells past e k).drew ≡ Some (segid_number segid) → IsNowhere (facts_at past) e k) → GoesOn past (unname_lines v owner segid)
goes_forgotten rows past v owner segid served may nowhere = by (is_segid segid && has_name v.names (segid_number segid) owner) refl
  where
    by : (t : Bool) → (is_segid segid && has_name v.names (segid_number segid) owner) ≡ t → GoesOn past (cond t (lines.Unnamed segid ∷ []) (drop_lines v))
    by true is =
        let has = (and_parts (is_segid segid) (has_name v.names (segid_number segid) owner) is).1 in
        goes_quiet rows past (lines.Unnamed segid ∷ []) (
          record {
            legal = named_by v.names (segid_number segid) owner (MayForget past (segid_number segid)) has may;
            next = tt;
            served = served;
            sends = tt;
            once = nowhere;
            gives = tt;
          },
          tt,
        ) (tt, tt)
    by false is = goes_free rows past (drop_lines v) (tt, tt)

-- one that stands, of a call that has ended
pub may_forget : (past : List Line) (s e k : ℕ) {P : Enclave → Type 0} → ((of : Enclave) → P of → IsPair (cells past) s of.0)
    → ((e k e' k' s : ℕ) → (cells past e k).drew ≡ Some s → (cells past e' k').drew ≡ Some s → (e ≡ e') × (k ≡ k'))
    → IsEnded (cells past e k) s → (of : Enclave) → P of → MayForget past s
may_forget past s e k pairs one ended of found =
    let pair = pairs of found in
    record {
      enclave = of.0;
      call = pair.call;
      drawn = pair.drawn;
      stands = pair.stands;
      ended = λ f j is.
          let same = one f j e k s is ended.drawn in
          subst (λ n. ((cells past n j).near ≡ false) × ((cells past n j).waits ≡ false)) (sym same.0)
          (subst (λ n. ((cells past e n).near ≡ false) × ((cells past e n).waits ≡ false)) (sym same.1) (ended.near, ended.waits));
    }

-- ---- a record that was got

module _ (rows : CallRows) (past : List Line) (x y : Enclave) (r : Record) (behind : List Record) (tied : IsTied past) (tells : Tells (cells past) r)
    (next : in_flight (facts_at past) x.0 y.0 ≡ r ∷ behind) (foreign : eqb r.origin.0 y.0 ≡ false) where
  abbrev pub G : Facts
  G = facts_at past

  abbrev pub v : View
  v = view_of (facts_at past) y

  abbrev pub after : List Line
  after = lines.Got x y ∷ past

  holder_holds : v.core.holder ≡ true → holds (facts_at past) y.0 ≡ true
  holder_holds is = sym (ns_is ((facts_at past).enclave y.0)) ∙ is

  -- a record of a call was the only one under way, and its cell fits it; now none is
  pub got_fits : (e k : ℕ) → is_of e k r ≡ true → IsNowhere (facts_at (lines.Got x y ∷ past)) e k × FitsBy (cells past e k) r.body
  got_fits e k is = by (tied.only.only e k)
    where
      by : IsSingle past e k → IsNowhere (facts_at (lines.Got x y ∷ past)) e k × FitsBy (cells past e k) r.body
      by (inl none) = absurd (
          let first : filter (is_of e k) (r ∷ behind) ≡ [] = ap (filter (is_of e k)) (sym next) ∙ none x.0 y.0 in
          let clash : r ∷ filter (is_of e k) behind ≡ [] = rw is at first in
          cc)
      by (inr one) = (
        got_gone (is_of e k) (facts_at past) x y r behind one.from one.to one.rec next one.flight is,
        subst (λ (q : Record). FitsBy (cells past e k) q.body) (got_same (is_of e k) (facts_at past) x y r behind one.from one.to one.rec next one.flight is) one.fits,
      )

  fits_as : (body : Body) → r.body ≡ body → (e k : ℕ) → is_of e k r ≡ true → FitsBy (cells past e k) body
  fits_as body is e k of = subst (FitsBy (cells past e k)) is (got_fits e k of).1

  goes_request : r.body ≡ bodies.NameReq → (Tells (cells past) r → ((cells past r.origin.0 r.call).issued ≡ true) × (r.dest ≡ None))
      → GoesOn (lines.Got x y ∷ past) (name_request_lines v x r)
  goes_request body reads = by v.core.holder refl
    where
      told : ((cells past r.origin.0 r.call).issued ≡ true) × (r.dest ≡ None)
      told = reads tells

      request : is_of r.origin.0 r.call r ≡ true
      request = ap (is_of_by r.origin.0 r.call r) body ∙ (rw (eq-eqb r.origin.0 r.origin.0 refl, eq-eqb r.call r.call refl) refl)

      named_once : is_of r.origin.0 r.call r ≡ true
          → RequestsOnce (drew_line v r.origin r.call ∷ lines.Got x y ∷ past) (named_record y r.origin r.call (next_segid v.names))
      named_once request e k is =
          let P : ℕ → ℕ → Type 0 = λ e k. IsNowhere (facts_at (drew_line v r.origin r.call ∷ lines.Got x y ∷ past)) e k
          × IsFit (cells (drew_line v r.origin r.call ∷ lines.Got x y ∷ past) e k) true false true (Some (segid_number (next_segid v.names))) in
          let both = and_parts (eqb r.origin.0 e) (eqb r.call k) is in
          let fit = fits_as bodies.NameReq body r.origin.0 r.call request in
          let now : cells (drew_line v r.origin r.call ∷ lines.Got x y ∷ past) r.origin.0 r.call ≡ as_drawn (segid_number (next_segid v.names)) (cells past r.origin.0 r.call)
          = ap (λ t. cond t (as_drawn (segid_number (next_segid v.names)) (cells past r.origin.0 r.call)) (cells past r.origin.0 r.call)) (is_cell_itself r.origin.0 r.call) in
          subst (λ n. P n k) (eqb-true r.origin.0 e both.0) (subst (λ n. P r.origin.0 n) (eqb-true r.call k both.1) (
            (got_fits r.origin.0 r.call request).0,
            record {
              waits_is = ap (λ c. c.waits) now ∙ fit.waits_is;
              near_is = ap (λ c. c.near) now ∙ fit.near_is;
              far_is = ap (λ c. c.far) now;
              drew_is = ap (λ c. c.drew) now;
            },
          ))

      drawn : holds (facts_at past) y.0 ≡ true → (t : Bool)
          → GoesOn (lines.Got x y ∷ past) (cond t (drew_line v r.origin r.call ∷ made_lines v (To r.origin) (named_record v.me r.origin r.call (next_segid v.names))) (drop_lines v))
      drawn holder true =
          let home = (tied.server.holder y.0 holder).0 in
          goes_first rows (lines.Got x y ∷ past) (drew_line v r.origin r.call) (made_lines v (To r.origin) (named_record v.me r.origin r.call (next_segid v.names)))
          (record {
            legal = record {
              issued = told.0;
              first = (fits_as bodies.NameReq body r.origin.0 r.call request).drew_is;
              next = ap (λ n. n + 1) (tied.server.count y.0 holder);
            };
            next = tt;
            served = subst (λ h. holds (facts_at past) h ≡ true) (sym home) holder;
            sends = tt;
            once = (got_fits r.origin.0 r.call request).0;
            gives = (fits_as bodies.NameReq body r.origin.0 r.call request).near_is;
          }) tt
          (goes_made rows (drew_line v r.origin r.call ∷ lines.Got x y ∷ past) v (To r.origin) (named_record v.me r.origin r.call (next_segid v.names))
          (λ d is. let same : r.origin ≡ d = cc in
          subst (λ d. (cells (drew_line v r.origin r.call ∷ lines.Got x y ∷ past) d.0 r.call).drew ≡ Some (segid_number (next_segid v.names))) same
          (rw (is_cell_itself r.origin.0 r.call) refl)) (named_once request))
      drawn holder false = goes_free rows (lines.Got x y ∷ past) (drop_lines v) (tt, tt)

      by : (t : Bool) → v.core.holder ≡ t → GoesOn (lines.Got x y ∷ past) (cond t (name_lines v r.origin r.call) (send_lines v (Some x) Server r))
      by true is = drawn (holder_holds is) (can_draw v.names)
      by false is = goes_over rows (lines.Got x y ∷ past) v (Some x) (way_to v Server) r tells got_fits

  goes_name : (segid : Segid) → r.body ≡ bodies.Named segid → (dest : Option Enclave) → r.dest ≡ dest → ((d : Enclave) → dest ≡ Some d → (cells past d.0 r.call).drew ≡ Some (segid_number segid))
      → GoesOn (lines.Got x y ∷ past) (named_to v x r segid dest)
  goes_name segid body None to told = goes_free rows (lines.Got x y ∷ past) (drop_lines v) (tt, tt)
  goes_name segid body (Some d) to told = by (eqb d.0 y.0) refl
    where
      by : (t : Bool) → eqb d.0 y.0 ≡ t → GoesOn (lines.Got x y ∷ past) (cond t (named_lines v r.call segid) (send_lines v (Some x) (To d) r))
      by true is = goes_named rows (lines.Got x y ∷ past) v r.call segid (λ w found is_one.
          let own : is_of y.0 r.call r ≡ true = ap (is_of_by y.0 r.call r) body
          ∙ (λ i. option_map_or (λ (d : Enclave). eqb d.0 y.0) (to i) false && eqb r.call r.call) ∙ and_from (eqb d.0 y.0) (eqb r.call r.call) is (eq-eqb r.call r.call refl) in
          let row = row_waits r.call (cells past y.0 r.call) w (sym ((tied.memory y.0).waiting r.call) ∙ (ap make_row found ∙ make_is w is_one)) in
          record {
            waits = row.0;
            process = row.1;
            running = (tied.memory y.0).runs r.call row.0;
            drawn = subst (λ e. (cells past e r.call).drew ≡ Some (segid_number segid)) (eqb-true d.0 y.0 is) (told d refl);
            stands = (fits_as (bodies.Named segid) body y.0 r.call own).far_is;
            nowhere = (got_fits y.0 r.call own).0;
          })
      by false is = goes_over rows (lines.Got x y ∷ past) v (Some x) (way_to v (To d)) r tells got_fits

  -- what is to be forgotten has ended, and no other call has its segid
  goes_unname : (segid : Segid) → r.body ≡ bodies.Unname segid → IsEnded (cells past r.origin.0 r.call) (segid_number segid) → GoesOn (lines.Got x y ∷ past) (unname_to v x r segid)
  goes_unname segid body ended = by v.core.holder refl
    where
      own : is_of r.origin.0 r.call r ≡ true
      own = ap (is_of_by r.origin.0 r.call r) body ∙ and_from (eqb r.origin.0 r.origin.0) (eqb r.call r.call) (eq-eqb r.origin.0 r.origin.0 refl) (eq-eqb r.call r.call refl)

      nowhere : (e k : ℕ) → (cells past e k).drew ≡ Some (segid_number segid) → IsNowhere (facts_at (lines.Got x y ∷ past)) e k
      nowhere e k drew =
          let same = tied.ones.one r.origin.0 r.call e k (segid_number segid) ended.drawn drew in
          subst (λ n. IsNowhere (facts_at (lines.Got x y ∷ past)) n k) same.0
          (subst (λ n. IsNowhere (facts_at (lines.Got x y ∷ past)) r.origin.0 n) same.1 (got_fits r.origin.0 r.call own).0)

      by : (t : Bool) → v.core.holder ≡ t → GoesOn (lines.Got x y ∷ past) (cond t (unname_lines v r.origin segid) (send_lines v (Some x) Server r))
      by true is =
          let holder = holder_holds is in
          goes_forgotten rows (lines.Got x y ∷ past) v r.origin segid
          (subst (λ h. holds (facts_at past) h ≡ true) (sym (tied.server.holder y.0 holder).0) holder)
          (may_forget (lines.Got x y ∷ past) (segid_number segid) r.origin.0 r.call (tied.server.pairs y.0 (segid_number segid)) tied.ones.one ended) nowhere
      by false is = goes_over rows (lines.Got x y ∷ past) v (Some x) (way_to v Server) r tells got_fits

  goes_by : (body : Body) → r.body ≡ body → TellsBy (cells past) r body → GoesOn (lines.Got x y ∷ past) (body_lines v x r body)
  goes_by bodies.NameReq is told = goes_request is (λ t. told)
  goes_by (bodies.Named segid) is told = goes_name segid is r.dest refl told
  goes_by (bodies.Unname segid) is told = goes_unname segid is told
  goes_by body is told = goes_free rows (lines.Got x y ∷ past) (body_lines v x r body) (free_body v x r body (subst IsPlainBody (sym is) tt) tt)

pub goes_handled : CallRows → (past : List Line) (x y : Enclave) (r : Record) (behind : List Record) → IsTied past → in_flight (facts_at past) x.0 y.0 ≡ r ∷ behind
    → GoesOn past (handled_lines (view_of (facts_at past) y) x r)
goes_handled rows past x y r behind tied next =
    goes_first rows past (lines.Got x y) (record_lines (view_of (facts_at past) y) x r) (record { legal = tt; next = tt; served = tt; sends = tt; once = (r, record { others = behind; is = next }); gives = tt }) tt (by (is_stray v r) refl)
  where
    v : View
    v = view_of (facts_at past) y

    tells : Tells (cells past) r
    tells =
        let all = all-behind (Tells (cells past)) ((facts_at past).channel x.0 y.0).got ((facts_at past).channel x.0 y.0).sent (tied.told x.0 y.0) in
        let first : AllByRecursion (Tells (cells past)) (r ∷ behind) = subst (AllByRecursion (Tells (cells past))) next all in
        first.0

    by : (t : Bool) → is_stray v r ≡ t → GoesOn (lines.Got x y ∷ past) (cond t (drop_lines v) (body_lines v x r r.body))
    by true is = goes_free rows (lines.Got x y ∷ past) (drop_lines v) (tt, tt)
    by false is =
        let foreign : eqb r.origin.0 y.0 ≡ false = (or_parts _ _ (or_parts _ _ is).0).0 in
        goes_by rows past x y r behind tied tells next foreign r.body refl tells
