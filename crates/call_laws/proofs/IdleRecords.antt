-- A record of a call that is got goes on, is answered, or ends its call: none is lost.
use Rattle.std.proofs.Common.{◌≡◌, ◌≢◌, ℕ, List, [], ◌∷◌, Bool, true, false, cond, ◌&&◌, ◌||◌, eqb, Option, None, Some, is_none, refl, sym, ap, ◌∙◌}
use Rattle.std.specs.List.{list_any}
use Rattle.std.specs.Option.{option_map_or}
use Rattle.std.proofs.lemmas.Bool.{and_parts, and_from, eqb-true, eq-eqb, ne_eqb, or_from}
use Rattle.xm_num.specs.declared.Enclave.{Enclave}
use Rattle.xm_num.specs.declared.Segid.{Segid}
use Rattle.xm_num.specs.Rows.{at}
use Rattle.xemem_language.specs.declared.record.Record.{Record}
use Rattle.xemem_language.specs.declared.record.Body.{Body}
use Rattle.xemem_language.specs.declared.record.Body.TheVariants as bodies
use Rattle.xemem_language.specs.declared.line.Line.{Line}
use Rattle.xemem_language.specs.declared.line.Line.TheVariants as lines
use Rattle.xemem_wire.specs.Spelling.{is_valid}
use Rattle.attach_map.specs.declared.Waiting.{Waiting}
use Rattle.exporter_pins.specs.Holdings.{Export, has_segid, live_export}
use Rattle.name_server.specs.Names.{has_name}
use Rattle.enclave_rules.specs.Exports.{is_segid, segid_number}
use Rattle.enclave_rules.specs.View.{View}
use Rattle.enclave_rules.specs.Segments.{named_lines, takes_name, unname_lines}
use Rattle.enclave_rules.specs.Sending.{Goal, drop_lines, made_lines, over_lines, send_lines, way_to}
use Rattle.enclave_rules.specs.Steps.{is_stray, knows_dead}
use Rattle.global_model.specs.Facts.{Facts}
use Rattle.global_model.specs.Views.{view_of}
use Rattle.call_laws.specs.Cells.{cells, has_drawn, is_cell}
use Rattle.call_laws.specs.Flights.{is_of_by}
use Rattle.call_laws.proofs.CellLines.{AreOnes, drawn_is}
use Rattle.call_laws.proofs.ExportLines.{IsExports, IsLive, IsLiveRow}
use Rattle.call_laws.proofs.Rows.{found_has}
use Rattle.call_laws.proofs.Tied.{IsPlainBody}

-- ---- the call of a record is one

pair_only : (o c e k f j : ℕ) → (eqb o e && eqb c k) ≡ true → is_cell f j e k ≡ false → (eqb o f && eqb c j) ≡ false
pair_only o c e k f j own apart = by (eqb o f && eqb c j) refl
  where
    by : (t : Bool) → (eqb o f && eqb c j) ≡ t → t ≡ false
    by false is = refl
    by true is =
        let here = and_parts (eqb o e) (eqb c k) own in
        let there = and_parts (eqb o f) (eqb c j) is in
        let enclave : f ≡ e = sym (eqb-true o f there.0) ∙ eqb-true o e here.0 in
        let call : k ≡ j = sym (eqb-true c k here.1) ∙ eqb-true c j there.1 in
        let same : is_cell f j e k ≡ true = and_from (eqb f e) (eqb k j) (eq-eqb f e enclave) (eq-eqb k j call) in
        let clash : true ≡ false = sym same ∙ apart in
        absurd (cc)

pub of_one : (r : Record) (body : Body) (e k f j : ℕ) → is_of_by e k r body ≡ true → is_cell f j e k ≡ false → is_of_by f j r body ≡ false
of_one r bodies.NameReq e k f j own apart = pair_only r.origin.0 r.call e k f j own apart
of_one r (bodies.Named segid) e k f j own apart = by r.dest own
  where
    by : (dest : Option Enclave) → (option_map_or (λ (d : Enclave). eqb d.0 e) dest false && eqb r.call k) ≡ true
        → (option_map_or (λ (d : Enclave). eqb d.0 f) dest false && eqb r.call j) ≡ false
    by None own = refl
    by (Some d) own = pair_only d.0 r.call e k f j own apart
of_one r (bodies.Unname segid) e k f j own apart = pair_only r.origin.0 r.call e k f j own apart
of_one r _ e k f j own apart = refl

pub plain_none : (r : Record) (body : Body) (f j : ℕ) → IsPlainBody body → is_of_by f j r body ≡ false
plain_none r bodies.NameReq f j plain = absurd plain
plain_none r (bodies.Named segid) f j plain = absurd plain
plain_none r (bodies.Unname segid) f j plain = absurd plain
plain_none r _ f j plain = refl

-- a segid is of one call
pub apart_drawn : (past : List Line) (o k s : ℕ) → AreOnes past → (cells past o k).drew ≡ Some s → (f j : ℕ) → is_cell f j o k ≡ false → has_drawn s (cells past f j) ≡ false
apart_drawn past o k s ones drew f j apart = by (has_drawn s (cells past f j)) refl
  where
    by : (t : Bool) → has_drawn s (cells past f j) ≡ t → t ≡ false
    by false is = refl
    by true is =
        let one = ones.one f j o k s (drawn_is s (cells past f j) is) drew in
        let same : is_cell f j o k ≡ true = and_from (eqb f o) (eqb k j) (eq-eqb f o one.0) (eq-eqb k j (sym one.1)) in
        let clash : true ≡ false = sym same ∙ apart in
        absurd (cc)

-- ---- nothing is dropped

pub over_is : (v : View) (x z : Enclave) (over : Option Enclave) (r : Record) → over ≡ Some z → z.0 ≢ x.0 → over_lines v (Some x) over r ≡ lines.Sent v.me z r ∷ []
over_is v x z over r is apart =
    ap (λ o. over_lines v (Some x) o r) is ∙ ap (λ t. cond t (drop_lines v) (lines.Sent v.me z r ∷ [])) (ne_eqb z.0 x.0 apart)

pub made_is : (v : View) (goal : Goal) (z : Enclave) (r : Record) → is_valid r ≡ true → way_to v goal ≡ Some z → made_lines v goal r ≡ lines.Sent v.me z r ∷ []
made_is v goal z r valid way = ap (λ t. cond t (send_lines v None goal r) (drop_lines v)) valid ∙ ap (λ o. over_lines v None o r) way

pub stray_is : (G : Facts) (y : Enclave) (r : Record) → G.heard y.0 ≡ [] → r.origin.0 ≢ y.0 → is_stray (view_of G y) r ≡ false
stray_is G y r quiet foreign =
    or_from (eqb r.origin.0 y.0 || knows_dead (view_of G y) r.origin) (option_map_or (knows_dead (view_of G y)) r.dest false)
    (or_from (eqb r.origin.0 y.0) (knows_dead (view_of G y) r.origin) (ne_eqb r.origin.0 y.0 foreign) (alive r.origin)) (by r.dest)
  where
    alive : (e : Enclave) → knows_dead (view_of G y) e ≡ false
    alive e = ap (list_any (λ (d : Enclave). eqb d.0 e.0)) quiet

    by : (dest : Option Enclave) → option_map_or (knows_dead (view_of G y)) dest false ≡ false
    by None = refl
    by (Some d) = alive d

-- the name is taken where the call waits, its export is asked and none with that segid is live
pub none_live : (past : List Line) (e k s : ℕ) (rows : List (ℕ × Export)) → AreOnes past → IsExports (cells past e) rows → (cells past e k).drew ≡ Some s → (cells past e k).near ≡ false
    → is_none (live_export rows s) ≡ true
none_live past e k s rows ones all drew near = by (live_export rows s) refl
  where
    by : (found : Option (ℕ × Export)) → live_export rows s ≡ found → is_none found ≡ true
    by None is = refl
    by (Some first) is =
        let found = found_has (IsLiveRow (cells past e)) (λ row. has_segid s row.1.segid) rows first all.live is in
        let live = own found.has first.1.segid refl found.passes in
        let same = (ones.one e first.0 e k s live.drawn drew).1 in
        let clash : true ≡ false = sym live.near ∙ ap (λ n. (cells past e n).near) same ∙ near in
        absurd (cc)
      where
        own : IsLiveRow (cells past e) first → (segid : Option ℕ) → first.1.segid ≡ segid → has_segid s segid ≡ true → IsLive (cells past e first.0) s
        own has None is passes = cc
        own has (Some q) is passes = has s (is ∙ ap (λ n. Some n) (eqb-true q s passes))

pub named_is : (v : View) (k : ℕ) (segid : Segid) (w : Waiting) → at v.memory.waiting k ≡ Some w → takes_name v k segid w ≡ true
    → named_lines v k segid ≡ lines.Named v.me (record { 0 = k }) segid ∷ lines.AnswerSegid v.me w.pid (record { 0 = k }) segid ∷ []
named_is v k segid w found takes =
    ap (λ o. option_map_or (λ waiting. cond (takes_name v k segid waiting) (lines.Named v.me (record { 0 = k }) segid ∷ lines.AnswerSegid v.me waiting.pid (record { 0 = k }) segid ∷ []) (drop_lines v)) o (drop_lines v)) found
    ∙ ap (λ t. cond t (lines.Named v.me (record { 0 = k }) segid ∷ lines.AnswerSegid v.me w.pid (record { 0 = k }) segid ∷ []) (drop_lines v)) takes

pub unname_is : (v : View) (owner : Enclave) (segid : Segid) → is_segid segid ≡ true → at v.names.pairs (segid_number segid) ≡ Some owner → unname_lines v owner segid ≡ lines.Unnamed segid ∷ []
unname_is v owner segid fits found =
    ap (λ t. cond t (lines.Unnamed segid ∷ []) (drop_lines v))
    (and_from (is_segid segid) (has_name v.names (segid_number segid) owner) fits (ap (λ o. option_map_or (λ of. eqb of.0 owner.0) o false) found ∙ eq-eqb owner.0 owner.0 refl))
