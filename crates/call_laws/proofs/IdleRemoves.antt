-- What an enclave writes for a remove leaves each call idle or on its way.
use Rattle.std.proofs.Common.{◌≡◌, ◌≤◌, ◌<◌, ◌^◌, ℕ, List, [], ◌∷◌, Bool, true, false, cond, eqb, None, Some, inl, inr, refl, sym, ap, ◌∙◌, subst, arith}
use Rattle.std.specs.Option.{option_map_or}
use Rattle.std.proofs.lemmas.Bool.{and_from, eq-eqb, cases_Bool}
use Rattle.xm_num.specs.declared.Enclave.{Enclave}
use Rattle.xm_num.specs.declared.Segid.{Segid}
use Rattle.xm_num.specs.Rows.{at}
use Rattle.xemem_language.specs.declared.line.Line.{Line}
use Rattle.xemem_language.specs.declared.line.Line.TheVariants as lines
use Rattle.xemem_wire.specs.Spelling.{is_valid}
use Rattle.enclave_rules.specs.Exports.{is_segid, segid_number}
use Rattle.enclave_rules.specs.View.{View}
use Rattle.enclave_rules.specs.Segments.{unname_lines}
use Rattle.enclave_rules.specs.Sending.{Server, made_lines, way_to}
use Rattle.global_model.specs.Facts.{Facts, facts_at}
use Rattle.global_model.specs.Journals.{Follows, onto}
use Rattle.global_model.specs.Views.{view_of}
use Rattle.discovery_laws.specs.Known.{way_at}
use Rattle.call_laws.specs.Cells.{as_forgotten, cells, has_drawn, is_cell}
use Rattle.call_laws.specs.Laws.{CallRows}
use Rattle.call_laws.specs.Places.{HasRoom}
use Rattle.call_laws.proofs.CellLines.{drawn_has, unissued}
use Rattle.call_laws.proofs.ExportLines.{IsLive}
use Rattle.call_laws.proofs.Handled.{ns_is}
use Rattle.call_laws.proofs.Idle.{AreIdle, Settles, Spares, settled, settles_end, settles_first, settles_sent}
use Rattle.call_laws.proofs.Tied.{IsTied, KeepsAt, tied_line}
use Rattle.std.proofs.lemmas.Bool.{and_right, leb-true, leb-false}
use Rattle.std.proofs.Common.{leb}
use Rattle.call_laws.specs.Cells.{as_near}
use Rattle.call_laws.proofs.Idle.{IsIdleCell}
use Rattle.enclave_rules.specs.Segments.{make_of, remove_acts, unname_record}
use Rattle.global_model.specs.Refusals.{has_segment}
use Rattle.discovery_laws.specs.Known.{knows}
use Rattle.call_laws.proofs.Asks.{cell_removed, first, goes_remove, issued_once, live}
use Rattle.call_laws.proofs.IdleRecords.{apart_drawn, made_is, unname_is}
use Rattle.call_laws.proofs.Room.{valid_unname}
use Rattle.call_laws.proofs.Tied.{AreNearAnswered}
use Rattle.call_laws.proofs.IdleAsks.{IsWay, way_of}

module _ (rows : CallRows) (past : List Line) (e : Enclave) (segid : Segid) (tied : IsTied past) (answered : AreNearAnswered past)
    (has : has_segment (facts_at past) e.0 (segid_number segid) ≡ true) (number : e.0 ≤ 255) (fits : is_segid segid ≡ true) where
  abbrev pub G : Facts
  G = facts_at past

  abbrev pub v : View
  v = view_of (facts_at past) e

  abbrev pub s : ℕ
  s = segid_number segid

  abbrev pub made : ℕ
  made = (first rows past e segid tied answered has).first.0

  abbrev pub removed : List Line
  removed = lines.Remove e segid ∷ past

  is_live : IsLive (cells past e.0 made) s
  is_live = live rows past e segid tied answered has

  cell : cells removed e.0 made ≡ as_near false (cells past e.0 made)
  cell = cell_removed rows past e segid tied answered has

  keeps : Follows KeepsAt past (remove_acts v segid)
  keeps = (goes_remove rows past e segid tied answered has).keeps

  after : IsTied removed
  after = tied_line rows past (lines.Remove e segid) keeps.0 tied

  spares_removed : (f j : ℕ) → is_cell f j e.0 made ≡ false → Spares f j past (lines.Remove e segid)
  spares_removed f j apart = and_right (eqb f e.0) (has_drawn s (cells past f j)) (apart_drawn past e.0 made s tied.ones is_live.drawn f j apart)

  drew_removed : (cells removed e.0 made).drew ≡ Some s
  drew_removed = ap (λ c. c.drew) cell ∙ is_live.drawn

  -- its name is forgotten at once
  remove_forgotten : v.core.holder ≡ true → Settles past (remove_acts v segid) e.0 made
  remove_forgotten held =
      subst (λ ls. Settles past (lines.Remove e segid ∷ ls) e.0 made) (sym lines_are)
      (settles_first past (lines.Remove e segid) (lines.Unnamed segid ∷ []) e.0 made spares_removed
      (settles_first removed (lines.Unnamed segid) [] e.0 made (apart_drawn removed e.0 made s after.ones drew_removed)
      (settles_end (lines.Unnamed segid ∷ removed) e.0 made (subst (λ t. IsIdleCell (cond t (as_forgotten (cells removed e.0 made)) (cells removed e.0 made))) (sym (drawn_has s (cells removed e.0 made) drew_removed)) (record {
        waits = ap (λ c. c.waits) cell ∙ answered e.0 made is_live.near;
        even = sym (ap (λ c. c.near) cell);
      })))))
    where
      found : at v.names.pairs s ≡ Some e
      found = ap (λ n. at (G.names n).pairs s) (sym (tied.server.holder e.0 (sym (ns_is (G.enclave e.0)) ∙ held)).0)
          ∙ tied.names e.0 made s is_live.drawn (tied.only.stands e.0 made is_live.near)

      lines_are : cond v.core.holder (unname_lines v e segid) (made_lines v Server (unname_record e (make_of v.exports s) segid)) ≡ lines.Unnamed segid ∷ []
      lines_are = ap (λ t. cond t (unname_lines v e segid) (made_lines v Server (unname_record e (make_of v.exports s) segid))) held ∙ unname_is v e segid fits found

  -- the name server is told
  remove_sent : v.core.holder ≡ false → knows G e.0 ≡ true → 1 ≤ made → made < 2 ^ 32 → Settles past (remove_acts v segid) e.0 made
  remove_sent held knowing some few =
      subst (λ ls. Settles past (lines.Remove e segid ∷ ls) e.0 made) (sym lines_are)
      (settles_first past (lines.Remove e segid) (lines.Sent e way.over (unname_record e (make_of v.exports s) segid) ∷ []) e.0 made spares_removed
      (settles_sent removed e way.over (unname_record e (make_of v.exports s) segid) e.0 made after.only.bounded
      (and_from (eqb e.0 e.0) (eqb (make_of v.exports s) made) (eq-eqb e.0 e.0 refl) (eq-eqb (make_of v.exports s) made call_is))))
    where
      call_is : make_of v.exports s ≡ made
      call_is = ap (λ row. option_map_or (λ row. row.0) row 0) (first rows past e segid tied answered has).found

      way : IsWay G e.0
      way = way_of G e.0 knowing (sym (ns_is (G.enclave e.0)) ∙ held)

      over : way_to v Server ≡ Some way.over
      over = ap (λ t. cond t None (way_at G e.0)) held ∙ way.is

      valid : is_valid (unname_record e (make_of v.exports s) segid) ≡ true
      valid = subst (λ n. is_valid (unname_record e n segid) ≡ true) (sym call_is) (valid_unname e made segid number some few fits)

      lines_are : cond v.core.holder (unname_lines v e segid) (made_lines v Server (unname_record e (make_of v.exports s) segid))
          ≡ lines.Sent e way.over (unname_record e (make_of v.exports s) segid) ∷ []
      lines_are = ap (λ t. cond t (unname_lines v e segid) (made_lines v Server (unname_record e (make_of v.exports s) segid))) held
          ∙ made_is v Server way.over (unname_record e (make_of v.exports s) segid) valid over

  pub idle_remove : knows G e.0 ≡ true → ((of : ℕ) → (cells past of 0).issued ≡ false) → HasRoom past → AreIdle past → AreIdle (onto (remove_acts (view_of (facts_at past) e) segid) past)
  idle_remove knowing zero room idle = settled rows past (remove_acts v segid) e.0 made keeps tied (by v.core.holder refl) idle
    where
      issued : (cells past e.0 made).issued ≡ true
      issued = issued_once rows past e segid tied answered has

      some : 1 ≤ made
      some = elim (cases_Bool (leb 1 made)) [
        | inl is ↦ leb-true 1 made is
        | inr none ↦ absurd (
            let low = leb-false 1 made none in
            let same : made ≡ 0 = omega (arith, low) in
            let clash : true ≡ false = sym issued ∙ ap (λ n. (cells past e.0 n).issued) same ∙ zero e.0 in
            cc)
      ]

      few : made < 2 ^ 32
      few = elim (cases_Bool (leb made (G.memory e.0).issued)) [
        | inl is ↦ (let le = leb-true made (G.memory e.0).issued is in let most = room.calls e.0 in omega (arith, le, most))
        | inr none ↦ absurd (
            let more = leb-false made (G.memory e.0).issued none in
            let clash : true ≡ false = sym issued ∙ unissued past e.0 made (tied.fresh e.0 made (omega (arith, more))) in
            cc)
      ]

      by : (t : Bool) → v.core.holder ≡ t → Settles past (remove_acts v segid) e.0 made
      by true held = remove_forgotten held
      by false held = remove_sent held knowing some few
