-- The live exports of an enclave are of calls whose cells say so.
use Rattle.std.proofs.Common.{◌≡◌, ℕ, List, ◌∷◌, Bool, true, false, cond, ◌&&◌, eqb, Option, None, Some, refl, sym, ap, ◌∙◌, subst}
use Rattle.std.specs.List.{AllByRecursion}
use Rattle.std.specs.Option.{option_map_or}
use Rattle.std.proofs.lemmas.Bool.{eqb-true, eq-eqb}
use Rattle.xm_num.specs.declared.CallNo.{CallNo}
use Rattle.xm_num.specs.Rows.{at, less, put}
use Rattle.xemem_language.specs.declared.call.Call.{Call}
use Rattle.xemem_language.specs.declared.call.Call.TheVariants as calls
use Rattle.xemem_language.specs.declared.line.Line.{Line}
use Rattle.xemem_language.specs.declared.line.Line.TheVariants as lines
use Rattle.attach_map.specs.Attaching.{AttacherState, ProcessState}
use Rattle.exporter_pins.specs.Holdings.{Export, has_segid, live_export, live_with, with_live}
use Rattle.enclave_rules.specs.Exports.{segid_number, region_export, with_asked, with_issued_export, without_live}
use Rattle.enclave_rules.specs.Hand.{Hand, Nothing, Calls, Reads}
use Rattle.global_model.specs.Facts.{facts_at}
use Rattle.call_laws.specs.Cells.{CallCell, cells, is_cell, has_drawn, as_issued, as_drawn, as_near, as_answered, as_forgotten, makes}
use Rattle.call_laws.specs.Legal.{CallAt, MayDraw}
use Rattle.call_laws.proofs.CellLines.{AreOnes, same_call, is_cell_itself, drawn_is}
use Rattle.call_laws.proofs.Rows.{Ascends, all_less, all_more, all_none, all_put, ascends_less, ascends_put, found_has}

-- a segid of an export was drawn for its call, whose segment is live
pub record IsLive (c : CallCell) (s : ℕ) : Type 0 where
  pub near : c.near ≡ true
  pub drawn : c.drew ≡ Some s

abbrev pub IsLiveRow : (ℕ → CallCell) → ℕ × Export → Type 0
IsLiveRow C row = (s : ℕ) → row.1.segid ≡ Some s → IsLive (C row.0) s

pub record IsExports (C : ℕ → CallCell) (rows : List (ℕ × Export)) : Type 0 where
  pub ascends : Ascends rows
  pub live : AllByRecursion (IsLiveRow C) rows

abbrev pub AreLive : List Line → Type 0
AreLive past = (e : ℕ) → IsExports (cells past e) ((facts_at past).exports e)

-- ---- cells change

-- what was live stays so
abbrev pub StaysLive : CallCell → CallCell → Type 0
StaysLive c d = (s : ℕ) → IsLive c s → IsLive d s

live_cond : (change : CallCell → CallCell) → ((c : CallCell) → StaysLive c (change c)) → (t : Bool) (c : CallCell) → StaysLive c (cond t (change c) c)
live_cond change stays true c = stays c
live_cond change stays false c = λ s live. live

rows_stay : (C D : ℕ → CallCell) → ((k : ℕ) → StaysLive (C k) (D k)) → (rows : List (ℕ × Export)) → IsExports C rows → IsExports D rows
rows_stay C D stays rows all = record {
  ascends = all.ascends;
  live = all_more (IsLiveRow C) (IsLiveRow D) rows all.live (λ row was s is. stays row.0 s (was s is));
}

row_put : (D : ℕ → CallCell) (rows : List (ℕ × Export)) (k : ℕ) (export : Export) → IsExports D rows → IsLiveRow D (k, export) → IsExports D (put rows k export)
row_put D rows k export all one = record { ascends = ascends_put rows k export all.ascends; live = all_put (IsLiveRow D) rows k export all.live one }

-- ---- exports change

asked_rows : (D : ℕ → CallCell) (hand : Hand) (p : ℕ) (call : CallNo) (m : AttacherState) (rows : List (ℕ × Export)) → IsExports D rows
    → IsExports D (with_issued_export hand p call m rows)
asked_rows D Nothing p call m rows all = all
asked_rows D (Reads rec) p call m rows all = all
asked_rows D (Calls asked) p call m rows all = by asked.call
  where
    made : (addr size mode : ℕ) (found : Option ProcessState)
        → IsExports D (option_map_or (λ process. put rows call.0 (region_export p process addr size mode)) found rows)
    made addr size mode None = all
    made addr size mode (Some process) = row_put D rows call.0 (region_export p process addr size mode) all (λ s is. absurd (cc))

    by : (c : Call) → IsExports D (with_asked p call c m rows)
    by (calls.Make addr size mode) = made addr size mode (at m.processes p)
    by _ = all

named_rows : (D : ℕ → CallCell) (call : CallNo) (s : ℕ) (rows : List (ℕ × Export)) → IsLive (D call.0) s → IsExports D rows
    → IsExports D (with_live call.0 s rows)
named_rows D call s rows live all = by (at rows call.0) refl
  where
    by : (found : Option Export) → at rows call.0 ≡ found → IsExports D (with_live call.0 s rows)
    by None is = rw is all
    by (Some export) is =
        rw is (row_put D rows call.0 (live_with s export) all (λ q has. let same : s ≡ q = cc in subst (IsLive (D call.0)) same live))

-- the live one of that segid goes
removed_rows : (C : ℕ → CallCell) (s : ℕ) (rows : List (ℕ × Export)) → ((k k' q : ℕ) → (C k).drew ≡ Some q → (C k').drew ≡ Some q → k ≡ k') → IsExports C rows
    → IsExports (λ k. cond (has_drawn s (C k)) (as_near false (C k)) (C k)) (without_live s rows)
removed_rows C s rows one all = by (live_export rows s) refl
  where
    D : ℕ → CallCell
    D k = cond (has_drawn s (C k)) (as_near false (C k)) (C k)

    kept_cell : (c : CallCell) (q : ℕ) → IsLive c q → ((q ≡ s) → ⊥) → (t : Bool) → has_drawn s c ≡ t → IsLive (cond t (as_near false c) c) q
    kept_cell c q live other true is = absurd (other (let same : Some q ≡ Some s = sym live.drawn ∙ drawn_is s c is in cc))
    kept_cell c q live other false is = live

    by : (found : Option (ℕ × Export)) → live_export rows s ≡ found → IsExports (λ k. cond (has_drawn s (C k)) (as_near false (C k)) (C k)) (option_map_or (λ row. less rows row.0) found rows)
    by None is = record {
      ascends = all.ascends;
      live = all_none (IsLiveRow C) (IsLiveRow D) (λ row. has_segid s row.1.segid) rows all.live is
          (λ row fails was q has. kept_cell (C row.0) q (was q has) (λ same. let clash : true ≡ false = sym (eq-eqb q s same) ∙ (ap (has_segid s) (sym has) ∙ fails) in cc) (has_drawn s (C row.0)) refl);
    }
    by (Some first) is =
        let found = found_has (IsLiveRow C) (λ row. has_segid s row.1.segid) rows first all.live is in
        let first_drew : (C first.0).drew ≡ Some s = segid_drew first found.has first.1.segid refl found.passes in
        record {
          ascends = ascends_less rows first.0 all.ascends;
          live = all_more (λ (row : ℕ × Export). IsLiveRow C row × (row.0 ≡ first.0 → ⊥)) (IsLiveRow D) (less rows first.0) (all_less (IsLiveRow C) rows first.0 all.ascends all.live)
              (λ row was q has. kept_cell (C row.0) q (was.0 q has)
              (λ same. was.1 (one row.0 first.0 s (subst (λ n. (C row.0).drew ≡ Some n) same (was.0 q has).drawn) first_drew)) (has_drawn s (C row.0)) refl);
        }
      where
        segid_drew : (row : ℕ × Export) → IsLiveRow C row → (segid : Option ℕ) → row.1.segid ≡ segid → has_segid s segid ≡ true → (C row.0).drew ≡ Some s
        segid_drew row was None is passes = cc
        segid_drew row was (Some own) is passes = (was s (is ∙ ap (λ n. Some n) (eqb-true own s passes))).drawn

-- ---- line by line

-- the exports of one enclave change
rows_at : (D : ℕ → ℕ → CallCell) (of j : ℕ) (rows : List (ℕ × Export)) (exports : ℕ → List (ℕ × Export)) → IsExports (D of) rows
    → ((eqb j of ≡ false) → IsExports (D j) (exports j)) → IsExports (D j) (cond (eqb j of) rows (exports j))
rows_at D of j rows exports here there = by (eqb j of) refl
  where
    by : (t : Bool) → eqb j of ≡ t → IsExports (D j) (cond t rows (exports j))
    by true is = subst (λ n. IsExports (D n) rows) (sym (eqb-true j of is)) here
    by false is = there is

drew_stays : (past : List Line) (of call s : ℕ) → MayDraw past of call s → (e k : ℕ) (t : Bool) → is_cell e k of call ≡ t
    → StaysLive (cells past e k) (cond t (as_drawn s (cells past e k)) (cells past e k))
drew_stays past of call s legal e k true is q live =
    absurd (let same = same_call e k of call is in
    let first : (cells past e k).drew ≡ None = (λ i. (cells past (same.enclave i) (sym same.call_is i)).drew) ∙ legal.first in
    let clash : Some q ≡ None = sym live.drawn ∙ first in cc)
drew_stays past of call s legal e k false is q live = live

pub live_line : (past : List Line) (line : Line) → CallAt past line → AreOnes past → AreLive past → AreLive (line ∷ past)
live_line past (lines.Issue e p call) legal ones old j =
    rows_at D e.0 j (with_issued_export (facts_at past).hand p.0 call ((facts_at past).memory e.0) ((facts_at past).exports e.0)) (facts_at past).exports
    (asked_rows (D e.0) (facts_at past).hand p.0 call ((facts_at past).memory e.0) ((facts_at past).exports e.0) (all e.0)) (λ other. all j)
  where
    D : ℕ → ℕ → CallCell
    D = cells (lines.Issue e p call ∷ past)

    all : (j : ℕ) → IsExports (cells (lines.Issue e p call ∷ past) j) ((facts_at past).exports j)
    all j = rows_stay (cells past j) (cells (lines.Issue e p call ∷ past) j)
        (λ k. live_cond (as_issued p.0) (λ c s live. record { near = live.near; drawn = live.drawn }) (makes (facts_at past).hand && is_cell j k e.0 call.0) (cells past j k)) ((facts_at past).exports j) (old j)
live_line past (lines.Named e call segid) legal ones old j =
    rows_at D e.0 j (with_live call.0 (segid_number segid) ((facts_at past).exports e.0)) (facts_at past).exports
    (named_rows (D e.0) call (segid_number segid) ((facts_at past).exports e.0)
    (record { near = rw (is_cell_itself e.0 call.0) refl; drawn = rw (is_cell_itself e.0 call.0) legal.drawn }) (all e.0)) (λ other. all j)
  where
    D : ℕ → ℕ → CallCell
    D = cells (lines.Named e call segid ∷ past)

    all : (j : ℕ) → IsExports (cells (lines.Named e call segid ∷ past) j) ((facts_at past).exports j)
    all j = rows_stay (cells past j) (cells (lines.Named e call segid ∷ past) j)
        (λ k. live_cond (as_near true) (λ c s live. record { near = refl; drawn = live.drawn }) (is_cell j k e.0 call.0) (cells past j k)) ((facts_at past).exports j) (old j)
live_line past (lines.Remove e segid) legal ones old j = by (eqb j e.0) refl
  where
    by : (t : Bool) → eqb j e.0 ≡ t
        → IsExports (λ k. cond (t && has_drawn (segid_number segid) (cells past j k)) (as_near false (cells past j k)) (cells past j k))
        (cond t (without_live (segid_number segid) ((facts_at past).exports e.0)) ((facts_at past).exports j))
    by true is = removed_rows (cells past j) (segid_number segid) ((facts_at past).exports e.0) (λ k k' q drew drew'. (ones.one j k j k' q drew drew').1)
        (subst (λ n. IsExports (cells past j) ((facts_at past).exports n)) (eqb-true j e.0 is) (old j))
    by false is = old j
live_line past (lines.Drew e call segid) legal ones old j =
    rows_stay (cells past j) (cells (lines.Drew e call segid ∷ past) j) (λ k. drew_stays past e.0 call.0 (segid_number segid) legal j k (is_cell j k e.0 call.0) refl) ((facts_at past).exports j) (old j)
live_line past (lines.AnswerSegid e p call segid) legal ones old j =
    rows_stay (cells past j) (cells (lines.AnswerSegid e p call segid ∷ past) j)
    (λ k. live_cond as_answered (λ c s live. record { near = live.near; drawn = live.drawn }) (is_cell j k e.0 call.0) (cells past j k)) ((facts_at past).exports j) (old j)
live_line past (lines.Unnamed segid) legal ones old j =
    rows_stay (cells past j) (cells (lines.Unnamed segid ∷ past) j)
    (λ k. live_cond as_forgotten (λ c s live. record { near = live.near; drawn = live.drawn }) (has_drawn (segid_number segid) (cells past j k)) (cells past j k)) ((facts_at past).exports j) (old j)
live_line past _ legal ones old j = old j
