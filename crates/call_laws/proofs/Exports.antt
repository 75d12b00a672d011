-- Where a cell waits its export is asked, and where it is near that is live.
use Rattle.std.proofs.Common.{◌≡◌, ◌<◌, ℕ, List, [], ◌∷◌, Bool, true, false, cond, not, ◌&&◌, eqb, ltb, Option, None, Some, is_some, inl, inr, refl, sym, ap, ◌∙◌, subst, arith}
use Rattle.std.specs.Option.{option_map_or}
use Rattle.std.specs.BTreeMap.{insert_entry, is_at}
use Rattle.std.specs.Map.{lookup, remove_entry}
use Rattle.std.specs.Ordering.{nat_cmp, is_eq}
use Rattle.std.specs.declared.cmp.Ordering.TheVariants.{Less, Equal, Greater}
use Rattle.std.proofs.lemmas.Bool.{and_right, eqb-true, eqb-false, eq-eqb, ne_eqb, ltb-true, cases_Bool}
use Rattle.xm_num.specs.declared.CallNo.{CallNo}
use Rattle.xm_num.specs.declared.Enclave.{Enclave}
use Rattle.xm_num.specs.Rows.{at, less, put}
use Rattle.xemem_language.specs.declared.call.Call.{Call}
use Rattle.xemem_language.specs.declared.call.Call.TheVariants as calls
use Rattle.xemem_language.specs.declared.line.Line.{Line}
use Rattle.xemem_language.specs.declared.line.Line.TheVariants as lines
use Rattle.attach_map.specs.Attaching.{AttacherState, ProcessState}
use Rattle.exporter_pins.specs.Holdings.{Export, has_segid, is_asked, live_export, live_with, with_live}
use Rattle.enclave_rules.specs.Exports.{region_export, segid_number, with_asked, with_issued_export, without_live}
use Rattle.enclave_rules.specs.Hand.{Hand, Calls, Nothing, Reads}
use Rattle.global_model.specs.Facts.{facts_at}
use Rattle.call_laws.specs.Cells.{CallCell, cells, is_cell, has_drawn, as_issued, as_drawn, as_near, as_answered, as_forgotten, is_making, makes}
use Rattle.call_laws.specs.Legal.{CallAt}
use Rattle.call_laws.proofs.Rows.{found_has, less_rows, put_rows}
use Rattle.call_laws.proofs.CellLines.{AreOnes, IsBlank, drawn_has, new_cell, same_call}
use Rattle.call_laws.proofs.MemoryLines.{IssuesNext}
use Rattle.call_laws.proofs.ExportLines.{AreLive, IsLive, IsLiveRow}

-- ---- look-ups after changes

eq_cmp : (q k : ℕ) → is_eq (nat_cmp q k) ≡ eqb k q
eq_cmp q k = by (ltb q k) refl (eqb q k) refl
  where
    by : (low : Bool) → ltb q k ≡ low → (same : Bool) → eqb q k ≡ same → is_eq (cond low Less (cond same Equal Greater)) ≡ eqb k q
    by true low same is = sym (ne_eqb k q (λ e. let below = ltb-true q k low in omega (arith, below, e)))
    by false low true is = sym (eq-eqb k q (sym (eqb-true q k is)))
    by false low false is = sym (ne_eqb k q (λ e. eqb-false q k is (sym e)))

module _ {V : Type 0} where
  pub at_put : (rows : List (ℕ × V)) (k q : ℕ) (v : V) → at (put rows k v) q ≡ cond (eqb k q) (Some v) (at rows q)
  unfolding at put
  at_put [] k q v = ap (λ t. cond t (Some v) None) (eq_cmp q k)
  at_put (row ∷ rows) k q v =
      put_rows (λ table. lookup (is_at (nat_cmp q)) table ≡ cond (eqb k q) (Some v) (lookup (is_at (nat_cmp q)) (row ∷ rows))) row rows (insert_entry nat_cmp rows k v) k v
      (λ below. ap (λ t. cond t (Some v) (lookup (is_at (nat_cmp q)) (row ∷ rows))) (eq_cmp q k))
      (λ same. equal (is_eq (nat_cmp q row.0)) (eqb k q) (eq_cmp q row.0 ∙ ap (λ n. eqb n q) (sym same)))
      (λ above. greater above (at_put rows k q v) (is_eq (nat_cmp q row.0)) (eqb k q) (eq_cmp q row.0) refl)
    where
      equal : (t s : Bool) → t ≡ s → cond t (Some v) (lookup (is_at (nat_cmp q)) rows) ≡ cond s (Some v) (cond t (Some row.1) (lookup (is_at (nat_cmp q)) rows))
      equal true true is = refl
      equal false false is = refl
      equal true false is = cc
      equal false true is = cc

      greater : row.0 < k → lookup (is_at (nat_cmp q)) (insert_entry nat_cmp rows k v) ≡ cond (eqb k q) (Some v) (lookup (is_at (nat_cmp q)) rows) → (t s : Bool)
          → t ≡ eqb row.0 q → eqb k q ≡ s
          → cond t (Some row.1) (lookup (is_at (nat_cmp q)) (insert_entry nat_cmp rows k v)) ≡ cond s (Some v) (cond t (Some row.1) (lookup (is_at (nat_cmp q)) rows))
      greater above more true true is here = absurd (
          let one = eqb-true row.0 q (sym is) in let two = eqb-true k q here in omega (arith, above, one, two))
      greater above more true false is here = refl
      greater above more false s is here = more ∙ ap (λ t. cond t (Some v) (lookup (is_at (nat_cmp q)) rows)) here

  pub at_less_other : (rows : List (ℕ × V)) (k q : ℕ) → (q ≡ k → ⊥) → at (less rows k) q ≡ at rows q
  unfolding at less
  at_less_other [] k q other = refl
  at_less_other (row ∷ rows) k q other =
      less_rows (λ table. lookup (is_at (nat_cmp q)) table ≡ lookup (is_at (nat_cmp q)) (row ∷ rows)) row rows (remove_entry (is_at (nat_cmp k)) rows) k
      (λ same. sym (ap (λ t. cond t (Some row.1) (lookup (is_at (nat_cmp q)) rows)) (eq_cmp q row.0 ∙ ne_eqb row.0 q (λ is. other (sym (same ∙ is))))))
      (λ apart. ap (λ rest. cond (is_eq (nat_cmp q row.0)) (Some row.1) rest) (at_less_other rows k q other))

-- ---- cells and exports

abbrev pub segid_at : Option Export → Option ℕ
segid_at None = None
segid_at (Some export) = export.segid

pub record IsExact (c : CallCell) (row : Option Export) : Type 0 where
  pub asked : c.waits ≡ true → c.near ≡ false → is_asked row ≡ true
  pub live : (s : ℕ) → c.near ≡ true → c.drew ≡ Some s → segid_at row ≡ Some s

abbrev pub AreExact : List Line → Type 0
AreExact past = (e k : ℕ) → IsExact (cells past e k) (at ((facts_at past).exports e) k)

-- no segment is live when its segid is drawn, and none that waits is when one is removed
abbrev pub GivesAt : List Line → Line → Type 0
GivesAt past (lines.Drew e call segid) = (cells past e.0 call.0).near ≡ false
GivesAt past (lines.Remove e segid) = (e k : ℕ) → (cells past e k).near ≡ true → (cells past e k).waits ≡ false
GivesAt past line = Unit {0}

-- the exports of one enclave change
exact_at : (C : ℕ → CallCell) (rows old : List (ℕ × Export)) (t : Bool) (k : ℕ) → (t ≡ true → IsExact (C k) (at rows k)) → (t ≡ false → IsExact (C k) (at old k))
    → IsExact (C k) (at (cond t rows old) k)
exact_at C rows old true k here there = here refl
exact_at C rows old false k here there = there refl

exact_cond : (change : CallCell → CallCell) (row : Option Export) → ((c : CallCell) → IsExact c row → IsExact (change c) row) → (t : Bool) (c : CallCell) → IsExact c row
    → IsExact (cond t (change c) c) row
exact_cond change row keeps true c old = keeps c old
exact_cond change row keeps false c old = old

issued_rows : (hand : Hand) (p : ℕ) (call : CallNo) (m : AttacherState) (rows : List (ℕ × Export)) → is_some (at m.processes p) ≡ true → (k : ℕ) (P : Option Export → Type 0)
    → (makes hand ≡ true → (x : Export) → x.segid ≡ None → P (cond (eqb call.0 k) (Some x) (at rows k))) → (makes hand ≡ false → P (at rows k))
    → P (at (with_issued_export hand p call m rows) k)
issued_rows Nothing p call m rows running k P making other = other refl
issued_rows (Reads rec) p call m rows running k P making other = other refl
issued_rows (Calls asked) p call m rows running k P making other = by asked.call making other
  where
    made : (addr size mode : ℕ) → ((x : Export) → x.segid ≡ None → P (cond (eqb call.0 k) (Some x) (at rows k))) → (found : Option ProcessState) → is_some found ≡ true
        → P (at (option_map_or (λ process. put rows call.0 (region_export p process addr size mode)) found rows) k)
    made addr size mode holds None is = cc
    made addr size mode holds (Some process) is =
        subst P (sym (at_put rows call.0 k (region_export p process addr size mode))) (holds (region_export p process addr size mode) refl)

    by : (asks : Call) → (is_making asks ≡ true → (x : Export) → x.segid ≡ None → P (cond (eqb call.0 k) (Some x) (at rows k))) → (is_making asks ≡ false → P (at rows k))
        → P (at (with_asked p call asks m rows) k)
    by (calls.Make addr size mode) making other = made addr size mode (making refl) (at m.processes p) running
    by (calls.Alloc page n) making other = other refl
    by (calls.Remove segid) making other = other refl

issue_exact : (past : List Line) (e : Enclave) (p : ℕ) (call : CallNo) (rows : List (ℕ × Export)) (j k : ℕ) (x : Export) → x.segid ≡ None
    → (is_cell j k e.0 call.0 ≡ true → (cells past j k).near ≡ false) → eqb j e.0 ≡ true → IsExact (cells past j k) (at rows k)
    → IsExact (cond (is_cell j k e.0 call.0) (as_issued p (cells past j k)) (cells past j k)) (cond (eqb call.0 k) (Some x) (at rows k))
issue_exact past e p call rows j k x none fresh here old = by (eqb j e.0) here (eqb call.0 k) refl fresh
  where
    by : (u : Bool) → u ≡ true → (s : Bool) → eqb call.0 k ≡ s → ((u && s) ≡ true → (cells past j k).near ≡ false)
        → IsExact (cond (u && s) (as_issued p (cells past j k)) (cells past j k)) (cond s (Some x) (at rows k))
    by true u true same fresh = record {
      asked = λ waits near. ap (λ segid. not (is_some segid)) none;
      live = λ s near drew. let clash : true ≡ false = sym near ∙ fresh refl in absurd (cc);
    }
    by true u false other fresh = old
    by false u s same fresh = cc

pub exact_line : (past : List Line) (line : Line) → CallAt past line → IssuesNext (facts_at past) line → GivesAt past line → ((e k : ℕ) → IsBlank (cells past e k)) → AreOnes past → AreLive past
    → AreExact past → AreExact (line ∷ past)
exact_line past (lines.Issue e p call) legal next gives blank ones lives old j k =
    exact_at (cells (lines.Issue e p call ∷ past) j) (with_issued_export (facts_at past).hand p.0 call ((facts_at past).memory e.0) rows) ((facts_at past).exports j) (eqb j e.0) k
    (λ here. issued_rows (facts_at past).hand p.0 call ((facts_at past).memory e.0) rows next.0 k (λ row. IsExact (cells (lines.Issue e p call ∷ past) j k) row)
    (λ making x none. subst (λ t. IsExact (changed (t && is_cell j k e.0 call.0)) (cond (eqb call.0 k) (Some x) (at rows k))) (sym making)
    (issue_exact past e p.0 call rows j k x none fresh here (same here)))
    (λ other. subst (λ t. IsExact (changed (t && is_cell j k e.0 call.0)) (at rows k)) (sym other) (same here)))
    (λ there. subst (λ t. IsExact (changed t) (at ((facts_at past).exports j) k))
    (sym (and_right (makes (facts_at past).hand) (is_cell j k e.0 call.0) (ap (λ t. t && eqb call.0 k) there))) (old j k))
  where
    rows : List (ℕ × Export)
    rows = (facts_at past).exports e.0

    changed : Bool → CallCell
    changed t = cond t (as_issued p.0 (cells past j k)) (cells past j k)

    same : eqb j e.0 ≡ true → IsExact (cells past j k) (at rows k)
    same here = subst (λ n. IsExact (cells past j k) (at ((facts_at past).exports n) k)) (eqb-true j e.0 here) (old j k)

    fresh : is_cell j k e.0 call.0 ≡ true → (cells past j k).near ≡ false
    fresh is = ap (λ c. c.near) (blank j k (new_cell past e.0 call.0 legal j k true is))
exact_line past (lines.Named e call segid) legal next gives blank ones lives old j k =
    exact_at (cells (lines.Named e call segid ∷ past) j) (with_live call.0 (segid_number segid) ((facts_at past).exports e.0)) ((facts_at past).exports j) (eqb j e.0) k
    (λ here. named (at ((facts_at past).exports e.0) call.0) refl here)
    (λ there. subst (λ t. IsExact (cond (t && eqb call.0 k) (as_near true (cells past j k)) (cells past j k)) (at ((facts_at past).exports j) k)) (sym there) (old j k))
  where
    rows : List (ℕ × Export)
    rows = (facts_at past).exports e.0

    there_is : (row : Option Export) → IsExact (cells past e.0 call.0) row → row ≡ None → ⊥
    there_is row exact none = elim (cases_Bool (cells past e.0 call.0).near) [
      | inl near ↦ let clash : None ≡ Some (segid_number segid) = ap segid_at (sym none) ∙ exact.live (segid_number segid) near legal.drawn in cc
      | inr far ↦ let clash : false ≡ true = ap is_asked (sym none) ∙ exact.asked legal.waits far in cc
    ]

    own : (x : Export) (t : Bool) → eqb j e.0 ≡ true → (s : Bool) → eqb call.0 k ≡ s
        → IsExact (cond (true && s) (as_near true (cells past j k)) (cells past j k)) (cond s (Some (live_with (segid_number segid) x)) (at rows k))
    own x t here true same = record {
      asked = λ waits near. absurd (cc);
      live = λ q near drew.
          let there : (cells past j k).drew ≡ Some (segid_number segid)
          = (λ i. (cells past (eqb-true j e.0 here i) (sym (eqb-true call.0 k same) i)).drew) ∙ legal.drawn in
          sym there ∙ drew;
    }
    own x t here false other = subst (λ n. IsExact (cells past j k) (at ((facts_at past).exports n) k)) (eqb-true j e.0 here) (old j k)

    named : (found : Option Export) → at rows call.0 ≡ found → eqb j e.0 ≡ true
        → IsExact (cond (eqb j e.0 && eqb call.0 k) (as_near true (cells past j k)) (cells past j k)) (at (with_live call.0 (segid_number segid) rows) k)
    named None is here = absurd (there_is (at rows call.0) (old e.0 call.0) is)
    named (Some x) is here =
        rw is (subst (IsExact (cond (eqb j e.0 && eqb call.0 k) (as_near true (cells past j k)) (cells past j k))) (sym (at_put rows call.0 k (live_with (segid_number segid) x)))
        (subst (λ t. IsExact (cond (t && eqb call.0 k) (as_near true (cells past j k)) (cells past j k)) (cond (eqb call.0 k) (Some (live_with (segid_number segid) x)) (at rows k))) (sym here)
        (own x true here (eqb call.0 k) refl)))
exact_line past (lines.Remove e segid) legal next gives blank ones lives old j k =
    exact_at (cells (lines.Remove e segid ∷ past) j) (without_live (segid_number segid) ((facts_at past).exports e.0)) ((facts_at past).exports j) (eqb j e.0) k
    (λ here. subst (λ t. IsExact (cond (t && has_drawn s (cells past j k)) (as_near false (cells past j k)) (cells past j k)) (at (without_live s rows) k)) (sym here)
    (removed (live_export rows s) refl (subst (λ n. IsExact (cells past j k) (at ((facts_at past).exports n) k)) (eqb-true j e.0 here) (old j k)) here))
    (λ there. subst (λ t. IsExact (cond (t && has_drawn s (cells past j k)) (as_near false (cells past j k)) (cells past j k)) (at ((facts_at past).exports j) k)) (sym there) (old j k))
  where
    s : ℕ
    s = segid_number segid

    rows : List (ℕ × Export)
    rows = (facts_at past).exports e.0

    far_off : (c : CallCell) (row : Option Export) → (c.near ≡ true → c.waits ≡ false) → IsExact c row → IsExact (as_near false c) row
    far_off c row calm was = record {
      asked = λ waits near. elim (cases_Bool c.near) [
        | inl is ↦ let clash : true ≡ false = sym waits ∙ calm is in absurd (cc)
        | inr none ↦ was.asked waits none
      ];
      live = λ q near drew. absurd (cc);
    }

    away : (c : CallCell) (row : Option Export) → c.waits ≡ false → IsExact (as_near false c) row
    away c row done = record { asked = λ waits near. let clash : true ≡ false = sym waits ∙ done in absurd (cc); live = λ q near drew. absurd (cc) }

    kept : (t : Bool) (row : Option Export) → IsExact (cells past j k) row → IsExact (cond t (as_near false (cells past j k)) (cells past j k)) row
    kept true row was = far_off (cells past j k) row (gives j k) was
    kept false row was = was

    segid_drew : (row : ℕ × Export) → IsLiveRow (cells past e.0) row → (own : Option ℕ) → row.1.segid ≡ own → has_segid s own ≡ true → IsLive (cells past e.0 row.0) s
    segid_drew row was None is passes = cc
    segid_drew row was (Some own) is passes = was s (is ∙ ap (λ n. Some n) (eqb-true own s passes))

    removed : (found : Option (ℕ × Export)) → live_export rows s ≡ found → IsExact (cells past j k) (at rows k) → eqb j e.0 ≡ true
        → IsExact (cond (has_drawn s (cells past j k)) (as_near false (cells past j k)) (cells past j k)) (at (option_map_or (λ row. less rows row.0) found rows) k)
    removed None is was here = kept (has_drawn s (cells past j k)) (at rows k) was
    removed (Some first) is was here =
        let found = found_has (IsLiveRow (cells past e.0)) (λ row. has_segid s row.1.segid) rows first (lives e.0).live is in
        let live = segid_drew first found.has first.1.segid refl found.passes in
        elim (cases_Bool (eqb k first.0)) [
          | inl same ↦
              let cell : cells past j k ≡ cells past e.0 first.0 = (λ i. cells past (eqb-true j e.0 here i) (eqb-true k first.0 same i)) in
              let has : has_drawn s (cells past j k) ≡ true = drawn_has s (cells past j k) (ap (λ c. c.drew) cell ∙ live.drawn) in
              let done : (cells past j k).waits ≡ false = gives j k (ap (λ c. c.near) cell ∙ live.near) in
              subst (λ t. IsExact (cond t (as_near false (cells past j k)) (cells past j k)) (at (less rows first.0) k)) (sym has) (away (cells past j k) (at (less rows first.0) k) done)
          | inr other ↦
              subst (IsExact (cond (has_drawn s (cells past j k)) (as_near false (cells past j k)) (cells past j k))) (sym (at_less_other rows first.0 k (eqb-false k first.0 other)))
              (kept (has_drawn s (cells past j k)) (at rows k) was)
        ]
exact_line past (lines.Drew e call segid) legal next gives blank ones lives old j k = by (is_cell j k e.0 call.0) refl
  where
    by : (t : Bool) → is_cell j k e.0 call.0 ≡ t → IsExact (cond t (as_drawn (segid_number segid) (cells past j k)) (cells past j k)) (at ((facts_at past).exports j) k)
    by true is =
        let same = same_call j k e.0 call.0 is in
        let none : (cells past j k).near ≡ false = (λ i. (cells past (same.enclave i) (sym same.call_is i)).near) ∙ gives in
        record { asked = (old j k).asked; live = λ q near drew. let clash : true ≡ false = sym near ∙ none in absurd (cc) }
    by false is = old j k
exact_line past (lines.AnswerSegid e p call segid) legal next gives blank ones lives old j k =
    exact_cond as_answered (at ((facts_at past).exports j) k) (λ c was. record { asked = λ waits near. absurd (cc); live = was.live }) (is_cell j k e.0 call.0) (cells past j k) (old j k)
exact_line past (lines.Unnamed segid) legal next gives blank ones lives old j k =
    exact_cond as_forgotten (at ((facts_at past).exports j) k) (λ c was. record { asked = was.asked; live = was.live }) (has_drawn (segid_number segid) (cells past j k)) (cells past j k) (old j k)
exact_line past _ legal next gives blank ones lives old j k = old j k
