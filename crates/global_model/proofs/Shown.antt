-- What a line leaves of a view: where it is at the enclave, what the line changes in the view; elsewhere the view itself.
use Rattle.std.proofs.Common.{◌≡◌, ℕ, map, Bool, true, false, cond, not, ◌&&◌, eqb, Option, None, Some, refl, sym, inl, inr}
use Rattle.std.specs.List.{filter, range_with_len}
use Rattle.std.proofs.lemmas.Bool.{cases_eq, eq-eqb, ne_eqb}
use Rattle.xm_num.specs.declared.Enclave.{Enclave}
use Rattle.xemem_language.specs.declared.line.Line.{Line}
use Rattle.xemem_language.specs.declared.line.Line.TheVariants as lines
use Rattle.enclave_rules.specs.Core.{CoreView, local_line}
use Rattle.enclave_rules.specs.Ways.{ways_line}
use Rattle.enclave_rules.specs.Memory.{memory_line}
use Rattle.enclave_rules.specs.Exports.{exports_line}
use Rattle.enclave_rules.specs.Grants.{grants_line}
use Rattle.enclave_rules.specs.Names.{names_line}
use Rattle.enclave_rules.specs.Host.{no_host}
use Rattle.global_model.specs.Facts.{Facts, EnclaveFact, as_admitted, has_parent, fact_of, is_living_enclave, with_ways, with_memory, with_exports, with_grants, with_names, with_call, after_line}
use Rattle.global_model.specs.Views.{core_of, view_of, seen_line}
use Rattle.global_model.proofs.Sound.{admitted_keeps, keeps_kind, keeps_blocks, keeps_ns}

-- the line leaves of the enclave's view what it is to leave
abbrev pub SeesLine : Facts → Enclave → Line → Type 0
SeesLine G e line = view_of (after_line G line) e ≡ seen_line G (view_of G e) line

-- ---- cores with the same parts

pub record AreAlike (c d : CoreView) : Type 0 where
  pub kind : c.kind ≡ d.kind
  pub parent : c.parent ≡ d.parent
  pub blocks : c.blocks ≡ d.blocks
  pub holder : c.holder ≡ d.holder
  pub admitted : c.admitted ≡ d.admitted
  pub heard : c.heard ≡ d.heard
  pub children : c.children ≡ d.children

pub same_core : (c d : CoreView) → AreAlike c d → c ≡ d
same_core c d are = λ i. record {
  kind = are.kind i;
  parent = are.parent i;
  blocks = are.blocks i;
  holder = are.holder i;
  admitted = are.admitted i;
  heard = are.heard i;
  children = are.children i;
}

-- ---- one part changes at an enclave

pub ways_shown : (G : Facts) (a e : Enclave) (line : Line)
    → view_of (with_ways a line G) e ≡ cond (eqb a.0 e.0) (record (view_of G e) { ways = ways_line (core_of G e.0).parent (G.ways e.0) line }) (view_of G e)
ways_shown G a e line =
    elim (cases_eq a.0 e.0) [
      | inl same ↦ rw (same, eq-eqb e.0 e.0 refl) refl
      | inr apart ↦ rw (ne_eqb a.0 e.0 apart, ne_eqb e.0 a.0 (λ same. apart (sym same))) refl
    ]

pub memory_shown : (G : Facts) (a e : Enclave) (line : Line)
    → view_of (with_memory a line G) e
    ≡ cond (eqb a.0 e.0) (record (view_of G e) { memory = memory_line (G.memory e.0) (local_line (core_of G e.0).kind (core_of G e.0).blocks line) }) (view_of G e)
memory_shown G a e line =
    elim (cases_eq a.0 e.0) [
      | inl same ↦ rw (same, eq-eqb e.0 e.0 refl) refl
      | inr apart ↦ rw (ne_eqb a.0 e.0 apart, ne_eqb e.0 a.0 (λ same. apart (sym same))) refl
    ]

pub exports_shown : (G : Facts) (a e : Enclave) (line : Line)
    → view_of (with_exports a line G) e
    ≡ cond (eqb a.0 e.0) (record (view_of G e) { exports = exports_line G.hand (G.memory e.0) (G.exports e.0) line }) (view_of G e)
exports_shown G a e line =
    elim (cases_eq a.0 e.0) [
      | inl same ↦ rw (same, eq-eqb e.0 e.0 refl) refl
      | inr apart ↦ rw (ne_eqb a.0 e.0 apart, ne_eqb e.0 a.0 (λ same. apart (sym same))) refl
    ]

pub grants_shown : (G : Facts) (a e : Enclave) (line : Line)
    → view_of (with_grants a line G) e ≡ cond (eqb a.0 e.0) (record (view_of G e) { grants = grants_line (G.grants e.0) line }) (view_of G e)
grants_shown G a e line =
    elim (cases_eq a.0 e.0) [
      | inl same ↦ rw (same, eq-eqb e.0 e.0 refl) refl
      | inr apart ↦ rw (ne_eqb a.0 e.0 apart, ne_eqb e.0 a.0 (λ same. apart (sym same))) refl
    ]

pub names_shown : (G : Facts) (e : Enclave) (line : Line)
    → view_of (with_names line G) e ≡ cond (eqb G.holder.0 e.0) (record (view_of G e) { names = names_line (G.names e.0) line }) (view_of G e)
names_shown G e line =
    elim (cases_eq G.holder.0 e.0) [
      | inl same ↦ rw (same, eq-eqb e.0 e.0 refl) refl
      | inr apart ↦ rw (ne_eqb G.holder.0 e.0 apart, ne_eqb e.0 G.holder.0 (λ same. apart (sym same))) refl
    ]

-- two parts change there
pub call_shown : (G : Facts) (a e : Enclave) (line : Line)
    → view_of (with_call a line G) e
    ≡ cond (eqb a.0 e.0) (record (view_of G e) { memory = memory_line (G.memory e.0) (local_line (core_of G e.0).kind (core_of G e.0).blocks line); exports = exports_line G.hand (G.memory e.0) (G.exports e.0) line }) (view_of G e)
call_shown G a e line =
    elim (cases_eq a.0 e.0) [
      | inl same ↦ rw (same, eq-eqb e.0 e.0 refl) refl
      | inr apart ↦ rw (ne_eqb a.0 e.0 apart, ne_eqb e.0 a.0 (λ same. apart (sym same))) refl
    ]

-- ---- an admission

keeps_parent : (o : Option EnclaveFact) → (fact_of (as_admitted o)).parent ≡ (fact_of o).parent
keeps_parent None = refl
keeps_parent (Some fact) = refl

keeps_living : (o : Option EnclaveFact) → is_living_enclave (as_admitted o) ≡ is_living_enclave o
keeps_living None = refl
keeps_living (Some fact) = refl

keeps_family : (p : ℕ) (o : Option EnclaveFact) → has_parent p (as_admitted o) ≡ has_parent p o
keeps_family p None = refl
keeps_family p (Some fact) = refl

pub admitted-living : (G : Facts) (a : Enclave) (k : ℕ) → is_living_enclave ((after_line G (lines.Admitted a)).enclave k) ≡ is_living_enclave (G.enclave k)
admitted-living = admitted_keeps is_living_enclave keeps_living

-- the view after an admission, but for the mark of it
admitted_view : (G : Facts) (a e : Enclave) (mark : Bool) → (fact_of ((after_line G (lines.Admitted a)).enclave e.0)).admitted ≡ mark
    → view_of (after_line G (lines.Admitted a)) e ≡ record (view_of G e) { core = record (core_of G e.0) { admitted = mark } }
admitted_view G a e mark is =
    let H = after_line G (lines.Admitted a) in
    let kinds = admitted_keeps (λ o. (fact_of o).kind) keeps_kind G a in
    let parents = admitted_keeps (λ o. (fact_of o).parent) keeps_parent G a in
    let family = admitted_keeps (has_parent e.0) (keeps_family e.0) G a in
    let core : core_of H e.0 ≡ record (core_of G e.0) { admitted = mark } = same_core _ _ (record {
      kind = kinds e.0;
      parent = parents e.0;
      blocks = admitted_keeps (λ o. (fact_of o).blocks) keeps_blocks G a e.0;
      holder = admitted_keeps (λ o. (fact_of o).ns) keeps_ns G a e.0;
      admitted = is;
      heard = refl;
      children = λ i. map (λ c. (c, kinds c i)) (filter (λ c. not (eqb c 0) && family c i) (range_with_len 0 G.born));
    }) in
    let host : (view_of H e).host ≡ (view_of G e).host = λ i. cond (eqb e.0 0) (record { states = map G.block (range_with_len 0 G.pool); parents = map (λ c. parents c i) (range_with_len 0 G.born) }) no_host in
    λ i. record (view_of G e) { core = core i; host = host i }

-- an enclave that lives has the mark then
marked : (o : Option EnclaveFact) → is_living_enclave o ≡ true → (fact_of (as_admitted o)).admitted ≡ true
marked None living = cc
marked (Some fact) living = refl

pub shown_admitted : (G : Facts) (a e : Enclave) → is_living_enclave (G.enclave a.0) ≡ true → SeesLine G e (lines.Admitted a)
shown_admitted G a e living =
    elim (cases_eq a.0 e.0) [
      | inl same ↦
          let here : eqb a.0 e.0 ≡ true = eq-eqb a.0 e.0 same in
          let mark : (fact_of ((after_line G (lines.Admitted a)).enclave e.0)).admitted ≡ true = rw (← same, eq-eqb a.0 a.0 refl) (marked (G.enclave a.0) living) in
          rw here (admitted_view G a e true mark)
      | inr apart ↦
          let elsewhere : eqb a.0 e.0 ≡ false = ne_eqb a.0 e.0 apart in
          let mark : (fact_of ((after_line G (lines.Admitted a)).enclave e.0)).admitted ≡ (fact_of (G.enclave e.0)).admitted = rw (ne_eqb e.0 a.0 (λ same. apart (sym same))) refl in
          rw elsewhere (admitted_view G a e (fact_of (G.enclave e.0)).admitted mark)
    ]
