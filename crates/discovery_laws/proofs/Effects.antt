-- What lines change of what an enclave knows of ways and of who asked it.
use Rattle.std.proofs.Common.{◌≡◌, ℕ, [], Bool, true, false, cond, eqb, Option, None, Some, refl, sym, ap, ◌∙◌, subst}
use Rattle.std.proofs.lemmas.Bool.{eqb-true}
use Rattle.xm_num.specs.declared.Enclave.{Enclave}
use Rattle.xm_num.specs.Rows.{put}
use Rattle.xemem_language.specs.declared.line.Line.TheVariants as lines
use Rattle.enclave_rules.specs.Ways.{WaysView, place_among}
use Rattle.global_model.specs.Facts.{EnclaveFact, Facts, after_line, as_admitted, at_number, fact_of, has_parent, is_holder}
use Rattle.discovery_laws.specs.Known.{askers_of, backs_of, routes_of, way_at}

-- what holds of the new value at a number, and of all others as before
pub number_at : {A : Type 0} (P : ℕ → A → Type 0) (k : ℕ) (v : A) (f g : ℕ → A) → ((j : ℕ) → g j ≡ cond (eqb j k) v (f j)) → (j : ℕ)
    → P k v → (eqb j k ≡ false → P j (f j)) → P j (g j)
number_at P k v f g changed j here there = subst (P j) (sym (changed j)) (by (eqb j k) refl)
  where
    by : (t : Bool) → eqb j k ≡ t → P j (cond t v (f j))
    by true is = subst (λ i. P i v) (sym (eqb-true j k is)) here
    by false is = there is

-- a part of what is known of ways, where that changes at a number: the new one there, or as before where it is the same
part_at : {A : Type 0} (part : WaysView → A) (k : ℕ) (w : WaysView) (ways : ℕ → WaysView) (j : ℕ)
    → part (at_number k w ways j) ≡ cond (eqb j k) (part w) (part (ways j))
part_at part k w ways j = by (eqb j k)
  where
    by : (t : Bool) → part (cond t w (ways j)) ≡ cond t (part w) (part (ways j))
    by true = refl
    by false = refl

part_stays : {A : Type 0} (part : WaysView → A) (k : ℕ) (w : WaysView) (ways : ℕ → WaysView) → part w ≡ part (ways k) → (j : ℕ)
    → part (at_number k w ways j) ≡ part (ways j)
part_stays part k w ways same j = by (eqb j k) refl
  where
    by : (t : Bool) → eqb j k ≡ t → part (cond t w (ways j)) ≡ part (ways j)
    by true is = same ∙ ap (λ i. part (ways i)) (sym (eqb-true j k is))
    by false is = refl

module _ (G : Facts) (y over : Enclave) (e : ℕ) where
  pub way_learns : way_at (after_line G (lines.Way y over)) e ≡ cond (eqb e y.0) (Some over) (way_at G e)
  way_learns = part_at (λ w. w.way) y.0 _ G.ways e

  pub way_clears : askers_of (after_line G (lines.Way y over)) e ≡ cond (eqb e y.0) [] (askers_of G e)
  way_clears = part_at (λ w. w.askers) y.0 _ G.ways e

  pub asked_leaves : way_at (after_line G (lines.Asked y over)) e ≡ way_at G e
  asked_leaves = part_stays (λ w. w.way) y.0 _ G.ways refl e

  pub asked_keeps : askers_of (after_line G (lines.Asked y over)) e
      ≡ cond (eqb e y.0) (put (askers_of G y.0) (place_among (fact_of (G.enclave y.0)).parent over) over) (askers_of G e)
  asked_keeps = part_at (λ w. w.askers) y.0 _ G.ways e

-- the other lines leave both
pub record LeavesWays (G H : Facts) : Type 0 where
  pub way : (e : ℕ) → way_at H e ≡ way_at G e
  pub askers : (e : ℕ) → askers_of H e ≡ askers_of G e

module _ (G : Facts) (e d over : Enclave) where
  pub back_leaves : LeavesWays G (after_line G (lines.Back e d over))
  back_leaves = record { way = part_stays (λ w. w.way) e.0 _ G.ways refl; askers = part_stays (λ w. w.askers) e.0 _ G.ways refl }

  pub route_leaves : LeavesWays G (after_line G (lines.Route e d over))
  route_leaves = record { way = part_stays (λ w. w.way) e.0 _ G.ways refl; askers = part_stays (λ w. w.askers) e.0 _ G.ways refl }

  pub admitted_leaves : LeavesWays G (after_line G (lines.Admitted e))
  admitted_leaves = record { way = λ a. refl; askers = λ a. refl }

-- ---- ways back and routes

-- both are left
pub record LeavesRows (G H : Facts) : Type 0 where
  pub backs : (e : ℕ) → backs_of H e ≡ backs_of G e
  pub routes : (e : ℕ) → routes_of H e ≡ routes_of G e

module _ (G : Facts) (e over : Enclave) where
  pub way_leaves : LeavesRows G (after_line G (lines.Way e over))
  way_leaves = record { backs = part_stays (λ w. w.backs) e.0 _ G.ways refl; routes = part_stays (λ w. w.routes) e.0 _ G.ways refl }

  pub asked_leaves_rows : LeavesRows G (after_line G (lines.Asked e over))
  asked_leaves_rows = record { backs = part_stays (λ w. w.backs) e.0 _ G.ways refl; routes = part_stays (λ w. w.routes) e.0 _ G.ways refl }

module _ (G : Facts) (e of over : Enclave) (a : ℕ) where
  pub back_puts : backs_of (after_line G (lines.Back e of over)) a ≡ cond (eqb a e.0) (put (backs_of G e.0) of.0 over) (backs_of G a)
  back_puts = part_at (λ w. w.backs) e.0 _ G.ways a

  pub back_leaves_routes : routes_of (after_line G (lines.Back e of over)) a ≡ routes_of G a
  back_leaves_routes = part_stays (λ w. w.routes) e.0 _ G.ways refl a

  pub route_puts : routes_of (after_line G (lines.Route e of over)) a ≡ cond (eqb a e.0) (put (routes_of G e.0) of.0 over) (routes_of G a)
  route_puts = part_at (λ w. w.routes) e.0 _ G.ways a

  pub route_leaves_backs : backs_of (after_line G (lines.Route e of over)) a ≡ backs_of G a
  route_leaves_backs = part_stays (λ w. w.backs) e.0 _ G.ways refl a

-- ---- an admission leaves the rest of an enclave's fact

pub parent_kept : (fact : Option EnclaveFact) → (fact_of (as_admitted fact)).parent.0 ≡ (fact_of fact).parent.0
parent_kept None = refl
parent_kept (Some fact) = refl

pub holder_kept : (fact : Option EnclaveFact) → is_holder (as_admitted fact) ≡ is_holder fact
holder_kept None = refl
holder_kept (Some fact) = refl

pub has_kept : (p : ℕ) (fact : Option EnclaveFact) → has_parent p (as_admitted fact) ≡ has_parent p fact
has_kept p None = refl
has_kept p (Some fact) = refl

-- a function of an enclave's fact that an admission leaves
pub kept_by : {A : Type 0} (f : Option EnclaveFact → A) → ((fact : Option EnclaveFact) → f (as_admitted fact) ≡ f fact)
    → (G : Facts) (e : Enclave) (a : ℕ) → f ((after_line G (lines.Admitted e)).enclave a) ≡ f (G.enclave a)
kept_by f kept G e a = number_at (λ a fact. f fact ≡ f (G.enclave a)) e.0 (as_admitted (G.enclave e.0)) G.enclave (after_line G (lines.Admitted e)).enclave
    (λ j. refl) a (kept (G.enclave e.0)) (λ other. refl)
