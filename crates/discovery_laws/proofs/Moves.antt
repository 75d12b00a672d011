-- A record of d leaves a channel and goes into another; and what a row of d changes.
use Rattle.std.proofs.Common.{◌≡◌, ◌≢◌, ◌⊎◌, ℕ, List, [], ◌∷◌, filter, Bool, true, false, cond, ◌&&◌, eqb, Option, None, Some, is_some, inl, inr, refl, sym, ap, ◌∙◌}
use Rattle.std.specs.List.{list_any}
use Rattle.std.specs.Option.{option_map_or}
use Rattle.std.proofs.lemmas.Bool.{eqb-true, eq-eqb, ne_eqb, and_parts}
use Rattle.xm_num.specs.declared.Enclave.{Enclave}
use Rattle.xm_num.specs.Rows.{at, put}
use Rattle.xemem_language.specs.declared.record.Record.{Record}
use Rattle.xemem_language.specs.declared.line.Line.TheVariants as lines
use Rattle.enclave_rules.specs.Steps.{is_stray}
use Rattle.global_model.specs.Facts.{Facts, EnclaveFact, after_line, fact_of, is_admitted, is_holder}
use Rattle.global_model.specs.Views.{view_of}
use Rattle.discovery_laws.specs.Known.{in_flight}
use Rattle.discovery_laws.specs.Laws.{WayPutLaws}
use Rattle.discovery_laws.proofs.Underway.{IsBounded}
use Rattle.discovery_laws.proofs.Stages.{about_in, alone_at, is_about}
use Rattle.discovery_laws.proofs.Unmoved.{about_sent}
use Rattle.discovery_laws.proofs.Received.{about_got}

-- ---- records of d under way

-- where records stand alone, the first of a channel is the first of them
pub record IsTaken (x y : ℕ) (s r : Record) (rs : List Record) (a b : ℕ) : Type 0 where
  pub from : a ≡ x
  pub to : b ≡ y
  pub same : s ≡ r
  pub last : rs ≡ []

pub alone_taken : (x y : ℕ) (s r : Record) (rs : List Record) (a b : ℕ) → alone_at x y (s ∷ []) a b ≡ r ∷ rs → IsTaken x y s r rs a b
alone_taken x y s r rs a b = by (eqb a x && eqb b y) refl
  where
    by : (t : Bool) → (eqb a x && eqb b y) ≡ t → cond t (s ∷ []) [] ≡ r ∷ rs → IsTaken x y s r rs a b
    by true here is =
        let both = and_parts (eqb a x) (eqb b y) here in
        record { from = eqb-true a x both.0; to = eqb-true b y both.1; same = cc; last = cc }
    by false other is = cc

-- the first record of a channel, where it is about d
pub about_first : (G : Facts) (x y : ℕ) (r : Record) (rs : List Record) (d : ℕ) → in_flight G x y ≡ r ∷ rs → is_about d r ≡ true
    → about_in G d x y ≡ r ∷ filter (is_about d) rs
about_first G x y r rs d is about =
    let first : filter (is_about d) (r ∷ rs) ≡ r ∷ filter (is_about d) rs = rw about refl in
    ap (filter (is_about d)) is ∙ first

-- once it is got, none is under way
pub none_left : (G : Facts) (x y : Enclave) (s r : Record) (rs : List Record) (d a b : ℕ) → in_flight G x.0 y.0 ≡ r ∷ rs
    → filter (is_about d) rs ≡ [] → ((a b : ℕ) → about_in G d a b ≡ alone_at x.0 y.0 (s ∷ []) a b)
    → about_in (after_line G (lines.Got x y)) d a b ≡ []
none_left G x y s r rs d a b is last alone = about_got G x y r rs d a b is ∙ rw last (by (eqb a x.0 && eqb b y.0) (alone a b))
  where
    by : (t : Bool) → about_in G d a b ≡ cond t (s ∷ []) [] → cond t [] (about_in G d a b) ≡ []
    by true there = refl
    by false there = there

-- where none is under way and one is sent, it is alone
pub one_sent : (G : Facts) (x y : Enclave) (r : Record) (d a b : ℕ) → IsBounded G → is_about d r ≡ true → about_in G d a b ≡ []
    → about_in (after_line G (lines.Sent x y r)) d a b ≡ alone_at x.0 y.0 (r ∷ []) a b
one_sent G x y r d a b bounded about none = about_sent G x y r d a b bounded ∙ rw (about, none) refl

-- ---- rows of d

-- What a table of each enclave has at d once a row of d was put in the one of e: f are the tables before, and g those after.
module _ (rows : WayPutLaws) (f g : ℕ → List (ℕ × Enclave)) (e d : ℕ) (over : Enclave)
    (changed : (a : ℕ) → g a ≡ cond (eqb a e) (put (f e) d over) (f a)) where
  new_row : at (put (f e) d over) d ≡ Some over
  new_row = rows.ways (f e) d d over ∙ rw (eq-eqb d d refl) refl

  -- the row is the new one, or an old one
  pub row_cases : (a : ℕ) (x : Enclave) → at (g a) d ≡ Some x → ((a ≡ e) × (over ≡ x)) ⊎ (at (f a) d ≡ Some x)
  row_cases a x is = by (eqb a e) refl (ap (λ table. at table d) (sym (changed a)) ∙ is)
    where
      by : (t : Bool) → eqb a e ≡ t → at (cond t (put (f e) d over) (f a)) d ≡ Some x → ((a ≡ e) × (over ≡ x)) ⊎ (at (f a) d ≡ Some x)
      by true here is = let both : Some over ≡ Some x = sym new_row ∙ is in inl (eqb-true a e here, cc)
      by false other is = inr is

  pub row_here : at (g e) d ≡ Some over
  row_here = ap (λ table. at table d) (changed e) ∙ rw (eq-eqb e e refl) new_row

  pub row_more : (a : ℕ) → is_some (at (f a) d) ≡ true → is_some (at (g a) d) ≡ true
  row_more a some = ap (λ table. is_some (at table d)) (changed a) ∙ by (eqb a e)
    where
      by : (t : Bool) → is_some (at (cond t (put (f e) d over) (f a)) d) ≡ true
      by true = ap is_some new_row
      by false = some

-- ---- views

pub view_holder : (fact : Option EnclaveFact) → (fact_of fact).ns ≡ is_holder fact
view_holder None = refl
view_holder (Some fact) = refl

pub view_admitted : (fact : Option EnclaveFact) → (fact_of fact).admitted ≡ is_admitted fact
view_admitted None = refl
view_admitted (Some fact) = refl

-- no record of another enclave is a stray where no death was heard of
pub no_stray : (G : Facts) (y : Enclave) (r : Record) → G.heard y.0 ≡ [] → r.origin.0 ≢ y.0 → is_stray (view_of G y) r ≡ false
no_stray G y r quiet apart = rw (ne_eqb r.origin.0 y.0 apart, quiet) (by r.dest)
  where
    by : (dest : Option Enclave) → option_map_or (λ (e : Enclave). list_any (λ (d : Enclave). eqb d.0 e.0) []) dest false ≡ false
    by None = refl
    by (Some e) = refl

-- a way back that is there
pub record IsThere {A : Type 0} (found : Option A) : Type 0 where
  pub value : A
  pub is : found ≡ Some value

pub is_there : {A : Type 0} (found : Option A) → is_some found ≡ true → IsThere found
is_there None is = cc
is_there (Some value) is = record { value = value; is = refl }
