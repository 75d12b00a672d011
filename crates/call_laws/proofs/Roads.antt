-- Where records of calls go: the ways of those that are admitted are known all along, both to the name server and back from it.
use Rattle.std.proofs.Common.{◌≡◌, ◌⊎◌, ◌+◌, ℕ, List, [], ◌∷◌, Bool, true, false, cond, ◌||◌, eqb, Option, None, Some, is_some, inl, inr, refl, sym, ap, ◌∙◌, subst, arith}
use Rattle.std.specs.List.{AllByRecursion}
use Rattle.std.proofs.lemmas.Bool.{eqb-true, ne_eqb, or_cases, or_left, or_right}
use Rattle.xm_num.specs.declared.Block.{Block}
use Rattle.xm_num.specs.declared.Enclave.{Enclave}
use Rattle.xm_num.specs.declared.Kind.{Kind}
use Rattle.xm_num.specs.Rows.{at}
use Rattle.xemem_language.specs.declared.command.Command.TheVariants as commands
use Rattle.xemem_language.specs.declared.line.Line.{Line}
use Rattle.xemem_language.specs.declared.line.Line.TheVariants as lines
use Rattle.xemem_language.specs.declared.record.Record.{Record}
use Rattle.xemem_language.specs.declared.record.Body.{Body}
use Rattle.xemem_language.specs.declared.record.Body.TheVariants as bodies
use Rattle.enclave_rules.specs.Ways.{WaysView}
use Rattle.global_model.specs.Facts.{EnclaveFact, Facts, after_line, as_admitted, at_number, fact_of, is_holder}
use Rattle.global_model.specs.Tree.{IsRooted, IsToward, parent_of}
use Rattle.discovery_laws.specs.Known.{back_at, holds, is_admitted_at, knows, route_at, way_at}
use Rattle.call_laws.specs.Laws.{TreePaths}
use Rattle.call_laws.specs.Roads.{IsReachable, IsRoad, Reaches}
use Rattle.call_laws.proofs.Rows.{some_put}

-- ---- what is known

abbrev pub Toward : Facts → ℕ → ℕ → ℕ → Type 0
Toward G x d y = IsToward (parent_of G) G.born x d y

-- d itself, or an enclave that remembers the way back to it
abbrev pub AnswersTo : Facts → ℕ → ℕ → Type 0
AnswersTo G d x = (x ≡ d) ⊎ (is_some (back_at G x d) ≡ true)

pub record IsAnnounced (G : Facts) (d b : ℕ) : Type 0 where
  pub road : IsRoad G d b
  pub answers : AnswersTo G d b
  pub knowing : knows G d ≡ true

-- what a record of discovery tells, that was sent from a to b
abbrev pub LeadsBy : Facts → ℕ → ℕ → Record → Body → Type 0
LeadsBy G a b r bodies.Here = knows G a ≡ true
LeadsBy G a b r bodies.Register = AnswersTo G r.origin.0 a × (knows G r.origin.0 ≡ true)
LeadsBy G a b r bodies.Admit = (d : Enclave) → r.dest ≡ Some d → IsAnnounced G d.0 b
LeadsBy G a b r body = Unit {0}

abbrev pub Leads : Facts → ℕ → ℕ → Record → Type 0
Leads G a b r = LeadsBy G a b r r.body

pub record AreRoads (G : Facts) : Type 0 where
  pub tells : (a b : ℕ) → AllByRecursion (Leads G a b) (G.channel a b).sent
  pub backs : (a d : ℕ) (x : Enclave) → back_at G a d ≡ Some x → AnswersTo G d x.0
  pub ways : (a : ℕ) (x : Enclave) → way_at G a ≡ Some x → knows G x.0 ≡ true
  pub ready : (d : ℕ) → is_admitted_at G d ≡ true → IsReachable G d
  pub quiet : (e : ℕ) → G.heard e ≡ []

-- ---- more is known

pub record IsMore (G H : Facts) : Type 0 where
  pub backs : (e d : ℕ) → is_some (back_at G e d) ≡ true → is_some (back_at H e d) ≡ true
  pub routes : (e d : ℕ) → is_some (route_at G e d) ≡ true → is_some (route_at H e d) ≡ true
  pub knowing : (e : ℕ) → knows G e ≡ true → knows H e ≡ true
  pub holders : (e : ℕ) → holds G e ≡ true → holds H e ≡ true
  pub toward : (x d y : ℕ) → Toward G x d y → Toward H x d y

pub more-refl : (G : Facts) → IsMore G G
more-refl G = record { backs = λ e d is. is; routes = λ e d is. is; knowing = λ e is. is; holders = λ e is. is; toward = λ x d y is. is }

pub more-trans : (G H K : Facts) → IsMore G H → IsMore H K → IsMore G K
more-trans G H K one two = record {
  backs = λ e d is. two.backs e d (one.backs e d is);
  routes = λ e d is. two.routes e d (one.routes e d is);
  knowing = λ e is. two.knowing e (one.knowing e is);
  holders = λ e is. two.holders e (one.holders e is);
  toward = λ x d y is. two.toward x d y (one.toward x d y is);
}

pub answers_more : (G H : Facts) → IsMore G H → (d x : ℕ) → AnswersTo G d x → AnswersTo H d x
answers_more G H more d x (inl is) = inl is
answers_more G H more d x (inr is) = inr (more.backs x d is)

pub reaches_more : (G H : Facts) → IsMore G H → (h d b : ℕ) (before : List ℕ) → Reaches G h d b before → Reaches H h d b before
reaches_more G H more h d b [] is = is
reaches_more G H more h d b (a ∷ before) is = (more.routes a d is.0, more.toward a d b is.1, reaches_more G H more h d a before is.2)

pub road_more : (G H : Facts) → IsMore G H → (d b : ℕ) → IsRoad G d b → IsRoad H d b
road_more G H more d b road = record {
  holder = road.holder;
  holds = more.holders road.holder road.holds;
  before = road.before;
  reaches = reaches_more G H more road.holder d b road.before road.reaches;
}

pub leads_more : (G H : Facts) → IsMore G H → (a b : ℕ) (r : Record) → Leads G a b r → Leads H a b r
leads_more G H more a b r leads = by r.body leads
  where
    by : (body : Body) → LeadsBy G a b r body → LeadsBy H a b r body
    by bodies.Here is = more.knowing a is
    by bodies.Register is = (answers_more G H more r.origin.0 a is.0, more.knowing r.origin.0 is.1)
    by bodies.Admit is = λ d to. record {
      road = road_more G H more d.0 b (is d to).road;
      answers = answers_more G H more d.0 b (is d to).answers;
      knowing = more.knowing d.0 (is d to).knowing;
    }
    by _ is = tt

-- ---- what a line changes

-- more is known at one enclave
record IsWiser (u w : WaysView) : Type 0 where
  way : is_some u.way ≡ true → is_some w.way ≡ true
  backs : (d : ℕ) → is_some (at u.backs d) ≡ true → is_some (at w.backs d) ≡ true
  routes : (d : ℕ) → is_some (at u.routes d) ≡ true → is_some (at w.routes d) ≡ true

wiser : (G : Facts) (e : ℕ) (w : WaysView) → IsWiser (G.ways e) w → IsMore G (record G { ways = at_number e w G.ways })
wiser G e w more = record {
  backs = λ a d is. by a (λ v. is_some (at v.backs d) ≡ true) (λ here. more.backs d here) is;
  routes = λ a d is. by a (λ v. is_some (at v.routes d) ≡ true) (λ here. more.routes d here) is;
  knowing = λ a is. elim (or_cases (holds G a) (is_some (way_at G a)) is) [
    | inl held ↦ or_left (holds G a) (is_some (at_number e w G.ways a).way) held
    | inr way ↦ or_right (holds G a) (is_some (at_number e w G.ways a).way) (by a (λ v. is_some v.way ≡ true) (λ here. more.way here) way)
  ];
  holders = λ a is. is;
  toward = λ x d y is. is;
}
  where
    by : (a : ℕ) (P : WaysView → Type 0) → (P (G.ways e) → P w) → P (G.ways a) → P (at_number e w G.ways a)
    by a P here is = at_e (eqb a e) refl
      where
        at_e : (t : Bool) → eqb a e ≡ t → P (cond t w (G.ways a))
        at_e true same = here (subst (λ n. P (G.ways n)) (eqb-true a e same) is)
        at_e false other = is

-- a line that tells nothing of ways, deaths, or births
same_more : (G H : Facts) → ((e : ℕ) → H.ways e ≡ G.ways e) → ((e : ℕ) → holds H e ≡ holds G e) → ((e : ℕ) → parent_of H e ≡ parent_of G e) → H.born ≡ G.born
    → IsMore G H
same_more G H ways held parents born = record {
  backs = λ e d is. ap (λ w. is_some (at w.backs d)) (ways e) ∙ is;
  routes = λ e d is. ap (λ w. is_some (at w.routes d)) (ways e) ∙ is;
  knowing = λ e is. (λ i. held e i || is_some (ways e i).way) ∙ is;
  holders = λ e is. held e ∙ is;
  toward = λ x d y is. subst (λ n. IsToward (parent_of H) n x d y) (sym born) (subst (λ p. IsToward p G.born x d y) (λ i e. sym (parents e) i) is);
}

admitted_is : (P : EnclaveFact → ℕ) (of : Option EnclaveFact) → ((fact : EnclaveFact) → P (record fact { admitted = true }) ≡ P fact) → P (fact_of (as_admitted of)) ≡ P (fact_of of)
admitted_is P None same = refl
admitted_is P (Some fact) same = same fact

at_enclave : {A : Type 0} (part : Option EnclaveFact → A) (G : Facts) (e : ℕ) → part (as_admitted (G.enclave e)) ≡ part (G.enclave e) → (j : ℕ)
    → part (at_number e (as_admitted (G.enclave e)) G.enclave j) ≡ part (G.enclave j)
at_enclave part G e same j = by (eqb j e) refl
  where
    by : (t : Bool) → eqb j e ≡ t → part (cond t (as_admitted (G.enclave e)) (G.enclave j)) ≡ part (G.enclave j)
    by true is = same ∙ ap (λ n. part (G.enclave n)) (sym (eqb-true j e is))
    by false is = refl

same_holder : (fact : Option EnclaveFact) → is_holder (as_admitted fact) ≡ is_holder fact
same_holder None = refl
same_holder (Some fact) = refl

same_parent : (fact : Option EnclaveFact) → (fact_of (as_admitted fact)).parent.0 ≡ (fact_of fact).parent.0
same_parent None = refl
same_parent (Some fact) = refl

pub more_admitted : (G : Facts) (e : Enclave) → IsMore G (after_line G (lines.Admitted e))
more_admitted G e = same_more G (after_line G (lines.Admitted e)) (λ j. refl) (at_enclave is_holder G e.0 (same_holder (G.enclave e.0)))
    (at_enclave (λ fact. (fact_of fact).parent.0) G e.0 (same_parent (G.enclave e.0))) refl

module _ (laws : TreePaths) (G : Facts) (child : Enclave) (kind : Kind) (parent : Enclave) (ns : Bool) (blocks : List Block) where
  abbrev pub newborn : EnclaveFact
  newborn = record { kind = kind; parent = parent; blocks = blocks; ns = ns; living = true; admitted = false }

  pub more_born : IsRooted (parent_of G) → child.0 ≡ G.born → holds G child.0 ≡ false → IsMore G (after_line G (lines.Born child kind parent ns blocks))
  more_born rooted next unborn = record {
    backs = λ e d is. is;
    routes = λ e d is. is;
    knowing = λ e is. elim (or_cases (holds G e) (is_some (way_at G e)) is) [
      | inl held ↦ or_left _ _ (by e (eqb e child.0) refl held)
      | inr way ↦ or_right _ _ way
    ];
    holders = λ e is. by e (eqb e child.0) refl is;
    toward = λ x d y is. laws.stays (parent_of G) (parent_of (after_line G (lines.Born child kind parent ns blocks))) G.born (G.born + 1) x d y rooted
        (λ e some below. stays e (eqb e child.0) (ne_eqb e child.0 (λ same. omega (arith, same, next, below)))) (omega arith) is;
  }
    where
      by : (e : ℕ) (t : Bool) → eqb e child.0 ≡ t → holds G e ≡ true → is_holder (cond t (Some newborn) (G.enclave e)) ≡ true
      by e true here is = absurd (let clash : false ≡ true = sym unborn ∙ (ap (holds G) (sym (eqb-true e child.0 here)) ∙ is) in cc)
      by e false there is = is

      stays : (e : ℕ) (t : Bool) → t ≡ false → (fact_of (cond t (Some newborn) (G.enclave e))).parent.0 ≡ parent_of G e
      stays e true is = cc
      stays e false is = refl

-- what a line tells of ways is true, and none is heard dead
abbrev pub GuidesAt : Facts → Line → Type 0
GuidesAt G (lines.Born e kind parent ns blocks) = IsRooted (parent_of G) × (e.0 ≡ G.born) × (is_some (G.enclave e.0) ≡ false)
GuidesAt G (lines.Told e dead) = ⊥
GuidesAt G (lines.Heard e dead) = ⊥
GuidesAt G (lines.Admitted e) = IsReachable G e.0
GuidesAt G (lines.Way e over) = knows G over.0 ≡ true
GuidesAt G (lines.Back e of over) = AnswersTo G of.0 over.0
GuidesAt G (lines.Sent x y r) = Leads G x.0 y.0 r
GuidesAt G line = Unit {0}

none_held : (fact : Option EnclaveFact) → is_some fact ≡ false → is_holder fact ≡ false
none_held None is = refl
none_held (Some fact) is = cc

pub more_line : TreePaths → (G : Facts) (line : Line) → GuidesAt G line → IsMore G (after_line G line)
more_line laws G (lines.Born e kind parent ns blocks) guides = more_born laws G e kind parent ns blocks guides.0 guides.1 (none_held (G.enclave e.0) guides.2)
more_line laws G (lines.Told e dead) guides = absurd guides
more_line laws G (lines.Heard e dead) guides = absurd guides
more_line laws G (lines.Admitted e) guides = more_admitted G e
more_line laws G (lines.Asked e by) guides = wiser G e.0 _ (record { way = λ is. is; backs = λ d is. is; routes = λ d is. is })
more_line laws G (lines.Way e over) guides = wiser G e.0 _ (record { way = λ is. refl; backs = λ d is. is; routes = λ d is. is })
more_line laws G (lines.Back e of over) guides = wiser G e.0 _ (record { way = λ is. is; backs = λ d is. some_put (G.ways e.0).backs of.0 d over is; routes = λ d is. is })
more_line laws G (lines.Route e of over) guides = wiser G e.0 _ (record { way = λ is. is; backs = λ d is. is; routes = λ d is. some_put (G.ways e.0).routes of.0 d over is })
more_line laws G (lines.Do (commands.Pool blocks)) guides = same_more G _ (λ j. refl) (λ j. refl) (λ j. refl) refl
more_line laws G line guides = same_more G (after_line G line) (λ j. refl) (λ j. refl) (λ j. refl) refl
