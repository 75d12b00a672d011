-- An enclave that knows no way hears of one, and registers over it.
use Rattle.std.proofs.Common.{◌≡◌, ℕ, List, [], ◌∷◌, ◌++◌, true, false, Some, is_some, inl, refl, sym, ap, ◌∙◌, subst, arith}
use Rattle.std.proofs.lemmas.Bool.{eq-eqb, or_right}
use Rattle.xm_num.specs.declared.Enclave.{Enclave}
use Rattle.xm_num.specs.Rows.{at, less}
use Rattle.xemem_language.specs.declared.record.Record.{Record}
use Rattle.xemem_language.specs.declared.record.Body.TheVariants as bodies
use Rattle.xemem_language.specs.declared.line.Line.{Line}
use Rattle.xemem_language.specs.declared.line.Line.TheVariants as lines
use Rattle.enclave_rules.specs.View.{View}
use Rattle.enclave_rules.specs.Steps.{body_lines, here_lines, here_of, is_stray, record_lines, register_of, told_askers}
use Rattle.enclave_rules.specs.Sending.{knows_way}
use Rattle.enclave_rules.specs.Ways.{place_among}
use Rattle.global_model.specs.Facts.{Facts, after_line, after_lines}
use Rattle.global_model.specs.Tree.{IsRooted, IsToward, parent_of}
use Rattle.global_model.specs.Views.{view_of}
use Rattle.discovery_laws.specs.Known.{back_at, holds, in_flight, is_admitted_at, knows, route_at, way_at}
use Rattle.discovery_laws.specs.Laws.{DiscoveryLaws}
use Rattle.discovery_laws.proofs.Answered.{knows_way_is}
use Rattle.discovery_laws.proofs.Effects.{way_learns, way_leaves}
use Rattle.discovery_laws.proofs.Each.{each_told}
use Rattle.discovery_laws.proofs.Underway.{IsBounded, bounded_got}
use Rattle.discovery_laws.proofs.Stages.{Stage, Silent, Registering, Admitting, Ready, IsRegistered, IsStaged, about_in, is_about, is_about_by}
use Rattle.discovery_laws.proofs.Unmoved.{IsAside, IsUnmoved, AreUnmoved, unmoved_lines}
use Rattle.discovery_laws.proofs.Received.{unmoved_got}
use Rattle.discovery_laws.proofs.Moves.{one_sent}
use Rattle.discovery_laws.proofs.Led.{IsLed}
use Rattle.discovery_laws.proofs.Registers.{record_is, turned_home}

-- nothing of d stands anywhere, and it isn't admitted
record IsUnheard (G : Facts) (d : ℕ) : Type 0 where
  flight : (a b : ℕ) → about_in G d a b ≡ []
  backs : (e : ℕ) (x : Enclave) → back_at G e d ≡ Some x → ⊥
  routes : (e : ℕ) (x : Enclave) → route_at G e d ≡ Some x → ⊥
  waits : is_admitted_at G d ≡ false

fresh_stays : (G H : Facts) (d : ℕ) → IsUnmoved G H d → IsUnheard G d → IsUnheard H d
fresh_stays G H d same fresh = record {
  flight = λ a b. same.flight a b ∙ fresh.flight a b;
  backs = λ e x is. fresh.backs e x (sym (same.backs e) ∙ is);
  routes = λ e x is. fresh.routes e x (sym (same.routes e) ∙ is);
  waits = same.admitted ∙ fresh.waits;
}

known_not : (G : Facts) (d : ℕ) → knows G d ≡ false → knows G d ≡ true → ⊥
known_not G d none known = let both : false ≡ true = sym none ∙ known in cc

-- who knows no way is silent
silent_stage : (parent : ℕ → ℕ) (born : ℕ) (G : Facts) (d : ℕ) (stage : Stage) → knows G d ≡ false → IsStaged parent born G d stage → IsUnheard G d
silent_stage parent born G d Silent none staged = record {
  flight = staged.flight;
  backs = λ e x is. (staged.backs e x is).may;
  routes = λ e x is. (staged.routes e x is).may;
  waits = staged.at.admitted ∙ sym staged.at.known ∙ none;
}
silent_stage parent born G d (Registering h x y) none staged = absurd (known_not G d none staged.at.known)
silent_stage parent born G d (Admitting h x y) none staged = absurd (known_not G d none staged.at.known)
silent_stage parent born G d Ready none staged = absurd (known_not G d none staged.at.known)

-- ---- registering

-- once d has sent its register over its way
registers : DiscoveryLaws → (G : Facts) (d x : Enclave) (h : ℕ) (parent : ℕ → ℕ) (born : ℕ) → IsRooted parent → IsBounded G → IsUnheard G d.0
    → IsToward parent born d.0 h x.0 → holds G h ≡ true → knows G x.0 ≡ true → knows G d.0 ≡ true
    → IsStaged parent born (after_line G (lines.Sent d x (register_of d))) d.0 (Registering h d.0 x.0)
registers laws G d x h parent born rooted bounded fresh ahead holder knowing known = record {
  flight = λ a b. one_sent G d x (register_of d) d.0 a b bounded (eq-eqb d.0 d.0 refl) (fresh.flight a b);
  backs = λ e z is. absurd (fresh.backs e z is);
  routes = λ e z is. absurd (fresh.routes e z is);
  at = record {
    holder = holder;
    ahead = ahead;
    behind = turned_home laws parent born d.0 x.0 rooted (laws.tree.beside parent born d.0 h x.0 rooted ahead) ahead.from ahead.over;
    nearer = let nearer = laws.tree.nearer parent born d.0 h x.0 rooted ahead in omega (arith, nearer);
    answers = inl refl;
    knowing = knowing;
    known = known;
    waits = fresh.waits;
  };
}

-- ---- hearing of a way

here_first : (v : View) (from : Enclave) → knows_way v ≡ false
    → here_lines v from ≡ lines.Way v.me from ∷ told_askers v (less v.ways.askers (place_among v.core.parent from)) ++ lines.Sent v.me from (register_of v.me) ∷ []
here_first v from none = rw none refl

-- what is told to askers changes no way
told_way : (G : Facts) (v : View) (askers : List (ℕ × Enclave)) (e : ℕ) → way_at (after_lines G (told_askers v askers)) e ≡ way_at G e
told_way G v [] e = refl
told_way G v (row ∷ askers) e = told_way (after_line G (lines.Sent v.me row.1 (here_of v.me))) v askers e

fresh_way : (G : Facts) (e over : Enclave) (d : ℕ) → IsUnheard G d → IsUnheard (after_line G (lines.Way e over)) d
fresh_way G e over d fresh = record {
  flight = fresh.flight;
  backs = λ a x is. fresh.backs a x (ap (λ table. at table d) (sym ((way_leaves G e over).backs a)) ∙ is);
  routes = λ a x is. fresh.routes a x (ap (λ table. at table d) (sym ((way_leaves G e over).routes a)) ∙ is);
  waits = fresh.waits;
}

-- all that is written for the here, told askers and all
begins : DiscoveryLaws → (G : Facts) (v : View) (d x : Enclave) (askers : List (ℕ × Enclave)) → IsBounded G → IsUnheard G d.0
    → (let H : Facts = after_lines G (lines.Way d x ∷ told_askers v askers ++ lines.Sent d x (register_of d) ∷ []) in
    IsLed H → IsRooted (parent_of H) → IsRegistered (parent_of H) H.born H d.0)
begins laws G v d x askers bounded fresh = subst P (sym (laws.past.after G2 (told_askers v askers) (lines.Sent d x (register_of d) ∷ []))) done
  where
    G2 : Facts
    G2 = after_line G (lines.Way d x)

    P : Facts → Type 0
    P H = IsLed H → IsRooted (parent_of H) → IsRegistered (parent_of H) H.born H d.0

    done : P (after_line (after_lines (after_line G (lines.Way d x)) (told_askers v askers)) (lines.Sent d x (register_of d)))
    done led rooted =
        let told : AreUnmoved (after_line G (lines.Way d x)) (after_lines (after_line G (lines.Way d x)) (told_askers v askers)) d.0
        = unmoved_lines laws.row (after_line G (lines.Way d x)) (told_askers v askers) d.0 bounded (each_told (IsAside d.0) v askers (λ z. refl)) in
        let K = after_lines (after_line G (lines.Way d x)) (told_askers v askers) in
        let way : way_at K d.0 ≡ Some x = told_way (after_line G (lines.Way d x)) v askers d.0 ∙ way_learns G d x d.0 ∙ rw (eq-eqb d.0 d.0 refl) refl in
        let held = led.held d.0 x way in
        let known : knows K d.0 ≡ true = or_right (holds K d.0) (is_some (way_at K d.0)) (ap is_some way) in
        record {
          stage = Registering held.holder d.0 x.0;
          is = registers laws K d x held.holder (parent_of K) K.born rooted told.bounded
              (fresh_stays (after_line G (lines.Way d x)) K d.0 told.same (fresh_way G d x d.0 fresh))
              (led.way held.holder d.0 x held.holds way) held.holds (led.known d.0 x way) known;
        }

-- a here that is got, where the way wasn't known
pub here_handled : DiscoveryLaws → (G : Facts) (x y : Enclave) (r : Record) (rs : List Record) (stage : Stage) → IsBounded G
    → IsStaged (parent_of G) G.born G y.0 stage → in_flight G x.0 y.0 ≡ r ∷ rs → r.body ≡ bodies.Here → is_stray (view_of G y) r ≡ false
    → knows G y.0 ≡ false
    → (let H : Facts = after_lines G (lines.Got x y ∷ record_lines (view_of G y) x r) in
    IsLed H → IsRooted (parent_of H) → IsRegistered (parent_of H) H.born H y.0)
here_handled laws G x y r rs stage bounded staged flight body apt none = subst P (sym lines_are) done
  where
    P : List Line → Type 0
    P ls = IsLed (after_lines G (lines.Got x y ∷ ls)) → IsRooted (parent_of (after_lines G (lines.Got x y ∷ ls)))
        → IsRegistered (parent_of (after_lines G (lines.Got x y ∷ ls))) (after_lines G (lines.Got x y ∷ ls)).born (after_lines G (lines.Got x y ∷ ls)) y.0

    unknown : knows_way (view_of G y) ≡ false
    unknown = knows_way_is G y ∙ none

    lines_are : record_lines (view_of G y) x r
        ≡ lines.Way y x ∷ told_askers (view_of G y) (less (view_of G y).ways.askers (place_among (view_of G y).core.parent x)) ++ lines.Sent y x (register_of y) ∷ []
    lines_are = record_is (view_of G y) x r apt ∙ ap (body_lines (view_of G y) x r) body ∙ here_first (view_of G y) x unknown

    aside : is_about y.0 r ≡ false
    aside = ap (is_about_by y.0 r) body

    done : P (lines.Way y x ∷ told_askers (view_of G y) (less (view_of G y).ways.askers (place_among (view_of G y).core.parent x)) ++ lines.Sent y x (register_of y) ∷ [])
    done = begins laws (after_line G (lines.Got x y)) (view_of G y) y x (less (view_of G y).ways.askers (place_among (view_of G y).core.parent x))
        (bounded_got G x y r rs flight bounded)
        (fresh_stays G (after_line G (lines.Got x y)) y.0 (unmoved_got G x y r rs y.0 flight aside)
        (silent_stage (parent_of G) G.born G y.0 stage none staged))
