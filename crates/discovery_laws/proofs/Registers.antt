-- A register or an admit of d is handled: it comes to the next stage, and is passed on or ends, but isn't dropped.
use Rattle.std.proofs.Common.{◌≡◌, ◌≢◌, ◌<◌, ℕ, List, [], ◌∷◌, filter, Bool, true, false, cond, ◌||◌, eqb, Some, is_some, inl, inr, refl, sym, ap, ◌∙◌, subst, arith}
use Rattle.std.proofs.lemmas.Bool.{eq-eqb, ne_eqb, false_from_ne_true}
use Rattle.xm_num.specs.declared.Enclave.{Enclave}
use Rattle.xm_num.specs.Rows.{at, put}
use Rattle.xemem_language.specs.declared.record.Record.{Record}
use Rattle.xemem_language.specs.declared.line.Line.{Line}
use Rattle.xemem_language.specs.declared.line.Line.TheVariants as lines
use Rattle.enclave_rules.specs.View.{View}
use Rattle.enclave_rules.specs.Steps.{admit_of, body_lines, is_stray, record_lines, register_lines, register_of}
use Rattle.global_model.specs.Facts.{Facts, after_line}
use Rattle.global_model.specs.Tree.{AreNear, IsRooted, IsToward, distance, parent_of}
use Rattle.global_model.specs.Views.{view_of}
use Rattle.discovery_laws.specs.Known.{backs_of, routes_of, back_at, holds, in_flight, knows, route_at, way_at}
use Rattle.discovery_laws.specs.Laws.{DiscoveryLaws}
use Rattle.discovery_laws.proofs.Underway.{IsBounded, bounded_got}
use Rattle.discovery_laws.proofs.Stages.{Stage, Registering, Admitting, Answers, MayAnswer, IsBack, IsRoute, IsStaged, about_in, is_about, number}
use Rattle.discovery_laws.proofs.Moves.{no_stray, none_left, one_sent, row_cases, row_here, row_more, view_holder, IsThere, is_there}
use Rattle.discovery_laws.proofs.Effects.{back_leaves, back_leaves_routes, back_puts, route_leaves, route_leaves_backs, route_puts}
use Rattle.discovery_laws.proofs.Unmoved.{answers_stay, back_stays}
use Rattle.discovery_laws.proofs.Marks.{IsMoved}
use Rattle.discovery_laws.proofs.Led.{IsLed}

-- ---- no turning back

-- of two neighbours y and z, where z isn't next toward d, y is next from z toward it
pub turned_back : DiscoveryLaws → (parent : ℕ → ℕ) (born y z d x : ℕ) → IsRooted parent → AreNear parent y z → z < born → IsToward parent born y d x → z ≢ x
    → IsToward parent born z d y
turned_back laws parent born y z d x rooted near z_born behind apart = elim (laws.tree.sides parent born y z d rooted near behind.from z_born behind.to) [
  | inl on ↦ absurd (apart (on.next ∙ sym behind.next))
  | inr back ↦ back
]

-- and where y is d itself
pub turned_home : DiscoveryLaws → (parent : ℕ → ℕ) (born d z : ℕ) → IsRooted parent → AreNear parent d z → d < born → z < born → IsToward parent born z d d
turned_home laws parent born d z rooted near d_born z_born = elim (laws.tree.sides parent born d z d rooted near d_born z_born d_born) [
  | inl on ↦ absurd (on.apart refl)
  | inr back ↦ back
]

-- ---- a register

-- y got the record of d from x, and remembers the way back
abbrev pub remembered : Facts → Enclave → Enclave → ℕ → Facts
remembered G x y d = after_line (after_line G (lines.Got x y)) (lines.Back y (number d) x)

-- The register of d came from x to y, and y remembers the way back.
module _ (laws : DiscoveryLaws) (G : Facts) (x y : Enclave) (d h : ℕ) (rs : List Record) (rooted : IsRooted (parent_of G)) (bounded : IsBounded G)
    (staged : IsStaged (parent_of G) G.born G d (Registering h x.0 y.0)) (flight : in_flight G x.0 y.0 ≡ register_of (number d) ∷ rs)
    (last : filter (is_about d) rs ≡ []) where
  -- none is under way
  got_register : (a b : ℕ) → about_in (remembered G x y d) d a b ≡ []
  got_register a b = none_left G x y (register_of (number d)) (register_of (number d)) rs d a b flight last staged.flight

  still_bounded : IsBounded (remembered G x y d)
  still_bounded = bounded_got G x y (register_of (number d)) rs flight bounded

  -- what y has learned, and what is left
  backs_now : (e : ℕ) → backs_of (remembered G x y d) e ≡ cond (eqb e y.0) (put (backs_of G y.0) d x) (backs_of G e)
  backs_now = back_puts (after_line G (lines.Got x y)) y (number d) x

  routes_now : (e : ℕ) → route_at (remembered G x y d) e d ≡ route_at G e d
  routes_now e = ap (λ table. at table d) (back_leaves_routes (after_line G (lines.Got x y)) y (number d) x e)

  knows_now : (e : ℕ) → knows (remembered G x y d) e ≡ knows G e
  knows_now e = ap (λ way. holds G e || is_some way) ((back_leaves (after_line G (lines.Got x y)) y (number d) x).way e)

  still_answers : (e : ℕ) → Answers (back_at G) d e → Answers (back_at (remembered G x y d)) d e
  still_answers e (inl is) = inl is
  still_answers e (inr some) = inr (row_more laws.row (backs_of G) (backs_of (remembered G x y d)) y.0 d x backs_now e some)

  pub now_remembered : back_at (remembered G x y d) y.0 d ≡ Some x
  now_remembered = row_here laws.row (backs_of G) (backs_of (remembered G x y d)) y.0 d x backs_now

  -- the ways back, at the next stage
  backs_then : (stage : Stage) → MayAnswer (parent_of G) stage y.0
      → ((e : ℕ) → distance (parent_of G) y.0 h < distance (parent_of G) e h → MayAnswer (parent_of G) stage e)
      → (e : ℕ) (z : Enclave) → back_at (remembered G x y d) e d ≡ Some z → IsBack (parent_of G) G.born (back_at (remembered G x y d)) d stage e z.0
  backs_then stage new old e z is = elim (row_cases laws.row (backs_of G) (backs_of (remembered G x y d)) y.0 d x backs_now e z is) [
    | inl here ↦
        rw (here.0, ap (λ (w : Enclave). w.0) (sym here.1))
        (record { toward = staged.at.behind; leads = still_answers x.0 staged.at.answers; may = new })
    | inr there ↦
        let was = staged.backs e z there in
        record { toward = was.toward; leads = still_answers z.0 was.leads; may = old e was.may }
  ]

  -- nothing is passed back over the enclave from which it came
  pub ahead_of : (over : Enclave) → IsToward (parent_of G) G.born y.0 h over.0 → over.0 ≢ x.0
  ahead_of over ahead is =
      let one = laws.tree.nearer (parent_of G) G.born x.0 h y.0 rooted staged.at.ahead in
      let two = laws.tree.nearer (parent_of G) G.born y.0 h over.0 rooted ahead in
      let same : distance (parent_of G) over.0 h ≡ distance (parent_of G) x.0 h = ap (λ e. distance (parent_of G) e h) is in
      omega (arith, one, two, same)

  -- y passes it on
  pub passed_on : (over : Enclave) → IsToward (parent_of G) G.born y.0 h over.0 → knows G over.0 ≡ true
      → IsStaged (parent_of G) G.born (after_line (remembered G x y d) (lines.Sent y over (register_of (number d)))) d (Registering h y.0 over.0)
  passed_on over ahead knowing =
      let P = parent_of G in
      let at = staged.at in
      let nearer = laws.tree.nearer P G.born y.0 h over.0 rooted ahead in
      let apart : over.0 ≢ x.0 = ahead_of over ahead in
      record {
        flight = λ a b. one_sent (remembered G x y d) y over (register_of (number d)) d a b still_bounded (eq-eqb d d refl) (got_register a b);
        backs = backs_then (Registering h y.0 over.0) (omega (arith, nearer)) (λ e less. omega (arith, less, nearer));
        routes = λ e z is. absurd (staged.routes e z (sym (routes_now e) ∙ is)).may;
        at = record {
          holder = at.holder;
          ahead = ahead;
          behind = turned_back laws P G.born y.0 over.0 d x.0 rooted (laws.tree.beside P G.born y.0 h over.0 rooted ahead) ahead.over at.behind apart;
          nearer = omega (arith, at.nearer, nearer);
          answers = inr (ap is_some now_remembered);
          knowing = knows_now over.0 ∙ knowing;
          known = knows_now d ∙ at.known;
          waits = at.waits;
        };
      }

  -- y holds the name server, learns the route, and admits d
  abbrev routed : Facts
  routed = after_line (remembered G x y d) (lines.Route y (number d) x)

  pub backs_routed : (e : ℕ) → back_at routed e d ≡ back_at (remembered G x y d) e d
  backs_routed e = ap (λ table. at table d) (route_leaves_backs (remembered G x y d) y (number d) x e)

  routes_routed : (e : ℕ) (z : Enclave) → route_at routed e d ≡ Some z → IsRoute (parent_of G) G.born d (Admitting y.0 y.0 x.0) e z.0
  routes_routed e z is =
      let nearer = laws.tree.nearer (parent_of G) G.born y.0 d x.0 rooted staged.at.behind in
      elim (row_cases laws.row (routes_of (remembered G x y d)) (routes_of routed) y.0 d x (route_puts (remembered G x y d) y (number d) x) e z is) [
        | inl there ↦ rw (there.0, ap (λ (w : Enclave). w.0) (sym there.1)) (record { toward = staged.at.behind; may = omega (arith, nearer) })
        | inr there ↦ absurd (staged.routes e z (sym (routes_now e) ∙ there)).may
      ]

  pub admitted_over : IsStaged (parent_of G) G.born (after_line routed (lines.Sent y x (admit_of y (number d)))) d (Admitting y.0 y.0 x.0)
  admitted_over =
      let at = staged.at in
      let nearer = laws.tree.nearer (parent_of G) G.born y.0 d x.0 rooted at.behind in
      let later = back_at (after_line routed (lines.Sent y x (admit_of y (number d)))) in
      record {
        flight = λ a b. one_sent routed y x (admit_of y (number d)) d a b still_bounded (eq-eqb d d refl) (got_register a b);
        backs = λ e z is. back_stays (parent_of G) G.born (back_at (remembered G x y d)) later d (Admitting y.0 y.0 x.0) e z.0 backs_routed
            (backs_then (Admitting y.0 y.0 x.0) tt (λ e less. tt) e z (sym (backs_routed e) ∙ is));
        routes = routes_routed;
        at = record {
          from = at.ahead.over;
          ahead = at.behind;
          nearer = omega (arith, nearer);
          answers = answers_stay (back_at (remembered G x y d)) later d x.0 backs_routed (still_answers x.0 at.answers);
          known = ap (λ way. holds G d || is_some way) ((route_leaves (remembered G x y d) y (number d) x).way d) ∙ knows_now d ∙ at.known;
          waits = at.waits;
        };
      }

-- ---- what is made of it

pub record_is : (v : View) (from : Enclave) (r : Record) → is_stray v r ≡ false → record_lines v from r ≡ body_lines v from r r.body
record_is v from r is = rw is refl

register_here : (v : View) (from : Enclave) (r : Record) → v.core.holder ≡ true
    → register_lines v from r ≡ lines.Back v.me r.origin from ∷ lines.Route v.me r.origin from ∷ lines.Sent v.me from (admit_of v.me r.origin) ∷ []
register_here v from r is = rw is refl

register_on : (v : View) (from over : Enclave) (r : Record) → v.core.holder ≡ false → v.ways.way ≡ Some over → over.0 ≢ from.0
    → register_lines v from r ≡ lines.Back v.me r.origin from ∷ lines.Sent v.me over r ∷ []
register_on v from over r is way apart = rw (is, way, ne_eqb over.0 from.0 apart) refl

-- what is known by an enclave that doesn't hold the name server is its way
pub way_known : (G : Facts) (e : ℕ) → knows G e ≡ true → holds G e ≡ false → IsThere (way_at G e)
way_known G e known none = is_there (way_at G e) (sym (rw none refl) ∙ known)

pub register_handled : DiscoveryLaws → (G : Facts) (x y : Enclave) (d h : ℕ) (rs : List Record) → IsLed G → IsRooted (parent_of G) → IsBounded G
    → IsStaged (parent_of G) G.born G d (Registering h x.0 y.0) → in_flight G x.0 y.0 ≡ register_of (number d) ∷ rs
    → filter (is_about d) rs ≡ []
    → IsMoved G x y d (register_of (number d)) (record_lines (view_of G y) x (register_of (number d)))
register_handled laws G x y d h rs led rooted bounded staged flight last =
    subst P (sym (record_is (view_of G y) x (register_of (number d)) fresh)) (by (holds G y.0) refl)
  where
    P : List Line → Type 0
    P ls = IsMoved G x y d (register_of (number d)) ls

    kept : is_some (back_at (remembered G x y d) y.0 d) ≡ true
    kept = ap is_some (now_remembered laws G x y d h rs rooted bounded staged flight last)

    none : is_some (back_at G y.0 d) ≡ false
    none = false_from_ne_true (is_some (back_at G y.0 d)) (λ some.
        let found = is_there (back_at G y.0 d) some in
        let less = (staged.backs y.0 found.value found.is).may in
        omega (arith, less))

    fresh : is_stray (view_of G y) (register_of (number d)) ≡ false
    fresh = no_stray G y (register_of (number d)) (led.quiet y.0) (λ is.
        let same : distance (parent_of G) d h ≡ distance (parent_of G) y.0 h = ap (λ e. distance (parent_of G) e h) is in
        let nearer = staged.at.nearer in
        omega (arith, same, nearer))

    by : (t : Bool) → holds G y.0 ≡ t → P (register_lines (view_of G y) x (register_of (number d)))
    by true is = subst P (sym (register_here (view_of G y) x (register_of (number d)) (view_holder (G.enclave y.0) ∙ is)))
        (record {
          registered = record { stage = Admitting y.0 y.0 x.0; is = admitted_over laws G x y d h rs rooted bounded staged flight last };
          before = none;
          after = ap is_some (backs_routed laws G x y d h rs rooted bounded staged flight last y.0) ∙ kept;
        })
    by false is =
        let found = way_known G y.0 staged.at.knowing is in
        let over = found.value in
        let ahead : IsToward (parent_of G) G.born y.0 h over.0 = led.way h y.0 over staged.at.holder found.is in
        let apart : over.0 ≢ x.0 = ahead_of laws G x y d h rs rooted bounded staged flight last over ahead in
        subst P (sym (register_on (view_of G y) x over (register_of (number d)) (view_holder (G.enclave y.0) ∙ is) found.is apart))
        (record {
          registered = record {
            stage = Registering h y.0 over.0;
            is = passed_on laws G x y d h rs rooted bounded staged flight last over ahead (led.known y.0 over found.is);
          };
          before = none;
          after = kept;
        })
