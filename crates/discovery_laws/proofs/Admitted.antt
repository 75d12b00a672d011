-- The admit of d is handled: it is passed on over the way back, or makes d ready.
use Rattle.std.proofs.Common.{◌≡◌, ◌≢◌, ℕ, List, [], ◌∷◌, filter, true, false, ◌||◌, Option, None, Some, is_some, inl, inr, refl, sym, ap, ◌∙◌, subst, arith}
use Rattle.std.proofs.lemmas.Bool.{cases_eq, eq-eqb, ne_eqb, lt-ltb, false_from_ne_true}
use Rattle.xm_num.specs.declared.Enclave.{Enclave}
use Rattle.xm_num.specs.Rows.{at}
use Rattle.xemem_language.specs.declared.record.Record.{Record}
use Rattle.xemem_language.specs.declared.line.Line.{Line}
use Rattle.xemem_language.specs.declared.line.Line.TheVariants as lines
use Rattle.enclave_rules.specs.View.{View}
use Rattle.enclave_rules.specs.Steps.{admit_of, admit_to, body_lines, is_stray, record_lines}
use Rattle.global_model.specs.Facts.{Facts, EnclaveFact, after_line, as_admitted, is_admitted}
use Rattle.global_model.specs.Flow.{IsTree}
use Rattle.global_model.specs.Tree.{IsRooted, IsToward, distance, parent_of}
use Rattle.global_model.specs.Views.{view_of}
use Rattle.discovery_laws.specs.Known.{routes_of, back_at, holds, in_flight, is_admitted_at, route_at, way_at}
use Rattle.discovery_laws.specs.Laws.{DiscoveryLaws}
use Rattle.discovery_laws.proofs.Underway.{IsBounded, bounded_got}
use Rattle.discovery_laws.proofs.Stages.{Admitting, Ready, Answers, IsRoute, IsStaged, about_in, is_about, number}
use Rattle.discovery_laws.proofs.Unmoved.{answers_stay, holds_admitted}
use Rattle.discovery_laws.proofs.Moves.{no_stray, none_left, one_sent, row_cases, row_here, view_admitted, is_there}
use Rattle.discovery_laws.proofs.Effects.{route_leaves, route_leaves_backs, route_puts}
use Rattle.discovery_laws.proofs.Marks.{IsMoved}
use Rattle.discovery_laws.proofs.Led.{IsLed}
use Rattle.discovery_laws.proofs.Registers.{record_is}

some_ready : (fact : Option EnclaveFact) → is_some fact ≡ true → is_admitted (as_admitted fact) ≡ true
some_ready None is = cc
some_ready (Some fact) is = refl

-- The admit of d came from x to y.
module _ (laws : DiscoveryLaws) (G : Facts) (x y : Enclave) (d h : ℕ) (rs : List Record) (rooted : IsRooted (parent_of G)) (bounded : IsBounded G)
    (staged : IsStaged (parent_of G) G.born G d (Admitting h x.0 y.0)) (flight : in_flight G x.0 y.0 ≡ admit_of (number h) (number d) ∷ rs)
    (last : filter (is_about d) rs ≡ []) where
  got_admit : (a b : ℕ) → about_in (after_line G (lines.Got x y)) d a b ≡ []
  got_admit a b = none_left G x y (admit_of (number h) (number d)) (admit_of (number h) (number d)) rs d a b flight last staged.flight

  still_bounded : IsBounded (after_line G (lines.Got x y))
  still_bounded = bounded_got G x y (admit_of (number h) (number d)) rs flight bounded

  -- it isn't passed back
  pub back_apart : (over : Enclave) → IsToward (parent_of G) G.born y.0 d over.0 → over.0 ≢ x.0
  back_apart over toward is =
      let one = laws.tree.nearer (parent_of G) G.born x.0 d y.0 rooted staged.at.ahead in
      let two = laws.tree.nearer (parent_of G) G.born y.0 d over.0 rooted toward in
      let same : distance (parent_of G) over.0 d ≡ distance (parent_of G) x.0 d = ap (λ e. distance (parent_of G) e d) is in
      omega (arith, one, two, same)

  -- the way back becomes the route
  abbrev routed : Enclave → Facts
  routed over = after_line (after_line G (lines.Got x y)) (lines.Route y (number d) over)

  backs_routed : (over : Enclave) (e : ℕ) → back_at (routed over) e d ≡ back_at G e d
  backs_routed over e = ap (λ table. at table d) (route_leaves_backs (after_line G (lines.Got x y)) y (number d) over e)

  pub now_routed : (over : Enclave) → route_at (routed over) y.0 d ≡ Some over
  now_routed over = row_here laws.row (routes_of G) (routes_of (routed over)) y.0 d over (route_puts (after_line G (lines.Got x y)) y (number d) over)

  routes_routed : (over : Enclave) → IsToward (parent_of G) G.born y.0 d over.0 → (e : ℕ) (z : Enclave) → route_at (routed over) e d ≡ Some z
      → IsRoute (parent_of G) G.born d (Admitting h y.0 over.0) e z.0
  routes_routed over toward e z is =
      let nearer = laws.tree.nearer (parent_of G) G.born y.0 d over.0 rooted toward in
      elim (row_cases laws.row (routes_of G) (routes_of (routed over)) y.0 d over (route_puts (after_line G (lines.Got x y)) y (number d) over) e z is) [
        | inl there ↦ rw (there.0, ap (λ (w : Enclave). w.0) (sym there.1)) (record { toward = toward; may = omega (arith, nearer) })
        | inr there ↦
            let was = staged.routes e z there in
            let may = was.may in
            record { toward = was.toward; may = omega (arith, may, nearer) }
      ]

  -- and the admit is passed on over it
  pub passed_over : (over : Enclave) → back_at G y.0 d ≡ Some over
      → IsStaged (parent_of G) G.born (after_line (routed over) (lines.Sent y over (admit_of (number h) (number d)))) d (Admitting h y.0 over.0)
  passed_over over found =
      let P = parent_of G in
      let at = staged.at in
      let back = staged.backs y.0 over found in
      let nearer = laws.tree.nearer P G.born y.0 d over.0 rooted back.toward in
      let later = back_at (after_line (routed over) (lines.Sent y over (admit_of (number h) (number d)))) in
      let way = (route_leaves (after_line G (lines.Got x y)) y (number d) over).way d in
      record {
        flight = λ a b. one_sent (routed over) y over (admit_of (number h) (number d)) d a b still_bounded (eq-eqb d d refl) (got_admit a b);
        backs = λ e z is.
            let was = staged.backs e z (sym (backs_routed over e) ∙ is) in
            record { toward = was.toward; leads = answers_stay (back_at G) later d z.0 (backs_routed over) was.leads; may = tt };
        routes = routes_routed over back.toward;
        at = record {
          from = at.from;
          ahead = back.toward;
          nearer = omega (arith, nearer, at.nearer);
          answers = answers_stay (back_at G) later d over.0 (backs_routed over) back.leads;
          known = ap (λ way. holds G d || is_some way) way ∙ at.known;
          waits = at.waits;
        };
      }

  -- d itself is ready
  pub ready_now : y.0 ≡ d → is_some (G.enclave y.0) ≡ true
      → IsStaged (parent_of G) G.born (after_line (after_line G (lines.Got x y)) (lines.Admitted y)) d Ready
  ready_now here some = record {
    flight = got_admit;
    backs = λ e z is. let was = staged.backs e z is in record { toward = was.toward; leads = was.leads; may = tt };
    routes = λ e z is. let was = staged.routes e z is in record { toward = was.toward; may = tt };
    at = record {
      known = ap (λ t. t || is_some (way_at G d)) (holds_admitted (after_line G (lines.Got x y)) y d) ∙ staged.at.known;
      admitted = rw (eq-eqb d y.0 (sym here)) (some_ready (G.enclave y.0) some);
    };
  }

-- ---- what is made of it

admit_home : (v : View) (from d : Enclave) (r : Record) → d.0 ≡ v.me.0 → v.core.admitted ≡ false → admit_to v from r (Some d) ≡ lines.Admitted v.me ∷ []
admit_home v from d r is waits = rw (eq-eqb d.0 v.me.0 is, waits) refl

admit_on : (v : View) (from d over : Enclave) (r : Record) → d.0 ≢ v.me.0 → at v.ways.backs d.0 ≡ Some over → over.0 ≢ from.0
    → admit_to v from r (Some d) ≡ lines.Route v.me d over ∷ lines.Sent v.me over r ∷ []
admit_on v from d over r apart back turned = rw (ne_eqb d.0 v.me.0 apart, back, ne_eqb over.0 from.0 turned) refl

pub admit_handled : DiscoveryLaws → (G : Facts) (x y : Enclave) (d h : ℕ) (rs : List Record) → IsLed G → IsTree G → IsBounded G
    → IsStaged (parent_of G) G.born G d (Admitting h x.0 y.0) → in_flight G x.0 y.0 ≡ admit_of (number h) (number d) ∷ rs
    → filter (is_about d) rs ≡ []
    → IsMoved G x y d (admit_of (number h) (number d)) (record_lines (view_of G y) x (admit_of (number h) (number d)))
admit_handled laws G x y d h rs led tree bounded staged flight last =
    subst P (sym (record_is (view_of G y) x r fresh)) (elim (cases_eq d y.0) [
      | inl is ↦
          subst P (sym (admit_home (view_of G y) x (number d) r is (waits is)))
          (record {
            registered = record { stage = Ready; is = ready_now laws G x y d h rs rooted bounded staged flight last (sym is) born };
            before = rw (eq-eqb d y.0 is) (ap (is_admitted_at G) (sym is) ∙ staged.at.waits);
            after = rw (eq-eqb d y.0 is, eq-eqb y.0 y.0 refl) (some_ready (G.enclave y.0) born);
          })
      | inr apart ↦ by apart staged.at.answers
    ])
  where
    r : Record
    r = admit_of (number h) (number d)

    P : List Line → Type 0
    P ls = IsMoved G x y d (admit_of (number h) (number d)) ls

    rooted : IsRooted (parent_of G)
    rooted = laws.tree.rooted G tree

    fresh : is_stray (view_of G y) r ≡ false
    fresh = no_stray G y r (led.quiet y.0) (λ is.
        let same : distance (parent_of G) h d ≡ distance (parent_of G) y.0 d = ap (λ e. distance (parent_of G) e d) is in
        let nearer = staged.at.nearer in
        omega (arith, same, nearer))

    waits : d ≡ y.0 → (view_of G y).core.admitted ≡ false
    waits is = view_admitted (G.enclave y.0) ∙ ap (is_admitted_at G) (sym is) ∙ staged.at.waits

    born : is_some (G.enclave y.0) ≡ true
    born = (tree.enclaves y.0).known ∙ lt-ltb y.0 G.born staged.at.ahead.over

    none : is_some (route_at G y.0 d) ≡ false
    none = false_from_ne_true (is_some (route_at G y.0 d)) (λ some.
        let found = is_there (route_at G y.0 d) some in
        let less = (staged.routes y.0 found.value found.is).may in
        omega (arith, less))

    by : d ≢ y.0 → Answers (back_at G) d y.0 → P (body_lines (view_of G y) x r r.body)
    by apart (inl is) = absurd (apart (sym is))
    by apart (inr some) =
        let found = is_there (back_at G y.0 d) some in
        let over = found.value in
        let turned : over.0 ≢ x.0 = back_apart laws G x y d h rs rooted bounded staged flight last over (staged.backs y.0 over found.is).toward in
        subst P (sym (admit_on (view_of G y) x (number d) over r apart found.is turned))
        (record {
          registered = record { stage = Admitting h y.0 over.0; is = passed_over laws G x y d h rs rooted bounded staged flight last over found.is };
          before = rw (ne_eqb d y.0 apart) none;
          after = rw (ne_eqb d y.0 apart) (ap is_some (now_routed laws G x y d h rs rooted bounded staged flight last over));
        })
