-- At every pause each enclave's registration is at a stage.
use Rattle.std.proofs.Common.{◌≡◌, ◌≢◌, ◌≤◌, ℕ, List, [], ◌∷◌, ◌++◌, Bool, true, false, cond, ◌||◌, eqb, Option, None, Some, is_some, inl, inr, refl, sym, ap, ◌∙◌, subst, arith, append-nil}
use Rattle.std.proofs.lemmas.Bool.{cases_eq, eqb-true, eq-eqb, ne_eqb, le-ltb, or_cases, or_left, or_right}
use Rattle.xm_num.specs.declared.Enclave.{Enclave}
use Rattle.xm_num.specs.declared.Block.{Block}
use Rattle.xm_num.specs.declared.Kind.{Kind}
use Rattle.xm_num.specs.declared.Kind.TheVariants as kinds
use Rattle.xemem_language.specs.declared.line.Line.{Line}
use Rattle.xemem_language.specs.declared.line.Line.TheVariants as lines
use Rattle.enclave_rules.specs.Steps.{adopt_lines, birth_lines, query_of}
use Rattle.enclave_rules.specs.Core.{host}
use Rattle.global_model.specs.Facts.{Facts, EnclaveFact, after_line, after_lines, as_admitted, is_admitted, is_holder}
use Rattle.global_model.specs.Flow.{IsTree}
use Rattle.global_model.specs.Pauses.{IsPause, MayCome, MayStandAlone, Step, Written, Hosts, Bears, Takes, Handles, Asks, asked_lines, written_by}
use Rattle.global_model.specs.Tree.{IsRooted, parent_of}
use Rattle.global_model.specs.Views.{view_of}
use Rattle.discovery_laws.specs.Known.{back_at, holds, is_admitted_at, knows, route_at, way_at}
use Rattle.discovery_laws.specs.Laws.{DiscoveryLaws}
use Rattle.discovery_laws.proofs.Underway.{IsBounded}
use Rattle.discovery_laws.proofs.Stages.{Stage, Silent, Registering, Admitting, Ready, IsRegistered, IsStaged, about_in}
use Rattle.discovery_laws.proofs.Unmoved.{holds_admitted, AreAside, IsAside, IsUnmoved, inner_all, staged_stays, unmoved-trans, unmoved_lines}
use Rattle.discovery_laws.proofs.Each.{each-append, each_adopt}
use Rattle.discovery_laws.proofs.Led.{IsLed}
use Rattle.discovery_laws.proofs.Received.{aside_asked}
use Rattle.discovery_laws.proofs.Trees.{grown_born, grown_within, grown-trans}
use Rattle.discovery_laws.proofs.Registrations.{handled, pause_bounded, registered_grown}

-- ---- a line by itself, and bytes that are taken

pub aside_alone : (G : Facts) (line : Line) (d : ℕ) → MayStandAlone G line → IsAside d line
aside_alone G (lines.Sent x y r) d may = absurd may
aside_alone G _ d may = search

-- lines that say nothing of d
pub stays : DiscoveryLaws → (G : Facts) (ls : List Line) (d : ℕ) → IsTree G → IsBounded G → AreAside d ls → IsRegistered (parent_of G) G.born G d
    → IsRegistered (parent_of (after_lines G ls)) (after_lines G ls).born (after_lines G ls) d
stays laws G ls d tree bounded aside registered =
    let more = unmoved_lines laws.row G ls d bounded aside in
    registered_grown laws G (after_lines G ls) tree (grown_within G ls (inner_all ls d aside)) (after_lines G ls) d
    (record { stage = registered.stage; is = staged_stays (parent_of G) G.born G (after_lines G ls) d registered.stage more.same registered.is })

-- ---- births

-- nothing of d stands anywhere; it is admitted, or knows the way, where it holds the name server
record IsBare (G : Facts) (d : ℕ) (holder admitted : Bool) : Type 0 where
  flight : (a b : ℕ) → about_in G d a b ≡ []
  backs : (e : ℕ) (x : Enclave) → back_at G e d ≡ Some x → ⊥
  routes : (e : ℕ) (x : Enclave) → route_at G e d ≡ Some x → ⊥
  held : holds G d ≡ holder
  known : knows G d ≡ holder
  ready : is_admitted_at G d ≡ admitted

bare_stays : (G H : Facts) (d : ℕ) (holder admitted : Bool) → IsUnmoved G H d → IsBare G d holder admitted → IsBare H d holder admitted
bare_stays G H d holder admitted same bare = record {
  flight = λ a b. same.flight a b ∙ bare.flight a b;
  backs = λ e x is. bare.backs e x (sym (same.backs e) ∙ is);
  routes = λ e x is. bare.routes e x (sym (same.routes e) ∙ is);
  held = same.held ∙ bare.held;
  known = same.known ∙ bare.known;
  ready = same.admitted ∙ bare.ready;
}

bare_registered : (parent : ℕ → ℕ) (born : ℕ) (G : Facts) (d : ℕ) (holder : Bool) → IsBare G d holder holder → IsRegistered parent born G d
bare_registered parent born G d holder bare = record {
  stage = Silent;
  is = record {
    flight = bare.flight;
    backs = λ e x is. absurd (bare.backs e x is);
    routes = λ e x is. absurd (bare.routes e x is);
    at = record { known = bare.known ∙ sym bare.held; admitted = bare.ready ∙ sym bare.held };
  };
}

-- of an enclave that isn't born nothing stands anywhere
pub unborn_enclave : (G : Facts) (d : ℕ) → IsTree G → G.born ≤ d → is_some (G.enclave d) ≡ false
unborn_enclave G d tree le = (tree.enclaves d).known ∙ le-ltb d G.born le

none_holds : (fact : Option EnclaveFact) → is_some fact ≡ false → is_holder fact ≡ false
none_holds None is = refl
none_holds (Some fact) is = cc

pub none_admitted : (fact : Option EnclaveFact) → is_some fact ≡ false → is_admitted fact ≡ false
none_admitted None is = refl
none_admitted (Some fact) is = cc

unborn_bare : (parent : ℕ → ℕ) (G : Facts) (d : ℕ) (stage : Stage) → IsPause G → G.born ≤ d → IsStaged parent G.born G d stage → IsBare G d false false
unborn_bare parent G d Silent pause le staged =
    let none = none_holds (G.enclave d) (unborn_enclave G d pause.tree le) in
    record {
      flight = staged.flight;
      backs = λ e x is. (staged.backs e x is).may;
      routes = λ e x is. (staged.routes e x is).may;
      held = none;
      known = staged.at.known ∙ none;
      ready = staged.at.admitted ∙ none;
    }
unborn_bare parent G d (Registering h x y) pause le staged = absurd (let to = staged.at.behind.to in omega (arith, to, le))
unborn_bare parent G d (Admitting h x y) pause le staged = absurd (let to = staged.at.ahead.to in omega (arith, to, le))
unborn_bare parent G d Ready pause le staged = absurd (
    let none : is_admitted_at G d ≡ false = none_admitted (G.enclave d) (unborn_enclave G d pause.tree le) in
    let clash : true ≡ false = sym staged.at.admitted ∙ none in
    cc)

module _ (G : Facts) (child : Enclave) (kind : Kind) (parent : Enclave) (ns : Bool) (blocks : List Block) where
  bare_born : IsBare G child.0 false false → IsBare (after_line G (lines.Born child kind parent ns blocks)) child.0 ns false
  bare_born bare =
      let same : eqb child.0 child.0 ≡ true = eq-eqb child.0 child.0 refl in
      let none : is_some (way_at G child.0) ≡ false = ap (λ t. t || is_some (way_at G child.0)) (sym bare.held) ∙ bare.known in
      record {
        flight = bare.flight;
        backs = bare.backs;
        routes = bare.routes;
        held = rw same refl;
        known = rw (same, none) (by ns);
        ready = rw same refl;
      }
    where
      by : (t : Bool) → (t || false) ≡ t
      by true = refl
      by false = refl

  unmoved_born : (d : ℕ) → IsTree G → child.0 ≡ G.born → child.0 ≢ d → IsUnmoved G (after_line G (lines.Born child kind parent ns blocks)) d
  unmoved_born d tree next apart = record {
    flight = λ a b. refl;
    backs = λ e. refl;
    routes = λ e. refl;
    holders = λ e is. by e (eqb e child.0) refl is;
    knowing = λ e is. elim (or_cases (holds G e) (is_some (way_at G e)) is) [
      | inl held ↦ or_left _ _ (by e (eqb e child.0) refl held)
      | inr way ↦ or_right _ _ way
    ];
    held = rw other refl;
    known = rw other refl;
    admitted = rw other refl;
  }
    where
      other : eqb d child.0 ≡ false
      other = ne_eqb d child.0 (λ is. apart (sym is))

      by : (e : ℕ) (t : Bool) → eqb e child.0 ≡ t → is_holder (G.enclave e) ≡ true
          → is_holder (cond t (Some (record { kind = kind; parent = parent; blocks = blocks; ns = ns; living = true; admitted = false })) (G.enclave e)) ≡ true
      by e true here is = absurd (
          let none : is_holder (G.enclave e) ≡ false
          = none_holds (G.enclave e) (unborn_enclave G e tree (let same = eqb-true e child.0 here in omega (arith, same, next))) in
          let clash : true ≡ false = sym is ∙ none in
          cc)
      by e false there is = is

bare_admitted : (G : Facts) (e : Enclave) (holder : Bool) → is_some (G.enclave e.0) ≡ true → IsBare G e.0 holder false
    → IsBare (after_line G (lines.Admitted e)) e.0 holder true
bare_admitted G e holder some bare = record {
  flight = bare.flight;
  backs = bare.backs;
  routes = bare.routes;
  held = holds_admitted G e e.0 ∙ bare.held;
  known = ap (λ t. t || is_some (way_at G e.0)) (holds_admitted G e e.0) ∙ bare.known;
  ready = rw (eq-eqb e.0 e.0 refl) (by (G.enclave e.0) some);
}
  where
    by : (fact : Option EnclaveFact) → is_some fact ≡ true → is_admitted (as_admitted fact) ≡ true
    by None is = cc
    by (Some fact) is = refl

-- An enclave is born: it is admitted where it holds the name server, and else asks its parent. What is written behind says nothing
-- of any registration.
module _ (laws : DiscoveryLaws) (G : Facts) (child : Enclave) (kind : Kind) (parent : Enclave) (ns : Bool) (blocks : List Block) (asks more : List Line)
    (pause : IsPause G) (next : child.0 ≡ G.born) (asks_aside : (d : ℕ) → AreAside d asks) (more_aside : (d : ℕ) → AreAside d more) where
  aside_first : (d : ℕ) → child.0 ≢ d → (t : Bool) → AreAside d (cond t (lines.Admitted child ∷ []) asks ++ more)
  aside_first d apart true = (apart, more_aside d)
  aside_first d apart false = each-append (IsAside d) asks more (asks_aside d) (more_aside d)

  born_other : (d : ℕ) → child.0 ≢ d → IsRegistered (parent_of G) G.born G d
      → (let H : Facts = after_lines G (lines.Born child kind parent ns blocks ∷ cond ns (lines.Admitted child ∷ []) asks ++ more) in
      IsRegistered (parent_of H) H.born H d)
  born_other d apart registered =
      let G1 = after_line G (lines.Born child kind parent ns blocks) in
      let ls = cond ns (lines.Admitted child ∷ []) asks ++ more in
      let aside : AreAside d ls = aside_first d apart ns in
      let unmoved = unmoved_lines laws.row G1 ls d (pause_bounded G pause) aside in
      let H = after_lines G1 ls in
      registered_grown laws G H pause.tree
      (grown-trans G G1 H (grown_born G child parent kind ns blocks next) (grown_within G1 ls (inner_all ls d aside))) H d
      (record {
        stage = registered.stage;
        is = staged_stays (parent_of G) G.born G H d registered.stage
            (unmoved-trans G G1 H d (unmoved_born G child kind parent ns blocks d pause.tree next apart) unmoved.same) registered.is;
      })

  bare_first : (t : Bool) → IsBare (after_line G (lines.Born child kind parent ns blocks)) child.0 t false
      → IsBare (after_lines (after_line G (lines.Born child kind parent ns blocks)) (cond t (lines.Admitted child ∷ []) asks ++ more)) child.0 t t
  bare_first true bare =
      let G1 = after_line G (lines.Born child kind parent ns blocks) in
      let some : is_some (G1.enclave child.0) ≡ true = rw (eq-eqb child.0 child.0 refl) refl in
      let G2 = after_line G1 (lines.Admitted child) in
      bare_stays G2 (after_lines G2 more) child.0 true true
      (unmoved_lines laws.row G2 more child.0 (pause_bounded G pause) (more_aside child.0)).same (bare_admitted G1 child true some bare)
  bare_first false bare =
      let G1 = after_line G (lines.Born child kind parent ns blocks) in
      let aside : AreAside child.0 (asks ++ more) = each-append (IsAside child.0) asks more (asks_aside child.0) (more_aside child.0) in
      bare_stays G1 (after_lines G1 (asks ++ more)) child.0 false false
      (unmoved_lines laws.row G1 (asks ++ more) child.0 (pause_bounded G pause) aside).same bare

  born_itself : IsRegistered (parent_of G) G.born G child.0
      → (let H : Facts = after_lines G (lines.Born child kind parent ns blocks ∷ cond ns (lines.Admitted child ∷ []) asks ++ more) in
      IsRegistered (parent_of H) H.born H child.0)
  born_itself registered =
      let H = after_lines G (lines.Born child kind parent ns blocks ∷ cond ns (lines.Admitted child ∷ []) asks ++ more) in
      bare_registered (parent_of H) H.born H child.0 ns
      (bare_first ns (bare_born G child kind parent ns blocks
      (unborn_bare (parent_of G) G child.0 registered.stage pause (omega (arith, next)) registered.is)))

  bears : (d : ℕ) → IsRegistered (parent_of G) G.born G d
      → (let H : Facts = after_lines G (lines.Born child kind parent ns blocks ∷ cond ns (lines.Admitted child ∷ []) asks ++ more) in
      IsRegistered (parent_of H) H.born H d)
  bears d registered = elim (cases_eq child.0 d) [
    | inl is ↦
        let H = after_lines G (lines.Born child kind parent ns blocks ∷ cond ns (lines.Admitted child ∷ []) asks ++ more) in
        subst (λ e. IsRegistered (parent_of H) H.born H e) is
        (born_itself (subst (λ e. IsRegistered (parent_of G) G.born G e) (sym is) registered))
    | inr apart ↦ born_other d apart registered
  ]

-- ---- each step

pub registered_step : DiscoveryLaws → (G : Facts) (step : Step) → IsPause G → MayCome G step → IsLed G
    → (let H : Facts = after_lines G (written_by G step) in
    IsLed H → IsRooted (parent_of H)
    → (d : ℕ) → IsRegistered (parent_of G) G.born G d → IsRegistered (parent_of H) H.born H d)
registered_step laws G (Written line) pause may led led' rooted' d registered =
    stays laws G (line ∷ []) d pause.tree (pause_bounded G pause) (aside_alone G line d may.1, tt) registered
registered_step laws G (Takes x y count) pause may led led' rooted' d registered =
    stays laws G (lines.Took x y count ∷ []) d pause.tree (pause_bounded G pause) (tt, tt) registered
registered_step laws G (Handles x y r) pause may led led' rooted' d registered =
    handled laws G x y r pause may led led' rooted' d registered
registered_step laws G (Asks e p call) pause may led led' rooted' d registered =
    stays laws G (asked_lines (view_of G e) p call) d pause.tree (pause_bounded G pause) (aside_asked (view_of G e) p call d) registered
registered_step laws G (Hosts ns blocks) pause may led led' rooted' d registered =
    let P : List Line → Type 0 = λ ls.
    IsRegistered (parent_of (after_lines G (lines.Born host kinds.Host host ns blocks ∷ ls))) (after_lines G (lines.Born host kinds.Host host ns blocks ∷ ls)).born
    (after_lines G (lines.Born host kinds.Host host ns blocks ∷ ls)) d in
    subst P (append-nil (cond ns (lines.Admitted host ∷ []) []))
    (bears laws G host kinds.Host host ns blocks [] [] pause may.1.next (λ d. tt) (λ d. tt) d registered)
registered_step laws G (Bears child kind parent ns blocks) pause may led led' rooted' d registered =
    let P : List Enclave → Type 0 = λ heard.
    let ls : List Line = birth_lines child kind parent blocks ns heard ++ adopt_lines (view_of G parent) child in
    IsRegistered (parent_of (after_lines G ls)) (after_lines G ls).born (after_lines G ls) d in
    subst P (sym (led.quiet parent.0))
    (bears laws G child kind parent ns blocks (lines.Sent child parent (query_of child) ∷ []) (adopt_lines (view_of G parent) child) pause may.1.next
    (λ d. (refl, tt)) (λ d. each_adopt (IsAside d) (view_of G parent) child refl) d registered)
