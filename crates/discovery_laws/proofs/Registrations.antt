-- Each record that is got leaves every registration at a stage.
use Rattle.std.proofs.Common.{◌≡◌, ◌≢◌, ◌⊎◌, ◌-◌, ◌≤◌, ℕ, List, [], ◌∷◌, length, filter, Bool, true, false, cond, leb, inl, inr, refl, sym, ap, ◌∙◌, subst, arith}
use Rattle.std.proofs.lemmas.Bool.{cases_Bool, cases_eq}
use Rattle.xm_num.specs.declared.Enclave.{Enclave}
use Rattle.xemem_language.specs.declared.record.Record.{Record}
use Rattle.xemem_language.specs.declared.record.Body.{Body}
use Rattle.xemem_language.specs.declared.record.Body.TheVariants as bodies
use Rattle.xemem_language.specs.declared.line.Line.TheVariants as lines
use Rattle.enclave_rules.specs.View.{View}
use Rattle.enclave_rules.specs.Steps.{admit_of, is_stray, record_lines, register_of}
use Rattle.enclave_rules.specs.Sending.{knows_way}
use Rattle.global_model.specs.Facts.{Facts, after_line, after_lines}
use Rattle.global_model.specs.Channels.{size_of, whole_records}
use Rattle.global_model.specs.Flow.{IsTree}
use Rattle.global_model.specs.Pauses.{IsPause, MayHandle}
use Rattle.global_model.specs.Tree.{IsRooted, parent_of}
use Rattle.global_model.specs.Views.{view_of}
use Rattle.discovery_laws.specs.Known.{in_flight, knows}
use Rattle.discovery_laws.specs.Laws.{DiscoveryLaws}
use Rattle.discovery_laws.proofs.Answered.{knows_way_is}
use Rattle.discovery_laws.proofs.Underway.{IsBounded, bounded_got, next_flight}
use Rattle.discovery_laws.proofs.Stages.{Stage, Silent, Registering, Admitting, Ready, IsRegistered, IsStaged, is_about, number, under_way}
use Rattle.discovery_laws.proofs.Unmoved.{AreAside, staged_stays, unmoved-trans, unmoved_lines}
use Rattle.discovery_laws.proofs.Received.{MayHear, aside_record, unmoved_got}
use Rattle.discovery_laws.proofs.Moves.{about_first, alone_taken}
use Rattle.discovery_laws.proofs.Marks.{IsMoved}
use Rattle.discovery_laws.proofs.Led.{IsLed}
use Rattle.discovery_laws.proofs.Registers.{register_handled}
use Rattle.discovery_laws.proofs.Admitted.{admit_handled}
use Rattle.discovery_laws.proofs.Begun.{here_handled}
use Rattle.discovery_laws.proofs.Trees.{IsGrown, grown_handled, staged_grown}

-- ---- at a pause

whole_few : (n : ℕ) (rs : List Record) → length (whole_records n rs) ≤ length rs
whole_few n [] = omega arith
whole_few n (r ∷ rs) = by (leb (size_of r) n) (whole_few (n - size_of r) rs)
  where
    by : (t : Bool) → length (whole_records (n - size_of r) rs) ≤ length rs
        → length (cond t (r ∷ whole_records (n - size_of r) rs) []) ≤ length (r ∷ rs)
    by true less = omega (arith, less)
    by false less = omega arith

pub pause_bounded : (G : Facts) → IsPause G → IsBounded G
pause_bounded G pause x y =
    let got = (pause.flows x y).got in
    let few = whole_few (G.channel x y).taken (G.channel x y).sent in
    omega (arith, got, few)

pub registered_grown : DiscoveryLaws → (G H : Facts) → IsTree G → IsGrown G H → (K : Facts) (d : ℕ)
    → IsRegistered (parent_of G) G.born K d → IsRegistered (parent_of H) H.born K d
registered_grown laws G H tree grown K d registered = record {
  stage = registered.stage;
  is = staged_grown laws G H (laws.tree.rooted G tree) grown K d registered.stage registered.is;
}

-- ---- a record is got

-- one that says nothing of d, from an enclave for which d registers nothing
leaves : DiscoveryLaws → (G : Facts) (x y : Enclave) (r : Record) (rs : List Record) (d : ℕ) → IsBounded G → in_flight G x.0 y.0 ≡ r ∷ rs
    → is_about d r ≡ false → AreAside d (record_lines (view_of G y) x r)
    → IsRegistered (parent_of G) G.born G d → IsRegistered (parent_of G) G.born (after_lines G (lines.Got x y ∷ record_lines (view_of G y) x r)) d
leaves laws G x y r rs d bounded flight other aside registered =
    let got = unmoved_got G x y r rs d flight other in
    let G1 = after_line G (lines.Got x y) in
    let more = unmoved_lines laws.row G1 (record_lines (view_of G y) x r) d (bounded_got G x y r rs flight bounded) aside in
    record {
      stage = registered.stage;
      is = staged_stays (parent_of G) G.born G (after_lines G1 (record_lines (view_of G y) x r)) d registered.stage
          (unmoved-trans G G1 (after_lines G1 (record_lines (view_of G y) x r)) d got more.same) registered.is;
    }

-- one of d
pub moves : DiscoveryLaws → (G : Facts) (x y : Enclave) (r : Record) (rs : List Record) (d : ℕ) (stage : Stage) → IsLed G → IsTree G → IsBounded G
    → in_flight G x.0 y.0 ≡ r ∷ rs → is_about d r ≡ true → IsStaged (parent_of G) G.born G d stage
    → IsMoved G x y d r (record_lines (view_of G y) x r)
moves laws G x y r rs d stage led tree bounded flight about staged = by stage staged (sym (staged.flight x.0 y.0) ∙ about_first G x.0 y.0 r rs d flight about)
  where
    by : (stage : Stage) → IsStaged (parent_of G) G.born G d stage → under_way d stage x.0 y.0 ≡ r ∷ filter (is_about d) rs
        → IsMoved G x y d r (record_lines (view_of G y) x r)
    by Silent staged is = cc
    by (Registering h a b) staged is =
        let taken = alone_taken a b (register_of (number d)) r (filter (is_about d) rs) x.0 y.0 is in
        let here : IsStaged (parent_of G) G.born G d (Registering h x.0 y.0)
        = subst (λ n. IsStaged (parent_of G) G.born G d (Registering h n y.0)) (sym taken.from)
        (subst (λ n. IsStaged (parent_of G) G.born G d (Registering h a n)) (sym taken.to) staged) in
        subst (λ s. IsMoved G x y d s (record_lines (view_of G y) x s)) taken.same
        (register_handled laws G x y d h rs led (laws.tree.rooted G tree) bounded here (flight ∙ ap (λ s. s ∷ rs) (sym taken.same)) taken.last)
    by (Admitting h a b) staged is =
        let taken = alone_taken a b (admit_of (number h) (number d)) r (filter (is_about d) rs) x.0 y.0 is in
        let here : IsStaged (parent_of G) G.born G d (Admitting h x.0 y.0)
        = subst (λ n. IsStaged (parent_of G) G.born G d (Admitting h n y.0)) (sym taken.from)
        (subst (λ n. IsStaged (parent_of G) G.born G d (Admitting h a n)) (sym taken.to) staged) in
        subst (λ s. IsMoved G x y d s (record_lines (view_of G y) x s)) taken.same
        (admit_handled laws G x y d h rs led tree bounded here (flight ∙ ap (λ s. s ∷ rs) (sym taken.same)) taken.last)
    by Ready staged is = cc

here_or_not : (v : View) (d : ℕ) (body : Body) → (body ≡ bodies.Here) ⊎ MayHear v d body
here_or_not v d bodies.Here = inl refl
here_or_not v d _ = inr tt

-- a record that isn't of d, to an enclave that may hear of its way
hears : DiscoveryLaws → (G : Facts) (x y : Enclave) (r : Record) (rs : List Record) → IsTree G → IsBounded G → in_flight G x.0 y.0 ≡ r ∷ rs
    → is_about y.0 r ≡ false → knows G y.0 ≡ false
    → (let H : Facts = after_lines G (lines.Got x y ∷ record_lines (view_of G y) x r) in
    IsLed H → IsRooted (parent_of H)
    → IsRegistered (parent_of G) G.born G y.0 → IsRegistered (parent_of H) H.born H y.0)
hears laws G x y r rs tree bounded flight other none led rooted registered = elim (cases_Bool (is_stray (view_of G y) r)) [
  | inl stray ↦
      let dropped : AreAside y.0 (record_lines (view_of G y) x r) = rw stray (tt, tt) in
      registered_grown laws G H tree (grown_handled G x y r) H y.0 (leaves laws G x y r rs y.0 bounded flight other dropped registered)
  | inr apt ↦ elim (here_or_not (view_of G y) y.0 r.body) [
    | inl here ↦ here_handled laws G x y r rs registered.stage bounded registered.is flight here apt none led rooted
    | inr may ↦
        registered_grown laws G H tree (grown_handled G x y r) H y.0
        (leaves laws G x y r rs y.0 bounded flight other (aside_record (view_of G y) x r y.0 other may) registered)
  ]
]
  where
    H : Facts
    H = after_lines G (lines.Got x y ∷ record_lines (view_of G y) x r)

pub handled : DiscoveryLaws → (G : Facts) (x y : Enclave) (r : Record) → IsPause G → MayHandle G x y r → IsLed G
    → (let H : Facts = after_lines G (lines.Got x y ∷ record_lines (view_of G y) x r) in
    IsLed H → IsRooted (parent_of H)
    → (d : ℕ) → IsRegistered (parent_of G) G.born G d → IsRegistered (parent_of H) H.born H d)
handled laws G x y r pause may led led' rooted' d registered = elim (cases_Bool (is_about d r)) [
  | inl about ↦ grown (moves laws G x y r rs d registered.stage led tree bounded flight about registered.is).registered
  | inr other ↦ elim (cases_Bool (knows G y.0)) [
    | inl known ↦
        let way : knows_way (view_of G y) ≡ true = knows_way_is G y ∙ known in
        grown (leaves laws G x y r rs d bounded flight other (aside_record (view_of G y) x r d other (may_hear (inl way) r.body)) registered)
    | inr none ↦ elim (cases_eq y.0 d) [
      | inl is ↦ by is other none registered
      | inr apart ↦ grown (leaves laws G x y r rs d bounded flight other (aside_record (view_of G y) x r d other (may_hear (inr apart) r.body)) registered)
    ]
  ]
]
  where
    H : Facts
    H = after_lines G (lines.Got x y ∷ record_lines (view_of G y) x r)

    tree : IsTree G
    tree = pause.tree

    bounded : IsBounded G
    bounded = pause_bounded G pause

    rs : List Record
    rs = (next_flight G x.0 y.0 r may.others may.next).others

    flight : in_flight G x.0 y.0 ≡ r ∷ rs
    flight = (next_flight G x.0 y.0 r may.others may.next).is

    grown : IsRegistered (parent_of G) G.born H d → IsRegistered (parent_of H) H.born H d
    grown = registered_grown laws G H tree (grown_handled G x y r) H d

    may_hear : (knows_way (view_of G y) ≡ true) ⊎ (y.0 ≢ d) → (body : Body) → MayHear (view_of G y) d body
    may_hear may bodies.Here = may
    may_hear may _ = tt

    by : y.0 ≡ d → is_about d r ≡ false → knows G y.0 ≡ false → IsRegistered (parent_of G) G.born G d → IsRegistered (parent_of H) H.born H d
    by is other none registered =
        subst (λ e. IsRegistered (parent_of H) H.born H e) is
        (hears laws G x y r rs tree bounded flight (ap (λ e. is_about e r) is ∙ other) none led' rooted'
        (subst (λ e. IsRegistered (parent_of G) G.born G e) (sym is) registered))
