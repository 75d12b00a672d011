-- Each step leaves each call idle or on its way.
use Rattle.std.proofs.Common.{◌≡◌, ◌≢◌, ◌⊎◌, ◌≤◌, ℕ, List, ◌∷◌, Bool, true, false, cond, eqb, Option, None, Some, is_some, inl, inr, refl, sym, ap, ◌∙◌, subst, arith}
use Rattle.std.specs.List.{AllByRecursion}
use Rattle.std.proofs.lemmas.Bool.{eqb-true, eq-eqb}
use Rattle.xm_num.specs.declared.Enclave.{Enclave}
use Rattle.xm_num.specs.declared.Segid.{Segid}
use Rattle.xemem_language.specs.declared.record.Record.{Record}
use Rattle.xemem_language.specs.declared.record.Body.{Body}
use Rattle.xemem_language.specs.declared.record.Body.TheVariants as bodies
use Rattle.xemem_language.specs.declared.line.Line.{Line}
use Rattle.xemem_language.specs.declared.line.Line.TheVariants as lines
use Rattle.xemem_wire.specs.Spelling.{is_valid}
use Rattle.enclave_rules.specs.View.{View}
use Rattle.enclave_rules.specs.Segments.{name_lines, unname_lines}
use Rattle.enclave_rules.specs.Sending.{drop_lines}
use Rattle.enclave_rules.specs.Steps.{body_lines, handled_lines, is_stray, name_request_lines, named_to, unname_to}
use Rattle.global_model.specs.Facts.{Facts, facts_at}
use Rattle.global_model.specs.Journals.{Follows, onto}
use Rattle.global_model.specs.Views.{view_of}
use Rattle.discovery_laws.specs.Known.{holds, in_flight, route_at, way_at}
use Rattle.call_laws.specs.Cells.{cells}
use Rattle.call_laws.specs.Flights.{is_of}
use Rattle.call_laws.specs.Laws.{CallRows}
use Rattle.call_laws.specs.Onward.{IsForCaller, IsForServer, IsOnward, OnwardBy}
use Rattle.call_laws.specs.Places.{HasRoom}
use Rattle.call_laws.proofs.Handled.{free_body, goes_handled, ns_is}
use Rattle.call_laws.proofs.Idle.{AreIdle, Settles, Spares, idle_lines, settled, spare_free}
use Rattle.call_laws.proofs.SentLines.{Tells}
use Rattle.call_laws.proofs.Tied.{IsPlainBody, IsTied, KeepsAt}
use Rattle.global_model.specs.Facts.{EnclaveFact, is_living_enclave}
use Rattle.global_model.specs.Flow.{IsTree}
use Rattle.global_model.specs.Pauses.{IsPause}
use Rattle.global_model.specs.Tree.{IsRooted, parent_of}
use Rattle.discovery_laws.specs.Ways.{IsLeading}
use Rattle.call_laws.specs.Laws.{TreePaths}
use Rattle.enclave_rules.specs.Steps.{record_lines}
use Rattle.std.proofs.lemmas.Bool.{eqb-false, ltb-true}
use Rattle.call_laws.proofs.Tied.{AreFreeOfCalls, IsFreeOfCalls}
use Rattle.call_laws.proofs.BoundSteps.{next_bound}
use Rattle.call_laws.proofs.Bounds.{ahead_some, reached_ahead}
use Rattle.call_laws.proofs.Each.{each_either}
use Rattle.call_laws.proofs.IdleHandled.{forgotten, name_passed, name_taken, own_request, own_unname, request_drawn, server_passed}
use Rattle.call_laws.proofs.IdleRecords.{plain_none, stray_is}
use Rattle.call_laws.proofs.Onward.{AreBound, BoundBy, bound_onward}
use Rattle.call_laws.proofs.Requests.{all-behind}
use Rattle.call_laws.proofs.Roads.{AreRoads}

pub is_number : (G : Facts) (e : ℕ) → IsTree G → is_living_enclave (G.enclave e) ≡ true → e ≤ 255
is_number G e tree living =
    let low = ltb-true e G.born (sym (tree.enclaves e).known ∙ by (G.enclave e) living) in
    let most = tree.most in
    omega (arith, low, most)
  where
    by : (fact : Option EnclaveFact) → is_living_enclave fact ≡ true → is_some fact ≡ true
    by None is = cc
    by (Some fact) is = refl

-- ---- the next record

next_of : (P : Record → Type 0) (past : List Line) (x y : ℕ) (r : Record) (rs : List Record) → in_flight (facts_at past) x y ≡ r ∷ rs
    → AllByRecursion P ((facts_at past).channel x y).sent → P r
next_of P past x y r rs is all =
    let behind = all-behind P ((facts_at past).channel x y).got ((facts_at past).channel x y).sent all in
    let first : AllByRecursion P (r ∷ rs) = subst (AllByRecursion P) is behind in
    first.0

module _ (rows : CallRows) (tree : TreePaths) (past : List Line) (x y : Enclave) (r : Record) (tied : IsTied past) (pause : IsPause (facts_at past))
    (roads : AreRoads (facts_at past)) (leading : IsLeading (facts_at past)) (bound : AreBound (facts_at past)) (room : HasRoom past) (idle : AreIdle past) where
  abbrev pub G : Facts
  G = facts_at past

  abbrev pub v : View
  v = view_of (facts_at past) y

  module _ (behind : List Record) (next : in_flight (facts_at past) x.0 y.0 ≡ r ∷ behind) (living : is_living_enclave ((facts_at past).enclave y.0) ≡ true) where
    tells : Tells (cells past) r
    tells = next_of (Tells (cells past)) past x.0 y.0 r behind next (tied.told x.0 y.0)

    valid : is_valid r ≡ true
    valid = next_of (λ r. is_valid r ≡ true) past x.0 y.0 r behind next (pause.flows x.0 y.0).valid

    keeps : Follows KeepsAt past (handled_lines v x r)
    keeps = (goes_handled rows past x y r behind tied next).keeps

    handled_is : (body : Body) → r.body ≡ body → r.origin.0 ≢ y.0 → handled_lines v x r ≡ lines.Got x y ∷ body_lines v x r body
    handled_is body is foreign =
        ap (λ t. lines.Got x y ∷ cond t (drop_lines v) (body_lines v x r r.body)) (stray_is G y r (roads.quiet y.0) foreign)
        ∙ ap (λ b. lines.Got x y ∷ body_lines v x r b) is

    done : (body : Body) → r.body ≡ body → r.origin.0 ≢ y.0 → (e k : ℕ) → Settles past (lines.Got x y ∷ body_lines v x r body) e k → AreIdle (onto (handled_lines v x r) past)
    done body is foreign e k settles =
        settled rows past (handled_lines v x r) e k keeps tied (subst (λ ls. Settles past ls e k) (sym (handled_is body is foreign)) settles) idle

    held_or : (t : Bool) → v.core.holder ≡ t → (holds G y.0 ≡ true) ⊎ IsOnward (way_at G y.0) x.0 → t ≡ false → IsOnward (way_at G y.0) x.0
    held_or t is (inl held) none = let clash : true ≡ false = sym (ns_is (G.enclave y.0) ∙ held) ∙ is ∙ none in absurd (cc)
    held_or t is (inr on) none = on

    request : r.body ≡ bodies.NameReq → IsForServer G x.0 y.0 r → BoundBy G x.0 y.0 r bodies.NameReq → AreIdle (onto (handled_lines v x r) past)
    request body on is = done bodies.NameReq body on.foreign r.origin.0 r.call (by v.core.holder refl)
      where
        by : (t : Bool) → v.core.holder ≡ t → Settles past (lines.Got x y ∷ name_request_lines v x r) r.origin.0 r.call
        by true here =
            let held : holds G y.0 ≡ true = sym (ns_is (G.enclave y.0)) ∙ here in
            let ahead = reached_ahead G roads leading r.origin.0 y.0 is.1 held in
            route (route_at G y.0 r.origin.0) refl (ahead_some G r.origin.0 y.0 ahead (λ same. on.foreign (sym same))) held
          where
            route : (found : Option Enclave) → route_at G y.0 r.origin.0 ≡ found → is_some found ≡ true → holds G y.0 ≡ true
                → Settles past (lines.Got x y ∷ name_request_lines v x r) r.origin.0 r.call
            route None found some held = cc
            route (Some z) found some held =
                request_drawn rows past x y r behind tied next tells on.foreign valid body held (is_number G y.0 pause.tree living) room z found
        by false here = server_passed rows past x y r behind tied next tells on.foreign valid v.core.holder (name_lines v r.origin r.call) r.origin.0 r.call
            (own_request rows past x y r behind tied next tells on.foreign valid body) here (held_or false here on.goes refl)

    name : (segid : Segid) → r.body ≡ bodies.Named segid → IsForCaller G x.0 y.0 r → AreIdle (onto (handled_lines v x r) past)
    name segid body on = done (bodies.Named segid) body on.foreign on.caller.0 r.call (by (eqb on.caller.0 y.0) refl on.goes)
      where
        by : (t : Bool) → eqb on.caller.0 y.0 ≡ t → (y.0 ≡ on.caller.0) ⊎ IsOnward (route_at G y.0 on.caller.0) x.0
            → Settles past (lines.Got x y ∷ named_to v x r segid r.dest) on.caller.0 r.call
        by true here goes = name_taken rows past x y r behind tied next tells on.foreign valid segid on.caller body on.is (eqb-true on.caller.0 y.0 here)
        by false there (inl same) = let clash : true ≡ false = sym (eq-eqb on.caller.0 y.0 (sym same)) ∙ there in absurd (cc)
        by false there (inr over) = name_passed rows past x y r behind tied next tells on.foreign valid segid on.caller body on.is (eqb-false on.caller.0 y.0 there) over

    unname : (segid : Segid) → r.body ≡ bodies.Unname segid → IsForServer G x.0 y.0 r → AreIdle (onto (handled_lines v x r) past)
    unname segid body on = done (bodies.Unname segid) body on.foreign r.origin.0 r.call (by v.core.holder refl)
      where
        by : (t : Bool) → v.core.holder ≡ t → Settles past (lines.Got x y ∷ unname_to v x r segid) r.origin.0 r.call
        by true here = forgotten rows past x y r behind tied next tells on.foreign valid segid body (sym (ns_is (G.enclave y.0)) ∙ here)
        by false here = server_passed rows past x y r behind tied next tells on.foreign valid v.core.holder (unname_lines v r.origin segid) r.origin.0 r.call
            (own_unname rows past x y r behind tied next tells on.foreign valid segid body) here (held_or false here on.goes refl)

    plain : (body : Body) → r.body ≡ body → IsPlainBody body → AreIdle (onto (handled_lines v x r) past)
    plain body is other f j = idle_lines rows past (handled_lines v x r) f j keeps tied (got, spare_free (lines.Got x y ∷ past) (record_lines v x r) f j free) (idle f j)
      where
        is_plain : IsPlainBody r.body
        is_plain = subst IsPlainBody (sym is) other

        free : AreFreeOfCalls (record_lines v x r)
        free = each_either IsFreeOfCalls (is_stray v r) (drop_lines v) (body_lines v x r r.body) (tt, tt) (free_body v x r r.body is_plain is_plain)

        got : Spares f j past (lines.Got x y)
        got q rs found =
            let both : r ∷ behind ≡ q ∷ rs = sym next ∙ found in
            let same : r ≡ q = cc in
            subst (λ (q : Record). is_of f j q ≡ false) same (plain_none r r.body f j is_plain)

    pub idle_handled : AreIdle (onto (handled_lines v x r) past)
    idle_handled = by r.body refl (next_bound G bound x y r behind next)
      where
        rooted : IsRooted (parent_of G)
        rooted = tree.rooted G pause.tree

        on_as : (body : Body) → r.body ≡ body → OnwardBy G x.0 y.0 r body
        on_as body is = subst (OnwardBy G x.0 y.0 r) is (bound_onward tree G rooted leading x.0 y.0 r (next_bound G bound x y r behind next))

        by : (body : Body) → r.body ≡ body → BoundBy G x.0 y.0 r body → AreIdle (onto (handled_lines v x r) past)
        by bodies.NameReq is bound_is = request is (on_as bodies.NameReq is) bound_is
        by (bodies.Named segid) is bound_is = name segid is (on_as (bodies.Named segid) is)
        by (bodies.Unname segid) is bound_is = unname segid is (on_as (bodies.Unname segid) is)
        by body is bound_is = plain body is tt
