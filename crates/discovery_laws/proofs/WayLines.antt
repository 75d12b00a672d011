-- An enclave learns its way once.
use Rattle.std.proofs.Common.{◌≡◌, ◌+◌, ◌≤◌, ℕ, List, [], ◌∷◌, Bool, true, false, cond, ◌||◌, eqb, filter, length, is_some, Option, None, Some, refl, sym, ap, ◌∙◌, arith, length-append}
use Rattle.std.specs.Prelude.{◌++◌}
use Rattle.std.specs.List.{AllByRecursion}
use Rattle.std.proofs.lemmas.Bool.{eqb-true, eqb-false}
use Rattle.std.proofs.lemmas.List.Elements.{filter-append}
use Rattle.xm_num.specs.declared.Enclave.{Enclave}
use Rattle.xm_num.specs.Rows.{less}
use Rattle.xemem_language.specs.declared.command.Command.{Command}
use Rattle.xemem_language.specs.declared.command.Command.TheVariants as commands
use Rattle.xemem_language.specs.declared.record.Record.{Record}
use Rattle.xemem_language.specs.declared.record.Body.{Body}
use Rattle.xemem_language.specs.declared.record.Body.TheVariants as bodies
use Rattle.xemem_language.specs.declared.line.Line.{Line}
use Rattle.xemem_language.specs.declared.line.Line.TheVariants as lines
use Rattle.enclave_rules.specs.View.{View}
use Rattle.enclave_rules.specs.Core.{host}
use Rattle.enclave_rules.specs.Ways.{place_among}
use Rattle.enclave_rules.specs.Sending.{knows_way, drop_lines}
use Rattle.enclave_rules.specs.Steps.{is_stray, here_of, register_of, adopt_lines, birth_lines, host_lines, told_askers, body_lines, record_lines}
use Rattle.global_model.specs.Facts.{Facts, after_line, after_lines, no_facts}
use Rattle.global_model.specs.Parts.{Part, Death, Learning, Lacks}
use Rattle.global_model.specs.Place.{IsPlaced}
use Rattle.global_model.specs.Due.{journal_of}
use Rattle.global_model.specs.Pauses.{Step, Written, Hosts, Bears, Takes, Handles, Asks, asked_lines, written_by, written_in, MayCome, AreSteps}
use Rattle.global_model.specs.Views.{view_of}
use Rattle.discovery_laws.specs.Laws.{DiscoveryLaws, FactLaws}
use Rattle.discovery_laws.specs.Ways.{is_way_line, ways_in}
use Rattle.discovery_laws.specs.Known.{way_at}
use Rattle.discovery_laws.proofs.Effects.{way_learns, asked_leaves, admitted_leaves, back_leaves, route_leaves}
use Rattle.discovery_laws.proofs.Flights.{one_if}
use Rattle.discovery_laws.proofs.Asking.{is_query_body, is_here_body}
use Rattle.discovery_laws.proofs.Each.{each-append, each-weaker, each_birth, each_either, each_told}
use Rattle.discovery_laws.proofs.Calm.{IsCalm, calm_alone}
use Rattle.discovery_laws.proofs.Answered.{calm_asked, calm_body}

-- ---- lines by which no way is learned and no death heard

abbrev way_parts : List Part
way_parts = Death ∷ Learning ∷ []

calm_lacks : (line : Line) → IsCalm line → Lacks way_parts line
calm_lacks (lines.Sent x y r) calm = tt
calm_lacks _ calm = search

-- ---- how often an enclave learned its way is told by whether it knows it

record IsToldBy (G : Facts) (e : ℕ) (ls : List Line) : Type 0 where
  told : ways_in e ls + one_if (is_some (way_at G e)) ≡ one_if (is_some (way_at (after_lines G ls) e))

way_stays : (G : Facts) (e : ℕ) (line : Line) → Lacks way_parts line → (is_way_line e line ≡ false) × (way_at (after_line G line) e ≡ way_at G e)
way_stays G e (lines.Way of over) none = absurd none
way_stays G e (lines.Heard of dead) none = absurd none
way_stays G e (lines.Do (commands.Pool blocks)) none = (refl, refl)
way_stays G e (lines.Asked of by) none = (refl, asked_leaves G of by e)
way_stays G e (lines.Back of d over) none = (refl, (back_leaves G of d over).way e)
way_stays G e (lines.Route of d over) none = (refl, (route_leaves G of d over).way e)
way_stays G e (lines.Admitted of) none = (refl, (admitted_leaves G of of of).way e)
way_stays G e line none = (refl, refl)

told-append : (past : FactLaws) (G : Facts) (e : ℕ) (ls ms : List Line) → IsToldBy G e ls → IsToldBy (after_lines G ls) e ms → IsToldBy G e (ls ++ ms)
told-append past G e ls ms first more = record {
  told =
      let both : ways_in e (ls ++ ms) ≡ ways_in e ls + ways_in e ms
      = ap length (filter-append (is_way_line e) ls ms) ∙ length-append (filter (is_way_line e) ls) (filter (is_way_line e) ms) in
      let end : one_if (is_some (way_at (after_lines G (ls ++ ms)) e)) ≡ one_if (is_some (way_at (after_lines (after_lines G ls) ms) e))
      = ap (λ H. one_if (is_some (way_at H e))) (past.after G ls ms) in
      omega (arith, both, end, first.told, more.told);
}

stays_told : (e : ℕ) (ls : List Line) (G : Facts) → AllByRecursion (Lacks way_parts) ls → IsToldBy G e ls
stays_told e [] G none = record { told = omega arith }
stays_told e (l ∷ ls) G none =
    let one = way_stays G e l none.0 in
    let more = stays_told e ls (after_line G l) none.1 in
    record {
      told =
          let count : ways_in e (l ∷ ls) ≡ ways_in e ls = ap (λ t. length (cond t (l ∷ filter (is_way_line e) ls) (filter (is_way_line e) ls))) one.0 in
          let before : one_if (is_some (way_at (after_line G l) e)) ≡ one_if (is_some (way_at G e)) = ap (λ o. one_if (is_some o)) one.1 in
          omega (arith, count, before, more.told);
    }

way_told : (G : Facts) (e : ℕ) (y over : Enclave) → way_at G y.0 ≡ None → IsToldBy G e (lines.Way y over ∷ [])
way_told G e y over none = record {
  told = by (eqb y.0 e) (eqb e y.0) refl refl ∙ ap (λ o. one_if (is_some o)) (sym (way_learns G y over e));
}
  where
    by : (s t : Bool) → eqb y.0 e ≡ s → eqb e y.0 ≡ t
        → length (cond s (lines.Way y over ∷ []) []) + one_if (is_some (way_at G e)) ≡ one_if (is_some (cond t (Some over) (way_at G e)))
    by true true is at =
        let unknown : one_if (is_some (way_at G e)) ≡ 0 = ap (λ o. one_if (is_some o)) (ap (way_at G) (eqb-true e y.0 at) ∙ none) in
        omega (arith, unknown)
    by false false is at = omega arith
    by true false is at = absurd (eqb-false e y.0 at (sym (eqb-true y.0 e is)))
    by false true is at = absurd (eqb-false y.0 e is (sym (eqb-true e y.0 at)))

-- ---- records

unknown_way : (holder : Bool) (o : Option Enclave) → (holder || is_some o) ≡ false → o ≡ None
unknown_way true o none = absurd (cc)
unknown_way false None none = refl
unknown_way false (Some x) none = absurd (cc)

module _ (laws : DiscoveryLaws) (G : Facts) (e : ℕ) (x y : Enclave) (r : Record) where
  abbrev v : View
  v = view_of G y

  here_told : (t : Bool) → knows_way v ≡ t → IsToldBy G e (lines.Got x y ∷ cond t (drop_lines v) (lines.Way y x
      ∷ told_askers v (less v.ways.askers (place_among v.core.parent x)) ++ lines.Sent y x (register_of y) ∷ []))
  here_told true is = stays_told e (lines.Got x y ∷ drop_lines v) G (tt, (tt, tt))
  here_told false is =
      let others = told_askers v (less v.ways.askers (place_among v.core.parent x)) in
      let first : IsToldBy G e (lines.Got x y ∷ lines.Way y x ∷ [])
      = told-append laws.past G e (lines.Got x y ∷ []) (lines.Way y x ∷ []) (stays_told e (lines.Got x y ∷ []) G (tt, tt))
      (way_told (after_line G (lines.Got x y)) e y x (unknown_way v.core.holder (way_at G y.0) is)) in
      told-append laws.past G e (lines.Got x y ∷ lines.Way y x ∷ []) (others ++ lines.Sent y x (register_of y) ∷ []) first
      (stays_told e (others ++ lines.Sent y x (register_of y) ∷ []) (after_lines G (lines.Got x y ∷ lines.Way y x ∷ []))
      (each-append (Lacks way_parts) others (lines.Sent y x (register_of y) ∷ []) (each_told (Lacks way_parts) v (less v.ways.askers (place_among v.core.parent x)) (λ z. tt)) (tt, tt)))

  body_told : (body : Body) → r.body ≡ body → IsToldBy G e (lines.Got x y ∷ body_lines v x r body)
  body_told bodies.Query is = stays_told e (lines.Got x y ∷ body_lines v x r bodies.Query) G
      (tt, each_either (Lacks way_parts) (knows_way v) (lines.Sent y x (here_of y) ∷ []) (lines.Asked y x ∷ []) (tt, tt) (tt, tt))
  body_told bodies.Here is = here_told (knows_way v) refl
  body_told body is = stays_told e (lines.Got x y ∷ body_lines v x r body) G
      (tt, each-weaker IsCalm (Lacks way_parts) calm_lacks (body_lines v x r body) (calm_body v x r (ap (λ b. is_query_body b || is_here_body b) is) body refl))

  record_told : IsToldBy G e (lines.Got x y ∷ record_lines v x r)
  record_told = by (is_stray v r)
    where
      by : (t : Bool) → IsToldBy G e (lines.Got x y ∷ cond t (drop_lines v) (body_lines v x r r.body))
      by true = stays_told e (lines.Got x y ∷ drop_lines v) G (tt, (tt, tt))
      by false = body_told r.body refl

-- ---- steps

step_told : (laws : DiscoveryLaws) (G : Facts) (e : ℕ) (step : Step) → MayCome G step → IsToldBy G e (written_by G step)
step_told laws G e (Written line) may = stays_told e (line ∷ []) G (calm_lacks line (calm_alone G line may.1), tt)
step_told laws G e (Hosts ns blocks) may = stays_told e (host_lines blocks ns) G (tt, each_either (Lacks way_parts) ns (lines.Admitted host ∷ []) [] (tt, tt) tt)
step_told laws G e (Bears child kind parent ns blocks) may =
    stays_told e (birth_lines child kind parent blocks ns (G.heard parent.0) ++ adopt_lines (view_of G parent) child) G
    (tt, each_birth (Lacks way_parts) child parent ns (G.heard parent.0) (view_of G parent) (λ d. tt) tt (λ a b. tt))
step_told laws G e (Asks of p call) may =
    stays_told e (asked_lines (view_of G of) p call) G (each-weaker IsCalm (Lacks way_parts) calm_lacks (asked_lines (view_of G of) p call) (calm_asked (view_of G of) p call))
step_told laws G e (Takes x y n) may = stays_told e (lines.Took x y n ∷ []) G (tt, tt)
step_told laws G e (Handles x y r) may = record_told laws G e x y r

steps_told : (laws : DiscoveryLaws) (e : ℕ) (steps : List Step) (G : Facts) → AreSteps G steps → IsToldBy G e (written_in G steps)
steps_told laws e [] G are = record { told = omega arith }
steps_told laws e (step ∷ steps) G are =
    let own = written_by G step in
    told-append laws.past G e own (written_in (after_lines G own) steps) (step_told laws G e step are.1)
    (steps_told laws e steps (after_lines G own) are.2)

pub journal_of-ways : (laws : DiscoveryLaws) (commands : List Command) → IsPlaced commands → (e : ℕ) → ways_in e (journal_of commands) ≤ 1
journal_of-ways laws commands placed e =
    let in_steps = laws.journal.steps commands placed in
    let is : ways_in e (journal_of commands) ≡ ways_in e (written_in no_facts in_steps.steps) = ap (ways_in e) in_steps.written in
    let told = (steps_told laws e in_steps.steps no_facts in_steps.are).told in
    let most = most_one (is_some (way_at (after_lines no_facts (written_in no_facts in_steps.steps)) e)) in
    omega (arith, is, told, most)
  where
    most_one : (t : Bool) → one_if t ≤ 1
    most_one true = omega arith
    most_one false = omega arith
