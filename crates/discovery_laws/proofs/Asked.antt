-- Each step leaves who asks for the way and who knows it as they are to be.
use Rattle.std.proofs.Common.{◌≡◌, ◌+◌, ◌≤◌, ℕ, List, [], ◌∷◌, Bool, true, false, cond, not, ◌&&◌, ◌||◌, eqb, is_some, Some, refl, sym, ap, ◌∙◌, subst, arith}
use Rattle.std.specs.Prelude.{◌++◌}
use Rattle.std.proofs.lemmas.Bool.{ne_eqb, or_right}
use Rattle.xm_num.specs.declared.Enclave.{Enclave}
use Rattle.xemem_language.specs.declared.record.Record.{Record}
use Rattle.xemem_language.specs.declared.record.Body.{Body}
use Rattle.xemem_language.specs.declared.record.Body.TheVariants as bodies
use Rattle.xemem_language.specs.declared.line.Line.TheVariants as lines
use Rattle.enclave_rules.specs.View.{View}
use Rattle.enclave_rules.specs.Ways.{place_among}
use Rattle.xm_num.specs.Rows.{less}
use Rattle.enclave_rules.specs.Sending.{drop_lines}
use Rattle.enclave_rules.specs.Steps.{is_stray, here_of, register_of, told_askers, body_lines, record_lines}
use Rattle.global_model.specs.Facts.{Facts, after_line, after_lines, no_facts}
use Rattle.global_model.specs.Channels.{is_neighbour}
use Rattle.global_model.specs.Flow.{IsTree}
use Rattle.global_model.specs.Pauses.{Step, Written, Hosts, Bears, Takes, Handles, Asks, asked_lines, written_by, MayCome, IsPause}
use Rattle.global_model.specs.Tree.{parent_of}
use Rattle.discovery_laws.proofs.Led.{IsLed}
use Rattle.global_model.specs.Views.{view_of}
use Rattle.discovery_laws.specs.Known.{holds, in_flight, knows, way_at}
use Rattle.discovery_laws.specs.Laws.{DiscoveryLaws}
use Rattle.discovery_laws.specs.Ways.{LeadsToHolder}
use Rattle.discovery_laws.proofs.Flights.{one_if}
use Rattle.discovery_laws.proofs.Asking.{is_query, is_here, is_query_body, is_here_body, none_ascends, place, remembers, queries_flying, heres_flying}
use Rattle.discovery_laws.proofs.Knowing.{IsOwn}
use Rattle.discovery_laws.proofs.Newborn.{near_apart}
use Rattle.discovery_laws.proofs.Boots.{asked_host, asked_boot}
use Rattle.discovery_laws.proofs.Calm.{IsAsking, calm_alone, calm_line, calm_lines}
use Rattle.discovery_laws.proofs.Underway.{first_has, next_flight}
use Rattle.discovery_laws.proofs.Answered.{calm_asked, none_owed, stray_is, knows_way_is, calm_record, handles_calm, handles_query, handles_here}

-- at a pause no answer is owed
abbrev pub IsAsked : Facts → Type 0
IsAsked G = IsAsking none_owed G

-- ---- records

module _ (laws : DiscoveryLaws) (G : Facts) (x y : Enclave) (r : Record) (behind : List Record) (next : in_flight G x.0 y.0 ≡ r ∷ behind) (tree : IsTree G) (near : is_neighbour G x.0 y.0 ≡ true) (old : IsAsked G) where
  abbrev v : View
  v = view_of G y

  abbrev after : Facts
  after = after_line G (lines.Got x y)

  own : IsOwn x.0 r
  own = first_has (IsOwn x.0) G x.0 y.0 r behind (old.known.own x.0 y.0) next

  -- a query and a here don't come back to their origin
  no_stray : (is_query r || is_here r) ≡ true → is_stray v r ≡ false
  no_stray is = stray_is v r (old.known.quiet y.0)
      ∙ ne_eqb r.origin.0 y.0 (λ same. near_apart G x.0 y.0 tree near (sym (own is) ∙ same))

  -- so their lines are those of their kind
  by_kind : (body : Body) → r.body ≡ body → (is_query_body body || is_here_body body) ≡ true → record_lines v x r ≡ body_lines v x r body
  by_kind body is kind =
      ap (λ t. cond t (drop_lines v) (body_lines v x r r.body)) (no_stray (ap (λ b. is_query_body b || is_here_body b) is ∙ kind))
      ∙ ap (body_lines v x r) is

  asked_here : r.body ≡ bodies.Here → (t : Bool) → knows G y.0 ≡ t → IsAsked (after_lines after (cond t (drop_lines v) (lines.Way y x
      ∷ told_askers v (less v.ways.askers (place_among v.core.parent x)) ++ lines.Sent y x (register_of y) ∷ [])))
  asked_here is true knowing = handles_calm laws.tree G x y r behind next (ap is_query_body is) (λ here. knowing) (drop_lines v) (tt, tt) old
  asked_here is false unknowing = handles_here laws.tree G x y tree near old laws.past laws.table r behind next (ap is_here_body is) (ap is_query_body is) unknowing

  asked_record : (body : Body) → r.body ≡ body → IsAsked (after_lines after (record_lines v x r))
  asked_record bodies.Query is = subst (λ ls. IsAsked (after_lines after ls))
      (sym (by_kind bodies.Query is refl ∙ ap (λ t. cond t (lines.Sent y x (here_of y) ∷ []) (lines.Asked y x ∷ [])) (knows_way_is G y)))
      (handles_query laws.tree G x y r behind next laws.table (ap is_query_body is) (ap is_here_body is) old (knows G y.0) refl)
  asked_record bodies.Here is = subst (λ ls. IsAsked (after_lines after ls))
      (sym (by_kind bodies.Here is refl ∙ ap (λ t. cond t (drop_lines v) (lines.Way y x
      ∷ told_askers v (less v.ways.askers (place_among v.core.parent x)) ++ lines.Sent y x (register_of y) ∷ [])) (knows_way_is G y)))
      (asked_here is (knows G y.0) refl)
  asked_record body is =
      let calm : (is_query r || is_here r) ≡ false = ap (λ b. is_query_body b || is_here_body b) is in
      handles_calm laws.tree G x y r behind next (ap is_query_body is)
      (λ here. let clash : true ≡ false = sym here ∙ ap is_here_body is in absurd (cc)) (record_lines v x r) (calm_record v x r calm) old

-- ---- steps

pub asked_step : (laws : DiscoveryLaws) (G : Facts) (step : Step) → IsPause G → MayCome G step → IsAsked G → IsAsked (after_lines G (written_by G step))
asked_step laws G (Written line) pause may old = calm_line laws.tree none_owed G line (calm_alone G line may.1) old
asked_step laws G (Hosts ns blocks) pause may old = asked_host laws G pause old ns blocks may.1
asked_step laws G (Bears child kind parent ns blocks) pause may old = asked_boot laws G pause old child parent kind ns blocks may.1 may.2
asked_step laws G (Asks e p call) pause may old = calm_lines laws.tree none_owed (asked_lines (view_of G e) p call) G (calm_asked (view_of G e) p call) old
asked_step laws G (Takes x y n) pause may old = calm_line laws.tree none_owed G (lines.Took x y n) tt old
asked_step laws G (Handles x y r) pause may old =
    let first = next_flight G x.0 y.0 r may.others may.next in
    asked_record laws G x y r first.others first.is pause.tree may.near old r.body refl

-- nobody asks, and nobody knows the way, before the first command
pub asked_first : (laws : DiscoveryLaws) → IsAsked no_facts
asked_first laws = record {
  counted = record {
    within = λ a b. omega arith;
    ascends = λ e. none_ascends;
    keyed = λ e k x is. let clash = sym (laws.table.none k) ∙ is in absurd (cc);
    still = λ e k is. laws.table.none k;
    asks = λ a b. omega arith;
    once = λ a b. let none : one_if (remembers no_facts a b) ≡ 0 = ap (λ o. one_if (is_some o)) (laws.table.none (place (parent_of no_facts a) b)) in omega (arith, none);
    asked = λ a b near. by a b near;
  };
  known = record {
    quiet = λ e. refl;
    uncut = λ a b. refl;
    own = λ a b. tt;
    told = λ a b some. absurd (omega (arith, some));
    over = λ e x is. absurd (cc);
    server = λ e is. absurd (cc);
    held = λ is. absurd (cc);
    one = λ a b first second. absurd (cc);
    leads = λ h e x is way. absurd (cc);
  };
  rooted = record { lower = λ e some. some };
}
  where
    no_child : (b : Bool) → (b && false) ≡ false
    no_child true = refl
    no_child false = refl

    by : (a b : ℕ) → is_neighbour no_facts a b ≡ true
        → 1 ≤ one_if (knows no_facts a) + one_if (remembers no_facts b a) + 0 + queries_flying no_facts a b + heres_flying no_facts b a
    by a b near =
        let none : is_neighbour no_facts a b ≡ false = λ i. no_child (not (eqb a 0)) i || no_child (not (eqb b 0)) i in
        let clash : true ≡ false = sym near ∙ none in
        absurd (cc)

-- what is known of the way to the name server
pub asked_led : (G : Facts) → IsAsked G → IsLed G
asked_led G old = record {
  way = old.known.leads;
  known = old.known.over;
  held = λ e x is. old.known.held (old.known.server e (or_right (holds G e) (is_some (way_at G e)) (ap (λ o. is_some o) is)));
  one = old.known.one;
  quiet = old.known.quiet;
}

-- and where a way leads
pub asked_leads : (G : Facts) → IsAsked G → (e : ℕ) (x : Enclave) → way_at G e ≡ Some x → LeadsToHolder G e x
asked_leads G old e x is =
    let held = (asked_led G old).held e x is in
    record { holder = held.holder; holds = held.holds; toward = old.known.leads held.holder e x held.holds is }
