-- Both halves of discovery, at every pause: the way is asked for and told, and each enclave's registration is at a stage.
use Rattle.std.proofs.Common.{◌≡◌, ℕ, [], ◌∷◌, true, filter, refl, sym, ap, ◌∙◌}
use Rattle.std.proofs.lemmas.Bool.{eq-eqb}
use Rattle.xemem_language.specs.declared.record.Record.{Record}
use Rattle.global_model.specs.Facts.{Facts, after_lines, is_living_enclave, no_facts}
use Rattle.global_model.specs.Flow.{IsFlowing}
use Rattle.global_model.specs.Rest.{IsAtRest}
use Rattle.global_model.specs.Pauses.{Step, written_by, IsPause, MayCome}
use Rattle.global_model.specs.Tree.{parent_of}
use Rattle.discovery_laws.specs.Known.{is_admitted_at, knows}
use Rattle.discovery_laws.specs.Laws.{DiscoveryLaws}
use Rattle.discovery_laws.specs.Ways.{IsLeading}
use Rattle.discovery_laws.proofs.Asked.{IsAsked, asked_first, asked_leads, asked_led, asked_step}
use Rattle.discovery_laws.proofs.Resting.{rest_flight, knows_at_rest}
use Rattle.discovery_laws.proofs.Stages.{Stage, Silent, Registering, Admitting, Ready, about_in, is_about, alone_at, IsStaged, IsRegistered}
use Rattle.discovery_laws.proofs.Pausing.{registered_step}

pub record IsJoined (G : Facts) : Type 0 where
  pub asked : IsAsked G
  pub registered : (d : ℕ) → IsRegistered (parent_of G) G.born G d

pub joined_step : (laws : DiscoveryLaws) (G : Facts) (step : Step) → IsPause G → MayCome G step → IsJoined G → IsJoined (after_lines G (written_by G step))
joined_step laws G step pause may old =
    let asked : IsAsked (after_lines G (written_by G step)) = asked_step laws G step pause may old.asked in
    record {
      asked = asked;
      registered = λ d. registered_step laws G step pause may (asked_led G old.asked) (asked_led (after_lines G (written_by G step)) asked) asked.rooted d (old.registered d);
    }

-- before the first command nothing is known of any enclave
pub joined_first : (laws : DiscoveryLaws) → IsJoined no_facts
joined_first laws = record {
  asked = asked_first laws;
  registered = λ d. record {
    stage = Silent;
    is = record {
      flight = λ a b. refl;
      backs = λ e x is. let clash = sym (laws.table.none d) ∙ is in absurd (cc);
      routes = λ e x is. let clash = sym (laws.table.none d) ∙ is in absurd (cc);
      at = record { known = refl; admitted = refl };
    };
  };
}

-- ---- where ways lead

pub joined_leads : (G : Facts) → IsJoined G → IsLeading G
joined_leads G joined = record {
  holder = joined.asked.known.one;
  way = asked_leads G joined.asked;
  backs = λ e d x is. ((joined.registered d).is.backs e x is).toward;
  routes = λ e d x is. ((joined.registered d).is.routes e x is).toward;
}

-- ---- rest

-- where nothing is under way an enclave that knows its way is admitted
module _ (G : Facts) (flowing : IsFlowing G) (uncut : (x y : ℕ) → (G.channel x y).cut ≡ 0) (rest : IsAtRest G) where
  nothing_about : (d a b : ℕ) → about_in G d a b ≡ []
  nothing_about d a b = ap (filter (is_about d)) (rest_flight G flowing uncut rest a b)

  something : (x y : ℕ) (r : Record) → [] ≡ alone_at x y (r ∷ []) x y → ⊥
  something x y r none =
      let here : alone_at x y (r ∷ []) x y ≡ r ∷ [] = rw (eq-eqb x x refl, eq-eqb y y refl) refl in
      let clash = none ∙ here in
      cc

  settled_stage : (d : ℕ) (stage : Stage) → IsStaged (parent_of G) G.born G d stage → knows G d ≡ true → is_admitted_at G d ≡ true
  settled_stage d Silent staged knowing = staged.at.admitted ∙ sym staged.at.known ∙ knowing
  settled_stage d (Registering h x y) staged knowing = absurd (something x y _ (sym (nothing_about d x y) ∙ staged.flight x y))
  settled_stage d (Admitting h x y) staged knowing = absurd (something x y _ (sym (nothing_about d x y) ∙ staged.flight x y))
  settled_stage d Ready staged knowing = staged.at.admitted

  pub admitted_at_rest : IsJoined G → G.server ≡ true → (e : ℕ) → is_living_enclave (G.enclave e) ≡ true → is_admitted_at G e ≡ true
  admitted_at_rest joined served e living =
      settled_stage e (joined.registered e).stage (joined.registered e).is (knows_at_rest G flowing joined.asked rest served e living)
