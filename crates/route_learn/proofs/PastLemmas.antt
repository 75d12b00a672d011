-- What is known of ways once calls were made is the filters of their past.
use Rattle.std.proofs.Common.{◌≡◌, ℕ, Bool, true, false, not, ◌&&◌, ◌||◌, List, [], ◌∷◌, ◌++◌, reverse, Option, None, Some, refl, sym, ap, ◌∙◌, subst, append-nil, append_assoc}
use Rattle.std.specs.Prelude.{◌==◌, is_some, if◌then◌else◌}
use Rattle.std.specs.Option.{option_or}
use Rattle.std.specs.List.Sorted.{IsStrictlySortedBy}
use Rattle.std.proofs.lemmas.Bool.{eqb-true}
use Rattle.std.proofs.lemmas.List.{reverse-append}
use Rattle.xm_num.specs.declared.Enclave.{Enclave}
use Rattle.xm_num.specs.declared.Neighbour.{Neighbour}
use Rattle.xm_num.specs.RowLaws.{RowLaws}
use Rattle.xm_num.specs.Rows.{at}
use Rattle.route_learn.specs.Routes.{RouteView, AreAscending, place_of, no_routes, is_way_known, with_asker, with_way, with_route}
use Rattle.route_learn.specs.Filters.{Event, after_event, after_events, first_here, way_of, is_told, back_of, route_of, is_same, is_asker, asker_of}
use Rattle.route_learn.proofs.AskerLemmas.{one_place, picked, left_asks, left_ascends}
use Rattle.route_learn.specs.Filters.Event.{Asked, Here, Back, Learn, Forget, AskerTaken}

-- each part is its filter of the past, and the tables ascend
pub record AreFilters (holder : Bool) (past : List Event) (v : RouteView) : Type 0 where
  pub held : v.holder ≡ holder
  pub way : v.way ≡ way_of holder past
  pub back : (d : ℕ) → at v.back d ≡ back_of d past
  pub routes : (d : ℕ) → at v.routes d ≡ route_of d past
  pub askers : (n : Neighbour) → at v.askers (place_of n) ≡ asker_of holder n past
  pub ascending : AreAscending v

told : (holder : Bool) (past : List Event) (v : RouteView) → AreFilters holder past v → is_way_known v ≡ is_told holder past
told holder past v f = ap (λ h. h || is_some v.way) f.held ∙ ap (λ w. holder || is_some w) f.way ∙ by holder
  where
    by : (b : Bool) → (b || is_some (if b then None else first_here past)) ≡ (b || is_some (first_here past))
    by true = refl
    by false = refl

-- a later word of the way changes nothing
way_stays : (holder : Bool) (first : Option Neighbour) (from : Neighbour) → (holder || is_some first) ≡ true
    → (if holder then None else first) ≡ (if holder then None else option_or first (Some from))
way_stays true first from is = refl
way_stays false None from is = cc
way_stays false (Some x) from is = refl

-- the first word tells the way
way_comes : (holder : Bool) (first : Option Neighbour) (from : Neighbour) → (holder || is_some first) ≡ false
    → Some from ≡ (if holder then None else option_or first (Some from))
way_comes true first from is = cc
way_comes false None from is = refl
way_comes false (Some x) from is = cc

module _ (laws : RowLaws Neighbour) (holder : Bool) (past : List Event) (v : RouteView) (f : AreFilters holder past v) where
  asked : (by : Neighbour) (b : Bool) → is_told holder past ≡ b → AreFilters holder (Asked by ∷ past) (if b then v else with_asker v by)
  asked by true is = record {
    held = f.held;
    way = f.way;
    back = f.back;
    routes = f.routes;
    askers = λ n. f.askers n ∙ ap (picked n) (late (is_same by n) (is_asker holder n past));
    ascending = f.ascending;
  }
    where
      late : (same old : Bool) → old ≡ ((same && not (is_told holder past)) || old)
      late true old = rw is refl
      late false old = refl
  asked by false is = record {
    held = f.held;
    way = f.way;
    back = f.back;
    routes = f.routes;
    askers = λ n.
        laws.put_at v.askers (place_of by) (place_of n) by
        ∙ ap (λ x. if is_same by n then Some by else x) (f.askers n)
        ∙ early n (is_same by n) refl;
    ascending = record {
      askers = laws.put_ascends v.askers (place_of by) by f.ascending.askers;
      back = f.ascending.back;
      routes = f.ascending.routes;
    };
  }
    where
      early : (n : Neighbour) (same : Bool) → is_same by n ≡ same
          → (if same then Some by else asker_of holder n past) ≡ picked n ((same && not (is_told holder past)) || is_asker holder n past)
      early n true one = rw is (ap Some (one_place by n (eqb-true (place_of by) (place_of n) one)))
      early n false other = refl

  here : (from : Neighbour) (b : Bool) → is_told holder past ≡ b → AreFilters holder (Here from ∷ past) (if b then v else with_way v from)
  here from true is = record {
    held = f.held;
    way = f.way ∙ way_stays holder (first_here past) from is;
    back = f.back;
    routes = f.routes;
    askers = λ n. f.askers n ∙ ap (picked n) (late (is_same from n) (is_asker holder n past));
    ascending = f.ascending;
  }
    where
      late : (same old : Bool) → old ≡ (not (same && not (is_told holder past)) && old)
      late true old = rw is refl
      late false old = refl
  here from false is = record {
    held = f.held;
    way = way_comes holder (first_here past) from is;
    back = f.back;
    routes = f.routes;
    askers = λ n.
        laws.less_at v.askers (place_of from) (place_of n) f.ascending.askers
        ∙ ap (λ x. if is_same from n then None else x) (f.askers n)
        ∙ struck n (is_same from n);
    ascending = record {
      askers = laws.less_ascends v.askers (place_of from) f.ascending.askers;
      back = f.ascending.back;
      routes = f.ascending.routes;
    };
  }
    where
      struck : (n : Neighbour) (same : Bool)
          → (if same then None else asker_of holder n past) ≡ picked n (not (same && not (is_told holder past)) && is_asker holder n past)
      struck n true = rw is refl
      struck n false = refl

  backed : (of : Enclave) (over : Neighbour) → AreFilters holder (Back of over ∷ past) (after_event v (Back of over))
  backed of over = record {
    held = f.held;
    way = f.way;
    routes = f.routes;
    askers = f.askers;
    back = λ d. laws.put_at v.back of.0 d over ∙ ap (λ x. if of.0 == d then Some over else x) (f.back d);
    ascending = record {
      askers = f.ascending.askers;
      back = laws.put_ascends v.back of.0 over f.ascending.back;
      routes = f.ascending.routes;
    };
  }

  -- the route once the enclave is learned, whose way back this is
  abbrev taught : ℕ → Bool → Option Neighbour → Option Neighbour
  taught d same found = if same then option_or found (at v.routes d) else at v.routes d

  learned : (of : Enclave) (d : ℕ) (same : Bool) → (of.0 == d) ≡ same
      → taught d same (at v.back of.0) ≡ (if same then option_or (back_of d past) (route_of d past) else route_of d past)
  learned of d true is =
      let found : at v.back of.0 ≡ back_of d past = ap (at v.back) (eqb-true of.0 d is) ∙ f.back d in
      ap (λ x. option_or x (at v.routes d)) found ∙ ap (option_or (back_of d past)) (f.routes d)
  learned of d false is = f.routes d

  learn : (of : Enclave) (found : Option Neighbour) → at v.back of.0 ≡ found → AreFilters holder (Learn of ∷ past) (with_route v of found)
  learn of None is = record {
    held = f.held;
    way = f.way;
    back = f.back;
    askers = f.askers;
    routes = λ d. none d (of.0 == d) ∙ learned of d (of.0 == d) refl;
    ascending = f.ascending;
  }
    where
      none : (d : ℕ) (same : Bool) → at v.routes d ≡ taught d same (at v.back of.0)
      none d true = rw is refl
      none d false = refl
  learn of (Some over) is = record {
    held = f.held;
    way = f.way;
    back = f.back;
    askers = f.askers;
    routes = λ d. laws.put_at v.routes of.0 d over ∙ some d (of.0 == d) ∙ learned of d (of.0 == d) refl;
    ascending = record {
      askers = f.ascending.askers;
      back = f.ascending.back;
      routes = laws.put_ascends v.routes of.0 over f.ascending.routes;
    };
  }
    where
      some : (d : ℕ) (same : Bool) → (if same then Some over else at v.routes d) ≡ taught d same (at v.back of.0)
      some d true = rw is refl
      some d false = refl

  forgot : (of : Enclave) → AreFilters holder (Forget of ∷ past) (after_event v (Forget of))
  forgot of = record {
    held = f.held;
    way = f.way;
    askers = f.askers;
    back = λ d. laws.less_at v.back of.0 d f.ascending.back ∙ ap (λ x. if of.0 == d then None else x) (f.back d);
    routes = λ d. laws.less_at v.routes of.0 d f.ascending.routes ∙ ap (λ x. if of.0 == d then None else x) (f.routes d);
    ascending = record {
      askers = f.ascending.askers;
      back = laws.less_ascends v.back of.0 f.ascending.back;
      routes = laws.less_ascends v.routes of.0 f.ascending.routes;
    };
  }

  taken : AreFilters holder (AskerTaken ∷ past) (after_event v AskerTaken)
  taken = record {
    held = f.held;
    way = f.way;
    back = f.back;
    routes = f.routes;
    askers = left_asks holder past laws v.askers f.askers f.ascending.askers;
    ascending = record {
      askers = left_ascends laws v.askers f.ascending.askers;
      back = f.ascending.back;
      routes = f.ascending.routes;
    };
  }

  one_more : (event : Event) → AreFilters holder (event ∷ past) (after_event v event)
  one_more (Asked by) = asked by (is_way_known v) (sym (told holder past v f))
  one_more (Here from) = here from (is_way_known v) (sym (told holder past v f))
  one_more (Back of over) = backed of over
  one_more (Learn of) = learn of (at v.back of.0) refl
  one_more (Forget of) = forgot of
  one_more AskerTaken = taken

more : RowLaws Neighbour → (holder : Bool) (events past : List Event) (v : RouteView) → AreFilters holder past v
    → AreFilters holder (reverse events ++ past) (after_events v events)
more laws holder [] past v f = f
more laws holder (event ∷ events) past v f =
    let P : List Event → Type 0 = λ p. AreFilters holder p (after_events (after_event v event) events) in
    let turned : reverse (event ∷ events) ++ past ≡ reverse events ++ (event ∷ past) =
    ap (λ p. p ++ past) (reverse-append (event ∷ []) events) ∙ append_assoc (reverse events) (event ∷ []) past in
    subst P (sym turned) (more laws holder events (event ∷ past) (after_event v event) (one_more laws holder past v f event))

nothing : (holder : Bool) → AreFilters holder [] (no_routes holder)
unfolding at IsStrictlySortedBy
nothing holder = record {
  held = refl;
  way = by holder;
  back = λ d. refl;
  routes = λ d. refl;
  askers = λ n. refl;
  ascending = record { askers = tt; back = tt; routes = tt };
}
  where
    by : (b : Bool) → (no_routes b).way ≡ way_of b []
    by true = refl
    by false = refl

pub filters : RowLaws Neighbour → (holder : Bool) (events : List Event) → AreFilters holder (reverse events) (after_events (no_routes holder) events)
filters laws holder events =
    let P : List Event → Type 0 = λ p. AreFilters holder p (after_events (no_routes holder) events) in
    subst P (append-nil (reverse events)) (more laws holder events [] (no_routes holder) (nothing holder))
