-- What calls leave of each part of the ways, as filters of the past. A past has its newest event first.
use Rattle.std.specs.Prelude.{◌≡◌, ◌<◌, ℕ, zero, suc, Bool, true, false, not, ◌&&◌, ◌||◌, ◌==◌, List, [], ◌∷◌, Option, None, Some, is_some, if◌then◌else◌}
use Rattle.std.specs.Option.{option_or}
use Rattle.xm_num.specs.declared.Enclave.{Enclave}
use Rattle.xm_num.specs.declared.Neighbour.{Neighbour}
use Rattle.xm_num.specs.declared.Neighbour.TheVariants.{Up, Down}
use Rattle.route_learn.specs.Routes.{RouteView, place_of, after_asked, after_here, with_back, after_learn, forgotten, without_first_asker}

-- the calls that change what is known of ways
pub data Event : Type 0 where
  Asked : (by : Neighbour) → Event
  Here : (from : Neighbour) → Event
  Back : (of : Enclave) (over : Neighbour) → Event
  Learn : (of : Enclave) → Event
  Forget : (of : Enclave) → Event
  -- the first asker was taken, where there was one
  AskerTaken : Event

abbrev pub after_event : RouteView → Event → RouteView
after_event v (Asked by) = after_asked v by
after_event v (Here from) = after_here v from
after_event v (Back of over) = with_back v of over
after_event v (Learn of) = after_learn v of
after_event v (Forget of) = forgotten v of
after_event v AskerTaken = without_first_asker v

-- what is known once these events came, the oldest first
abbrev pub after_events : RouteView → List Event → RouteView
after_events v [] = v
after_events v (event ∷ events) = after_events (after_event v event) events

-- who told the way first
abbrev pub first_here : List Event → Option Neighbour
first_here [] = None
first_here (Here from ∷ past) = option_or (first_here past) (Some from)
first_here (_ ∷ past) = first_here past

-- the way to the name server: over who told it first
abbrev pub way_of : Bool → List Event → Option Neighbour
way_of holder past = if holder then None else first_here past

-- the way is known: this enclave is its end, or was told it
abbrev pub is_told : Bool → List Event → Bool
is_told holder past = holder || is_some (first_here past)

-- the way back: the last one to the enclave that wasn't forgotten since
abbrev pub back_of : ℕ → List Event → Option Neighbour
back_of d [] = None
back_of d (Back of over ∷ past) = if of.0 == d then Some over else back_of d past
back_of d (Forget of ∷ past) = if of.0 == d then None else back_of d past
back_of d (_ ∷ past) = back_of d past

-- the route: what the way back was when there was one and it was last learned, and that wasn't forgotten since
abbrev pub route_of : ℕ → List Event → Option Neighbour
route_of d [] = None
route_of d (Learn of ∷ past) = if of.0 == d then option_or (back_of d past) (route_of d past) else route_of d past
route_of d (Forget of ∷ past) = if of.0 == d then None else route_of d past
route_of d (_ ∷ past) = route_of d past

abbrev pub is_same : Neighbour → Neighbour → Bool
is_same a b = place_of a == place_of b

-- the neighbour at a place
abbrev pub neighbour_at : ℕ → Neighbour
neighbour_at zero = Up
neighbour_at (suc k) = Down (record { 0 = k })

-- some number below this one passes
abbrev pub any_below : (ℕ → Bool) → ℕ → Bool
any_below p zero = false
any_below p (suc k) = p k || any_below p k

-- some neighbour with a lower place passes
abbrev pub any_lower : (Neighbour → Bool) → Neighbour → Bool
any_lower p n = any_below (λ k. p (neighbour_at k)) (place_of n)

-- the neighbour asked while the way wasn't told, and since then it wasn't taken as the first of those that ask, nor did it
-- tell the way first. Where an asker was taken, those go on asking before whom another one asks
abbrev pub is_asker : Bool → Neighbour → List Event → Bool
is_asker holder n [] = false
is_asker holder n (Asked by ∷ past) = (is_same by n && not (is_told holder past)) || is_asker holder n past
is_asker holder n (Here from ∷ past) = not (is_same from n && not (is_told holder past)) && is_asker holder n past
is_asker holder n (AskerTaken ∷ past) = is_asker holder n past && any_lower (λ m. is_asker holder m past) n
is_asker holder n (_ ∷ past) = is_asker holder n past

-- the neighbour, where it asks
abbrev pub asker_of : Bool → Neighbour → List Event → Option Neighbour
asker_of holder n past = if is_asker holder n past then Some n else None

-- the neighbour asks, and none with a lower place does
pub record IsFirstAsker (holder : Bool) (past : List Event) (n : Neighbour) : Type 0 where
  pub asks : is_asker holder n past ≡ true
  pub lowest : (m : Neighbour) → place_of m < place_of n → is_asker holder m past ≡ false
