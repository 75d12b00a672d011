-- What an enclave knows of ways, and what each call changes of it.
use Rattle.std.specs.Prelude.{ℕ, ◌+◌, ◌<◌, ◌^◌, IsSome, Bool, ◌||◌, List, [], Option, None, Some, is_some, drop, slice_get, option_map, if◌then◌else◌}
use Rattle.xm_num.specs.declared.Enclave.{Enclave}
use Rattle.xm_num.specs.declared.Neighbour.{Neighbour}
use Rattle.xm_num.specs.declared.Neighbour.TheVariants as neighbours
use Rattle.xm_num.specs.Rows.{at, put, less, IsAscending}
use Rattle.route_learn.specs.declared.Way.{Way}
use Rattle.route_learn.specs.declared.Way.TheVariants as ways

pub record RouteView : Type 0 where
  -- whether this enclave holds the name server
  pub holder : Bool
  -- the neighbour over which the way to the name server goes
  pub way : Option Neighbour
  -- who asked for that way and wasn't answered, by their places
  pub askers : List (ℕ × Neighbour)
  -- over which neighbour each enclave can be answered, by its number
  pub back : List (ℕ × Neighbour)
  -- over which neighbour each enclave lies, by its number
  pub routes : List (ℕ × Neighbour)

-- the numbers of each table ascend
pub record AreAscending (v : RouteView) : Type 0 where
  pub askers : IsAscending v.askers
  pub back : IsAscending v.back
  pub routes : IsAscending v.routes

-- the numbers of a table have 16 bits
abbrev pub AreNumbers : {V : Type 0} → List (ℕ × V) → Type 0
AreNumbers rows = (d : ℕ) → IsSome (at rows d) → d < 2 ^ 16

-- Up comes first, then the children by their numbers
abbrev pub place_of : Neighbour → ℕ
place_of neighbours.Up = 0
place_of (neighbours.Down child) = child.0 + 1

-- nothing is known but whether this enclave holds the name server
abbrev pub no_routes : Bool → RouteView
no_routes holder = record { holder = holder; way = None; askers = []; back = []; routes = [] }

-- the way to the name server is known
abbrev pub is_way_known : RouteView → Bool
is_way_known v = v.holder || is_some v.way

-- the neighbour is among those that asked
abbrev pub with_asker : RouteView → Neighbour → RouteView
with_asker v by = record v { askers = put v.askers (place_of by) by }

-- only what asks before the way is known is remembered
abbrev pub after_asked : RouteView → Neighbour → RouteView
after_asked v by = if is_way_known v then v else with_asker v by

-- the way goes over the neighbour, which needn't be told
abbrev pub with_way : RouteView → Neighbour → RouteView
with_way v from = record v { way = Some from; askers = less v.askers (place_of from) }

-- only the first word of the way is taken
abbrev pub after_here : RouteView → Neighbour → RouteView
after_here v from = if is_way_known v then v else with_way v from

-- the asker with the lowest place
abbrev pub first_asker : RouteView → Option Neighbour
first_asker v = option_map (λ row. row.1) (slice_get v.askers 0)

abbrev pub without_first_asker : RouteView → RouteView
without_first_asker v = record v { askers = drop 1 v.askers }

-- the enclave can be answered over the neighbour
abbrev pub with_back : RouteView → Enclave → Neighbour → RouteView
with_back v of over = record v { back = put v.back of.0 over }

-- the enclave's way back
abbrev pub way_back : RouteView → Enclave → Option Neighbour
way_back v of = at v.back of.0

-- the enclave lies over the neighbour, where there is one
abbrev pub with_route : RouteView → Enclave → Option Neighbour → RouteView
with_route v of None = v
with_route v of (Some over) = record v { routes = put v.routes of.0 over }

-- the enclave's way back, where there is one, is its route too
abbrev pub after_learn : RouteView → Enclave → RouteView
after_learn v of = with_route v of (way_back v of)

-- the enclave has neither a way back nor a route
abbrev pub forgotten : RouteView → Enclave → RouteView
forgotten v of = record v { back = less v.back of.0; routes = less v.routes of.0 }

-- over the neighbour, where there is one
abbrev pub way_over : Option Neighbour → Way
way_over None = ways.Unknown
way_over (Some over) = ways.Over over

-- the way to the name server
abbrev pub server_way : RouteView → Way
server_way v = if v.holder then ways.Own else way_over v.way

-- the way to an enclave without a route: to the name server, which has none to itself
abbrev pub default_way : RouteView → Way
default_way v = if v.holder then ways.Unknown else way_over v.way

-- the way over a route, where there is one
abbrev pub way_along : RouteView → Option Neighbour → Way
way_along v None = default_way v
way_along v (Some over) = ways.Over over

-- the way to an enclave
abbrev pub way_toward : RouteView → Enclave → Way
way_toward v dest = way_along v (at v.routes dest.0)
