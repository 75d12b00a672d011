-- Where records of calls go: to the name server over ways, and from it over routes, which are known all along.
use Rattle.std.specs.Prelude.{◌≡◌, ℕ, List, [], ◌∷◌, true, Some, is_some}
use Rattle.xm_num.specs.declared.Enclave.{Enclave}
use Rattle.global_model.specs.Facts.{Facts}
use Rattle.global_model.specs.Tree.{IsToward, parent_of}
use Rattle.discovery_laws.specs.Known.{holds, is_admitted_at, knows, route_at, way_at}

-- From h on each of these enclaves, the last first, has a route to d, and the one behind it is the next on the path to d; b is behind
-- the last.
abbrev pub Reaches : Facts → ℕ → ℕ → ℕ → List ℕ → Type 0
Reaches G h d b [] = b ≡ h
Reaches G h d b (a ∷ before) = (is_some (route_at G a d) ≡ true) × IsToward (parent_of G) G.born a d b × Reaches G h d a before

-- routes to d lead from the holder of the name server to b
pub record IsRoad (G : Facts) (d b : ℕ) : Type 0 where
  pub holder : ℕ
  pub holds : holds G holder ≡ true
  pub before : List ℕ
  pub reaches : Reaches G holder d b before

-- an enclave knows the way to the name server, and routes lead from that to it
pub record IsReachable (G : Facts) (d : ℕ) : Type 0 where
  pub road : IsRoad G d d
  pub knowing : knows G d ≡ true

-- Each enclave that is admitted is ready, and whoever lies on a way knows its own.
pub record AreReady (G : Facts) : Type 0 where
  pub ready : (d : ℕ) → is_admitted_at G d ≡ true → IsReachable G d
  pub ways : (e : ℕ) (x : Enclave) → way_at G e ≡ Some x → knows G x.0 ≡ true
