-- Where a record of a call that is under way goes on to: it is never stray, its way is known, and it never turns back.
use Rattle.std.specs.Prelude.{◌≡◌, ◌≢◌, ◌⊎◌, ℕ, [], true, Option, Some}
use Rattle.std.specs.List.{AllByRecursion}
use Rattle.xm_num.specs.declared.Enclave.{Enclave}
use Rattle.xemem_language.specs.declared.record.Record.{Record}
use Rattle.xemem_language.specs.declared.record.Body.{Body}
use Rattle.xemem_language.specs.declared.record.Body.TheVariants as bodies
use Rattle.global_model.specs.Facts.{Facts}
use Rattle.discovery_laws.specs.Known.{holds, in_flight, route_at, way_at}

-- the neighbour over which it goes on is known, and isn't the one from which it came
pub record IsOnward (over : Option Enclave) (x : ℕ) : Type 0 where
  pub neighbour : Enclave
  pub is : over ≡ Some neighbour
  pub apart : neighbour.0 ≢ x

-- it isn't of y itself, and y holds the name server, or it goes on over the way there
pub record IsForServer (G : Facts) (x y : ℕ) (r : Record) : Type 0 where
  pub foreign : r.origin.0 ≢ y
  pub goes : (holds G y ≡ true) ⊎ IsOnward (way_at G y) x

-- it isn't of y itself, and y is the enclave for which it is, or it goes on over the route to that one
pub record IsForCaller (G : Facts) (x y : ℕ) (r : Record) : Type 0 where
  pub foreign : r.origin.0 ≢ y
  pub caller : Enclave
  pub is : r.dest ≡ Some caller
  pub goes : (y ≡ caller.0) ⊎ IsOnward (route_at G y caller.0) x

-- where a record from x goes on to at y
abbrev pub OnwardBy : Facts → ℕ → ℕ → Record → Body → Type 0
OnwardBy G x y r bodies.NameReq = IsForServer G x y r
OnwardBy G x y r (bodies.Named segid) = IsForCaller G x y r
OnwardBy G x y r (bodies.Unname segid) = IsForServer G x y r
OnwardBy G x y r body = Unit {0}

-- each record of a call that is under way goes on, and no enclave was heard dead, by which it could be stray
pub record AreOnward (G : Facts) : Type 0 where
  pub onward : (x y : ℕ) → AllByRecursion (λ r. OnwardBy G x y r r.body) (in_flight G x y)
  pub quiet : (e : ℕ) → G.heard e ≡ []
