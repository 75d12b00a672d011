-- What is known of the way to the name server at a pause, as the registrations need it.
use Rattle.std.specs.Prelude.{◌≡◌, ℕ, [], true, Some}
use Rattle.xm_num.specs.declared.Enclave.{Enclave}
use Rattle.global_model.specs.Facts.{Facts}
use Rattle.global_model.specs.Tree.{IsToward, parent_of}
use Rattle.discovery_laws.specs.Known.{holds, knows, way_at}

-- an enclave holds the name server
pub record IsHeld (G : Facts) : Type 0 where
  pub holder : ℕ
  pub holds : holds G holder ≡ true

-- A way is known only once the name server is held, by one enclave. It goes to the next enclave toward that one, which knows its
-- way too. No enclave heard of a death.
pub record IsLed (G : Facts) : Type 0 where
  pub way : (h e : ℕ) (x : Enclave) → holds G h ≡ true → way_at G e ≡ Some x → IsToward (parent_of G) G.born e h x.0
  pub known : (e : ℕ) (x : Enclave) → way_at G e ≡ Some x → knows G x.0 ≡ true
  pub held : (e : ℕ) (x : Enclave) → way_at G e ≡ Some x → IsHeld G
  pub one : (a b : ℕ) → holds G a ≡ true → holds G b ≡ true → a ≡ b
  pub quiet : (e : ℕ) → G.heard e ≡ []
