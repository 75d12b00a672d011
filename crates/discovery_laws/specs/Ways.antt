-- Where ways lead, and the lines by which they are learned.
use Rattle.std.specs.Prelude.{◌≡◌, ◌==◌, ℕ, List, length, filter, Bool, true, false, Some}
use Rattle.xm_num.specs.declared.Enclave.{Enclave}
use Rattle.xemem_language.specs.declared.line.Line.{Line}
use Rattle.xemem_language.specs.declared.line.Line.TheVariants as lines
use Rattle.global_model.specs.Facts.{Facts}
use Rattle.global_model.specs.Tree.{IsToward, parent_of}
use Rattle.discovery_laws.specs.Known.{back_at, holds, route_at, way_at}

-- x is the next enclave from e on the path to d
abbrev pub LeadsTo : Facts → ℕ → ℕ → Enclave → Type 0
LeadsTo G e d x = IsToward (parent_of G) G.born e d x.0

-- an enclave holds the name server, and x is the next one from e on the path to it
pub record LeadsToHolder (G : Facts) (e : ℕ) (x : Enclave) : Type 0 where
  pub holder : ℕ
  pub holds : holds G holder ≡ true
  pub toward : LeadsTo G e holder x

-- Ways lead to the one that holds the name server, and ways back and routes to their enclaves.
pub record IsLeading (G : Facts) : Type 0 where
  pub holder : (a b : ℕ) → holds G a ≡ true → holds G b ≡ true → a ≡ b
  pub way : (e : ℕ) (x : Enclave) → way_at G e ≡ Some x → LeadsToHolder G e x
  pub backs : (e d : ℕ) (x : Enclave) → back_at G e d ≡ Some x → LeadsTo G e d x
  pub routes : (e d : ℕ) (x : Enclave) → route_at G e d ≡ Some x → LeadsTo G e d x

-- a line by which the enclave learns its way
abbrev pub is_way_line : ℕ → Line → Bool
is_way_line e (lines.Way of over) = of.0 == e
is_way_line e line = false

-- how often the enclave learns its way in a journal
abbrev pub ways_in : ℕ → List Line → ℕ
ways_in e journal = length (filter (is_way_line e) journal)
