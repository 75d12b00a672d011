-- What enclaves know of ways, read off the facts.
use Rattle.std.specs.Prelude.{◌≡◌, ℕ, List, drop, Bool, true, ◌||◌, Option, is_some}
use Rattle.xm_num.specs.declared.Enclave.{Enclave}
use Rattle.xm_num.specs.Rows.{at}
use Rattle.xemem_language.specs.declared.record.Record.{Record}
use Rattle.global_model.specs.Facts.{Facts, is_admitted, is_holder, lives_at}

-- the neighbour over which the enclave's way to the name server goes
abbrev pub way_at : Facts → ℕ → Option Enclave
way_at G e = (G.ways e).way

-- those that asked it for the way and weren't answered, by their places
abbrev pub askers_of : Facts → ℕ → List (ℕ × Enclave)
askers_of G e = (G.ways e).askers

-- the neighbours over which the enclave answers other ones, and over which these lie, by their numbers
abbrev pub backs_of : Facts → ℕ → List (ℕ × Enclave)
backs_of G e = (G.ways e).backs

abbrev pub routes_of : Facts → ℕ → List (ℕ × Enclave)
routes_of G e = (G.ways e).routes

abbrev pub back_at : Facts → ℕ → ℕ → Option Enclave
back_at G e d = at (backs_of G e) d

abbrev pub route_at : Facts → ℕ → ℕ → Option Enclave
route_at G e d = at (routes_of G e) d

abbrev pub holds : Facts → ℕ → Bool
holds G e = is_holder (G.enclave e)

-- it holds the name server, or knows the way to it
abbrev pub knows : Facts → ℕ → Bool
knows G e = holds G e || is_some (way_at G e)

abbrev pub is_admitted_at : Facts → ℕ → Bool
is_admitted_at G e = is_admitted (G.enclave e)

-- each enclave that lives knows the way to the name server, and is admitted
abbrev pub AreAdmitted : Facts → Type 0
AreAdmitted G = (e : ℕ) → lives_at G e ≡ true → (knows G e ≡ true) × (is_admitted_at G e ≡ true)

-- the records that were sent from one to another and weren't got
abbrev pub in_flight : Facts → ℕ → ℕ → List Record
in_flight G x y = drop (G.channel x y).got (G.channel x y).sent
