-- How far an enclave's registration has come, and what stands of it at the others.
use Rattle.std.specs.Prelude.{◌≡◌, ◌⊎◌, ◌<◌, ℕ, List, [], ◌∷◌, filter, Bool, true, false, ◌&&◌, ◌==◌, if◌then◌else◌, Option, Some, is_some}
use Rattle.std.specs.Option.{option_map_or}
use Rattle.xm_num.specs.declared.Enclave.{Enclave}
use Rattle.xemem_language.specs.declared.record.Record.{Record}
use Rattle.xemem_language.specs.declared.record.Body.{Body}
use Rattle.xemem_language.specs.declared.record.Body.TheVariants as bodies
use Rattle.enclave_rules.specs.Steps.{admit_of, register_of}
use Rattle.global_model.specs.Facts.{Facts}
use Rattle.global_model.specs.Tree.{IsToward, distance}
use Rattle.discovery_laws.specs.Known.{back_at, holds, in_flight, is_admitted_at, knows, route_at}

-- ---- the records of a registration

-- the record registers d, or admits it
abbrev pub is_about_by : ℕ → Record → Body → Bool
is_about_by d r bodies.Register = r.origin.0 == d
is_about_by d r bodies.Admit = option_map_or (λ e. e.0 == d) r.dest false
is_about_by d r body = false

abbrev pub is_about : ℕ → Record → Bool
is_about d r = is_about_by d r r.body

-- those of them that are under way from one to another
abbrev pub about_in : Facts → ℕ → ℕ → ℕ → List Record
about_in G d a b = filter (is_about d) (in_flight G a b)

-- the records rs under way from x to y, and none elsewhere
abbrev pub alone_at : ℕ → ℕ → List Record → ℕ → ℕ → List Record
alone_at x y rs a b = if (a == x) && (b == y) then rs else []

abbrev pub number : ℕ → Enclave
number d = record { 0 = d }

-- ---- stages

-- Silent: nothing of d is under way. Registering, admitting: its register or its admit is under way from x to y, and h holds the name
-- server. Ready: it was admitted.
pub data Stage : Type 0 where
  Silent : Stage
  Registering : (h x y : ℕ) → Stage
  Admitting : (h x y : ℕ) → Stage
  Ready : Stage

abbrev pub under_way : ℕ → Stage → ℕ → ℕ → List Record
under_way d Silent a b = []
under_way d (Registering h x y) a b = alone_at x y (register_of (number d) ∷ []) a b
under_way d (Admitting h x y) a b = alone_at x y (admit_of (number h) (number d) ∷ []) a b
under_way d Ready a b = []

-- d itself, or an enclave that remembers the way back to it
abbrev pub Answers : (ℕ → ℕ → Option Enclave) → ℕ → ℕ → Type 0
Answers back d x = (x ≡ d) ⊎ (is_some (back x d) ≡ true)

-- the register has left behind it those farther from the name server, and the admit those farther from d
abbrev pub MayAnswer : (ℕ → ℕ) → Stage → ℕ → Type 0
MayAnswer parent Silent e = ⊥
MayAnswer parent (Registering h x y) e = distance parent y h < distance parent e h
MayAnswer parent stage e = Unit {0}

abbrev pub MayReach : (ℕ → ℕ) → ℕ → Stage → ℕ → Type 0
MayReach parent d (Admitting h x y) e = distance parent y d < distance parent e d
MayReach parent d Ready e = Unit {0}
MayReach parent d stage e = ⊥

-- a way back goes to the next enclave toward d, and over it to another one or to d
pub record IsBack (parent : ℕ → ℕ) (born : ℕ) (back : ℕ → ℕ → Option Enclave) (d : ℕ) (stage : Stage) (e x : ℕ) : Type 0 where
  pub toward : IsToward parent born e d x
  pub leads : Answers back d x
  pub may : MayAnswer parent stage e

pub record IsRoute (parent : ℕ → ℕ) (born d : ℕ) (stage : Stage) (e x : ℕ) : Type 0 where
  pub toward : IsToward parent born e d x
  pub may : MayReach parent d stage e

-- the register goes from x to y, toward the name server and away from d
pub record IsRegistering (parent : ℕ → ℕ) (born : ℕ) (G : Facts) (d h x y : ℕ) : Type 0 where
  pub holder : holds G h ≡ true
  pub ahead : IsToward parent born x h y
  pub behind : IsToward parent born y d x
  pub nearer : distance parent y h < distance parent d h
  pub answers : Answers (back_at G) d x
  pub knowing : knows G y ≡ true
  pub known : knows G d ≡ true
  pub waits : is_admitted_at G d ≡ false

-- the admit goes from x to y, toward d
pub record IsAdmitting (parent : ℕ → ℕ) (born : ℕ) (G : Facts) (d h x y : ℕ) : Type 0 where
  pub from : h < born
  pub ahead : IsToward parent born x d y
  pub nearer : distance parent y d < distance parent h d
  pub answers : Answers (back_at G) d y
  pub known : knows G d ≡ true
  pub waits : is_admitted_at G d ≡ false

pub record IsSilent (G : Facts) (d : ℕ) : Type 0 where
  pub known : knows G d ≡ holds G d
  pub admitted : is_admitted_at G d ≡ holds G d

pub record IsReadyAt (G : Facts) (d : ℕ) : Type 0 where
  pub known : knows G d ≡ true
  pub admitted : is_admitted_at G d ≡ true

abbrev pub IsAt : (ℕ → ℕ) → ℕ → Facts → ℕ → Stage → Type 0
IsAt parent born G d Silent = IsSilent G d
IsAt parent born G d (Registering h x y) = IsRegistering parent born G d h x y
IsAt parent born G d (Admitting h x y) = IsAdmitting parent born G d h x y
IsAt parent born G d Ready = IsReadyAt G d

-- the records of d under way, the ways back to it, the routes to it, and d itself are as the stage says
pub record IsStaged (parent : ℕ → ℕ) (born : ℕ) (G : Facts) (d : ℕ) (stage : Stage) : Type 0 where
  pub flight : (a b : ℕ) → about_in G d a b ≡ under_way d stage a b
  pub backs : (e : ℕ) (x : Enclave) → back_at G e d ≡ Some x → IsBack parent born (back_at G) d stage e x.0
  pub routes : (e : ℕ) (x : Enclave) → route_at G e d ≡ Some x → IsRoute parent born d stage e x.0
  pub at : IsAt parent born G d stage

pub record IsRegistered (parent : ℕ → ℕ) (born : ℕ) (G : Facts) (d : ℕ) : Type 0 where
  pub stage : Stage
  pub is : IsStaged parent born G d stage
