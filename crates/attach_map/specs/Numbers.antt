-- The numbers of processes, calls and permits, and which call waits for which process.
use Rattle.std.specs.Prelude.{◌≡◌, ◌≤◌, ◌↔◌, ℕ, List, Option, None, Some, IsSome, true}
use Rattle.xm_num.specs.Rows.{at, IsAscending}
use Rattle.attach_map.specs.declared.Waiting.{Waiting}
use Rattle.attach_map.specs.Attaching.{AttacherState, PermitState, waiting_call_of}
use Rattle.attach_map.specs.Seats.{Seat, beside}

-- rows of numbers that were drawn, so many from 1 on
pub record AreDrawn {V : Type 0} (drawn : ℕ) (rows : List (ℕ × V)) : Type 0 where
  pub ascend : IsAscending rows
  pub low : (k : ℕ) → IsSome (at rows k) → 1 ≤ k
  pub high : (k : ℕ) → IsSome (at rows k) → k ≤ drawn

-- a waiting call of the process p, which lives
abbrev pub IsCall : ℕ → Option Waiting → Type 0
IsCall p None = ⊥
IsCall p (Some w) = (w.living ≡ true) × (w.pid.0 ≡ p)

-- each waiting call has its own number
abbrev pub HaveOwnNumbers : List (ℕ × Waiting) → Type 0
HaveOwnNumbers rows = (k : ℕ) (w : Waiting) → at rows k ≡ Some w → w.call.0 ≡ k

-- permits have numbers of calls that were issued and wait no more, and the processes live that hold them
pub record AreHeld {V : Type 0} (processes : List (ℕ × V)) (issued : ℕ) (calls : List (ℕ × Waiting)) (permits : List (ℕ × PermitState)) : Type 0 where
  pub drawn : AreDrawn issued permits
  pub apart : (k : ℕ) → IsSome (at permits k) → at calls k ≡ None
  pub held : (k : ℕ) (h : PermitState) → at permits k ≡ Some h → IsSome (at processes h.pid)

-- processes, calls and permits have numbers that were drawn; a waiting call of a process that lives is the only one of that process
pub record AreNumbered (s : AttacherState) : Type 0 where
  pub processes : AreDrawn s.started s.processes
  pub waiting : AreDrawn s.issued s.waiting
  pub own : HaveOwnNumbers s.waiting
  pub lives : (p k : ℕ) → IsCall p (at s.waiting k) → IsSome (at s.processes p)
  pub one : (p k : ℕ) → IsCall p (at s.waiting k) → waiting_call_of s.waiting p ≡ Some k
  pub permits : AreHeld s.processes s.issued s.waiting s.permits

-- the same of what is kept, but for the permits: the waiting call of a process that lives stands beside it
pub record IsSeated (started : ℕ) (seats : List (ℕ × Seat)) (issued : ℕ) (calls : List (ℕ × Waiting)) : Type 0 where
  pub seats_drawn : AreDrawn started seats
  pub calls_drawn : AreDrawn issued calls
  pub own : HaveOwnNumbers calls
  pub beside_is : (p k : ℕ) → (beside (at seats p) ≡ Some k) ↔ IsCall p (at calls k)
