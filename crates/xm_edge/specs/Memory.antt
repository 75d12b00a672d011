-- How a source and a sink in memory are seen.
use Rattle.std.specs.Prelude.{◌+◌, ◌<◌, ◌⊎◌, ℕ, List, length, Contains}
use Rattle.xm_edge.specs.Faults.{count_after}

-- the bytes left, the calls made so far, the numbers of the calls that fail, and the faults counted
pub record SourceState : Type 0 where
  pub left : List ℕ
  pub calls : ℕ
  pub failing : List ℕ
  pub faults : ℕ

-- the bytes written, the bytes that fit in all, the calls made, the calls that fail, and the faults counted
pub record Writing : Type 0 where
  pub bytes : List ℕ
  pub room : ℕ
  pub calls : ℕ
  pub failing : List ℕ
  pub faults : ℕ

-- the call after so many is listed as one that fails
abbrev pub IsListedNext : List ℕ → ℕ → Type 0
IsListedNext failing calls = Contains failing (count_after calls)

-- the next call of a sink fails: its number is listed, or a piece of this length doesn't fit
abbrev pub FailsAt : Writing → ℕ → Type 0
FailsAt s n = IsListedNext s.failing s.calls ⊎ (s.room < length s.bytes + n)
