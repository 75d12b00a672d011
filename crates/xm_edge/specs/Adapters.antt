-- How a reader or a writer of std is seen behind its adapter.
use Rattle.std.specs.Prelude.{ℕ}

-- the reader or writer, and the faults counted
pub record Counting (R : Type 0) : Type 0 where
  pub inner : R
  pub faults : ℕ
