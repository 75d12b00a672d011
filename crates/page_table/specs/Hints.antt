-- Where the search for a gap may begin.
use Rattle.std.specs.Prelude.{◌+◌, ◌<◌, ◌≤◌, ◌^◌, ◌≡◌, ℕ, List, get_or, None, IsSome}
use Rattle.xm_num.specs.Rows.{at}
use Rattle.page_table.specs.Spaces.{IsGap}

-- a page below which no gap of n pages begins
pub record IsHint {V : Type 0} (rows : List (ℕ × V)) (n hint : ℕ) : Type 0 where
  pub low : 1 ≤ hint
  pub high : hint ≤ 2 ^ 24
  pub none : (v : ℕ) → v < hint → ¬ IsGap rows n v

-- the hint for n pages, which is page 1 where none is kept
abbrev pub hint_of : List ℕ → ℕ → ℕ
hint_of hints n = get_or hints n 1

-- for each number of pages the hint is one
abbrev pub AreHints : {V : Type 0} → List (ℕ × V) → List ℕ → Type 0
AreHints rows hints = (n : ℕ) → IsHint rows n (hint_of hints n)

-- no number below `number` and from the start on has a row, and the one before the start has, or the start is 1
pub record IsStart {V : Type 0} (rows : List (ℕ × V)) (number start : ℕ) : Type 0 where
  pub low : 1 ≤ start
  pub high : start ≤ 2 ^ 24
  pub free : (v : ℕ) → start ≤ v → v < number → at rows v ≡ None
  pub behind : (v : ℕ) → 1 ≤ v → v + 1 ≡ start → (v < number) × IsSome (at rows v)
