-- Hints after changes.
use Rattle.std.proofs.Common.{◌≡◌, ◌+◌, ◌<◌, ◌≤◌, ℕ, List, length, refl, sym, ◌∙◌, arith, set, inl, inr}
use Rattle.std.specs.Prelude.{min}
use Rattle.std.proofs.lemmas.Bool.{cases_lt, cases_eq}
use Rattle.std.proofs.Math.Nat.{min-eq_left}
use Rattle.std.proofs.Math.ListN.{get_or-eq_default}
use Rattle.std.proofs.lemmas.List.{get_or-set_same, get_or-set_other, length-set}
use Rattle.page_table.specs.Hints.{hint_of}

-- the hints for fewer than n pages are lowered, and the others are as they were
pub record AreLowered (before now : List ℕ) (low n : ℕ) : Type 0 where
  pub size : length now ≡ length before
  pub done : (m : ℕ) → m < n → hint_of now m ≡ min (hint_of before m) low
  pub left : (m : ℕ) → n ≤ m → hint_of now m ≡ hint_of before m

pub lowers_none : (hints : List ℕ) (low : ℕ) → AreLowered hints hints low 0
lowers_none hints low = record { size = refl; done = λ m under. absurd (omega arith); left = λ m from. refl }

pub lowers_one : (before now : List ℕ) (low n hint : ℕ) → AreLowered before now low n → n < length now → hint ≡ min (hint_of now n) low → AreLowered before (set now n hint) low (n + 1)
lowers_one before now low n hint lowered within is = record { size = length-set now n hint ∙ lowered.size; done = done; left = left }
  where
    done : (m : ℕ) → m < n + 1 → hint_of (set now n hint) m ≡ min (hint_of before m) low
    done m under = elim (cases_eq m n) [
      | inl same ↦ rw (same, get_or-set_same now n hint 1 within, is, lowered.left n (omega arith)) refl
      | inr other ↦ rw (get_or-set_other now n m hint 1 other) (lowered.done m (omega arith))
    ]

    left : (m : ℕ) → n + 1 ≤ m → hint_of (set now n hint) m ≡ hint_of before m
    left m from = rw (get_or-set_other now n m hint 1 (λ same. omega arith)) (lowered.left m (omega arith))

-- a hint that isn't kept is as low as can be
pub lowers_few : (before now : List ℕ) (low most end n : ℕ) → AreLowered before now low end → 1 ≤ low → end ≡ min (length before) (most + 1) → n ≤ most
    → hint_of now n ≡ min (hint_of before n) low
lowers_few before now low most end n lowered from is few = elim (cases_lt n end) [
  | inl reached ↦ lowered.done n reached
  | inr behind ↦
      let first : hint_of before n ≡ 1 = get_or-eq_default before 1 (omega (arith, is)) in
      lowered.left n behind ∙ rw first (sym (min-eq_left from))
]

pub lowers_many : (before now : List ℕ) (low most end n : ℕ) → AreLowered before now low end → end ≡ min (length before) (most + 1) → most < n → hint_of now n ≡ hint_of before n
lowers_many before now low most end n lowered is many = lowered.left n (omega (arith, is))
