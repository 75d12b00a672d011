-- How tables lie in memory.
use Rattle.std.specs.Prelude.{ℕ, ◌+◌, List, [], ◌∷◌, Option, None, Some}

-- the places of a list that have something, with what they have, the first of them being place `k`
abbrev pub present : {V : Type 0} → ℕ → List (Option V) → List (ℕ × V)
present k [] = []
present k (None ∷ items) = present (k + 1) items
present k (Some v ∷ items) = (k, v) ∷ present (k + 1) items
