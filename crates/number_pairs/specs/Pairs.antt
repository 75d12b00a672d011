-- Pairs of numbers.
use Rattle.std.specs.Prelude.{ℕ, nat_lt, ◌==◌, Bool, true, ◌&&◌, List, Option, None, Some}
use Rattle.std.specs.List.{list_any}
use Rattle.std.specs.declared.ops.Bound.{Bound}
use Rattle.std.specs.declared.ops.Bound.TheVariants.{Included, Excluded}

-- the pair is one of these
abbrev pub has_pair : List (ℕ × ℕ) → ℕ → ℕ → Bool
has_pair pairs a b = list_any (λ pair. (pair.0 == a) && (pair.1 == b)) pairs

-- it is above the last one, where there is a last one
abbrev pub is_after_last : Option ℕ → ℕ → Bool
is_after_last None b = true
is_after_last (Some a) b = nat_lt a b

-- where the pairs begin with this first number and a second one above the last one
abbrev pub start_of : ℕ → Option ℕ → Bound (ℕ × ℕ)
start_of first None = Included (first, 0)
start_of first (Some a) = Excluded (first, a)
