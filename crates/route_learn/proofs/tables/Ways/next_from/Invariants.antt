use Rattle.std.proofs.Common.{◌≡◌, ◌<◌, ◌≤◌, ℕ, get_or, None}
use Rattle.route_learn.proofs.tables.Ways.next_from.Given as goal

-- no place from the low end on and before this one has something
abbrev pub invariant-loop-number : goal.invariant-loop-number
invariant-loop-number l = (q : ℕ) → l.low ≤ q → q < l.number → get_or l.self-inside.items.items q None ≡ None
