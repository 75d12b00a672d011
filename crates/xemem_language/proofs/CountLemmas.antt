-- A count that stands still at its end.
use Rattle.std.proofs.Common.{◌≡◌, ◌+◌, ◌-◌, ◌≤◌, ◌^◌, ℕ, List, min, drop, length, ap, arith}
use Rattle.std.proofs.lemmas.List.{drop_all}
use Rattle.xemem_language.specs.declared.line.Line.{Line}
use Rattle.xemem_language.specs.Spelling.{words_in}

-- once nothing is left, the count is that of all
pub counted_all : (count i : ℕ) (journal : List Line) → length journal ≤ i → count ≤ 2 ^ 64 - 1 → min (count + words_in (drop i journal)) (2 ^ 64 - 1) ≡ min (words_in journal) (2 ^ 64 - 1) → count ≡ min (words_in journal) (2 ^ 64 - 1)
counted_all count i journal end most sum =
    let none : words_in (drop i journal) ≡ 0 = ap words_in (drop_all i journal end) in
    omega (arith, none, most, sum)
