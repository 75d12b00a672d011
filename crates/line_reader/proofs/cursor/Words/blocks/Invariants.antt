use Rattle.std.proofs.Common.{◌≡◌, ◌++◌, length, option_map}
use Rattle.line_reader.specs.Slots.{all_next, block}
use Rattle.line_reader.proofs.cursor.Words.blocks.Given as goal

abbrev pub invariant-loop-self : goal.invariant-loop-self
invariant-loop-self l = option_map (λ more. l.blocks ++ more) (all_next block l.self) ≡ all_next block l.initial.self

abbrev pub decreases-loop-self : goal.decreases-loop-self
decreases-loop-self l = length l.self
