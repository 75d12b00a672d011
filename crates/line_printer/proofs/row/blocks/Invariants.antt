use Rattle.std.proofs.Common.{◌≡◌, ◌++◌, map, take, decimal}
use Rattle.xemem_language.specs.Spelling.{spaced}
use Rattle.line_printer.proofs.row.blocks.Given as goal

abbrev pub invariant-loop-block : goal.invariant-loop-block
invariant-loop-block l = l.out.items ≡ l.initial.out.items ++ spaced (map (λ b. decimal b.0) (take l.block-index l.blocks))
