use Rattle.std.proofs.Common.{◌≡◌, ◌+◌, ◌-◌, ◌≤◌, ◌^◌, min, drop}
use Rattle.xemem_language.specs.Spelling.{words_in}
use Rattle.xemem_language.proofs.lines.Lines.words.Given as goal

-- what was counted and what is left are all
abbrev pub invariant-loop-line : goal.invariant-loop-line
invariant-loop-line l = record {
  sum : min (l.count + words_in (drop l.line-index l.line-items)) (2 ^ 64 - 1) ≡ min (words_in l.line-items) (2 ^ 64 - 1);
  most : l.count ≤ 2 ^ 64 - 1;
}
