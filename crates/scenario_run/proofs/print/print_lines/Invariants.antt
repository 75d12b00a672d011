use Rattle.std.proofs.Common.{◌≡◌, ◌++◌, take}
use Rattle.xemem_language.specs.Spelling.{text_of}
use Rattle.scenario_run.proofs.print.print_lines.Given as goal

abbrev pub invariant-loop-line : goal.invariant-loop-line
invariant-loop-line l = l.out.items ≡ l.initial.out.items ++ text_of (take l.line-index l.lines)
