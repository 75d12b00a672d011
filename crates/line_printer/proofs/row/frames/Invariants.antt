use Rattle.std.proofs.Common.{◌≡◌, ◌++◌, take}
use Rattle.xemem_language.specs.Spelling.{spaced, frame_words}
use Rattle.line_printer.proofs.row.frames.Given as goal

abbrev pub invariant-loop-frame : goal.invariant-loop-frame
invariant-loop-frame l = l.out.items ≡ l.initial.out.items ++ spaced (frame_words (take l.frame-index l.frames))
