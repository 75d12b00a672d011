use Rattle.std.proofs.Common.{◌≡◌, ◌≤◌, ◌++◌, ◌-◌, length, map}
use Rattle.line_reader.proofs.commanded.first_words.Given as goal

abbrev pub invariant-loop-words : goal.invariant-loop-words
invariant-loop-words l = record {
  all : map (λ word. word.now) l.kept.items ++ l.words ≡ l.initial.words;
  room : length l.kept.items ≤ 8;
}

abbrev pub decreases-loop-words : goal.decreases-loop-words
decreases-loop-words l = 8 - length l.kept.items
