use Rattle.std.proofs.Common.{◌≡◌, ◌<◌, ◌≤◌, ◌++◌, length, map, take, get_or, false}
use Rattle.text_words.specs.Words.{words_of, is_blank}
use Rattle.text_words.proofs.split.words.Given as goal

abbrev pub invariant-loop-rest : goal.invariant-loop-rest
invariant-loop-rest l = record {
  words : take 8 (map (λ word. word.now) l.words.items ++ words_of l.rest) ≡ take 8 (words_of l.line);
  room : length l.words.items ≤ 8;
  start : 0 < length l.rest → is_blank (get_or l.rest 0 0) ≡ false;
}

abbrev pub decreases-loop-rest : goal.decreases-loop-rest
decreases-loop-rest l = length l.rest
