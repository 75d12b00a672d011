use Rattle.std.proofs.Common.{◌≡◌, ◌≤◌, ◌+◌, take}
use Rattle.xemem_language.specs.Spelling.{words_in}
use Rattle.global_model.specs.Journals.{deliveries_in}
use Rattle.node_world.specs.World.{most_words, most_deliveries}
use Rattle.node_world.proofs.count.fitting.Given as goal

-- the counts are those of the lines so far, which pass no limit
abbrev pub invariant-loop-count : goal.invariant-loop-count
invariant-loop-count l = record {
  words : l.words ≡ l.fn.words + words_in (take l.count l.lines);
  deliveries : l.deliveries ≡ l.fn.deliveries + deliveries_in (take l.count l.lines);
  words_fit : l.words ≤ most_words;
  deliveries_fit : l.deliveries ≤ most_deliveries;
}
