use Rattle.std.proofs.Common.{◌∙◌}
use Rattle.command_reader.proofs.ReaderLemmas.{counted_at}
use Rattle.command_reader.proofs.read.form_of.Goals as goal

pub returns-then-words-count-clause-count : goal.returns-then-words-count-clause-count
returns-then-words-count-clause-count c = c.if-words-count.true ∙ counted_at _ _ _ c.requires.counts c.loop-first-test.true
