use Rattle.global_model.specs.Facts.{facts_after}
use Rattle.global_model.specs.Due.{journal_of}
use Rattle.global_model.proofs.Commands.{sound_after}
use Rattle.global_model.proofs.Handled.{taken_handled}
use Rattle.global_model.proofs.Seen.{unborn_known, journal_of-seen, seen_after}
use Rattle.global_model.proofs.laws.views_follow.Goals as goal

pub returns : goal.returns
returns c = record {
  unborn = λ commands placed. unborn_known (facts_after (journal_of commands)) (sound_after commands placed);
  plain = λ commands placed e. (sound_after commands placed).plain e.0;
  lines = journal_of-seen;
  seen = seen_after;
  handled = λ commands placed x y n. taken_handled (facts_after (journal_of commands)) x y n (sound_after commands placed);
}
