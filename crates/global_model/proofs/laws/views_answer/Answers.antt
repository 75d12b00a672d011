use Rattle.global_model.specs.Facts.{facts_after}
use Rattle.global_model.specs.Due.{journal_of}
use Rattle.global_model.proofs.Commands.{sound_after}
use Rattle.global_model.proofs.Answered.{answered, host_answered}
use Rattle.global_model.proofs.laws.views_answer.Goals as goal

pub returns : goal.returns
returns c = record { answered = λ commands placed. answered c.rows.ensures.any_at (facts_after (journal_of commands)) (sound_after commands placed); host = host_answered }
