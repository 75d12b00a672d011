use Rattle.global_model.specs.Due.{journal_of}
use Rattle.global_model.specs.Facts.{facts_after}
use Rattle.discovery_laws.proofs.Resting.{knows_at_rest}
use Rattle.discovery_laws.proofs.Joined.{admitted_at_rest}
use Rattle.discovery_laws.proofs.Journals.{journal_of-joined}
use Rattle.discovery_laws.proofs.laws.rest_is_admitted.Goals as goal

pub returns : goal.returns
returns c = λ commands placed rest server e lives.
    let flowing = c.laws.ensures.journal.flowing commands placed in
    let joined = journal_of-joined c.laws.ensures commands placed in (
      knows_at_rest (facts_after (journal_of commands)) flowing joined.asked rest server e lives,
      admitted_at_rest (facts_after (journal_of commands)) flowing joined.asked.known.uncut rest joined server e lives,
    )
