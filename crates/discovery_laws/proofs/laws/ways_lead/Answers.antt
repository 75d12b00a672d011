use Rattle.global_model.specs.Due.{journal_of}
use Rattle.global_model.specs.Facts.{after_lines, facts_after, no_facts}
use Rattle.global_model.specs.Pauses.{written_in}
use Rattle.discovery_laws.proofs.Joined.{joined_leads}
use Rattle.discovery_laws.proofs.Journals.{journal_of-joined, steps_joined}
use Rattle.discovery_laws.proofs.laws.ways_lead.Goals as goal

pub returns-clause-ended : goal.returns-clause-ended
returns-clause-ended c = λ commands placed. joined_leads (facts_after (journal_of commands)) (journal_of-joined c.laws.ensures commands placed)

pub returns-clause-pauses : goal.returns-clause-pauses
returns-clause-pauses c = λ steps are. joined_leads (after_lines no_facts (written_in no_facts steps)) (steps_joined c.laws.ensures steps are)
