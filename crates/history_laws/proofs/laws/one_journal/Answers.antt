use Rattle.history_laws.proofs.Told.{journal_of-told, journal_of-whole, only_journal}
use Rattle.history_laws.proofs.laws.one_journal.Goals as goal

pub returns-clause-told : goal.returns-clause-told
returns-clause-told c = λ commands. (journal_of-told c.laws.ensures commands).told

pub returns-clause-whole : goal.returns-clause-whole
returns-clause-whole c = journal_of-whole c.laws.ensures

pub returns-clause-commands : goal.returns-clause-commands
returns-clause-commands c = c.laws.ensures.journal.commands

pub returns-clause-only : goal.returns-clause-only
returns-clause-only c = only_journal c.laws.ensures
