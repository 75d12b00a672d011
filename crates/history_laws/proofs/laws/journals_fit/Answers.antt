use Rattle.history_laws.proofs.Fitting.{journal_of-typed, journal_of-typed_more}
use Rattle.history_laws.proofs.laws.journals_fit.Goals as goal

pub returns-clause-whole : goal.returns-clause-whole
returns-clause-whole c = journal_of-typed c.laws.ensures

pub returns-clause-more : goal.returns-clause-more
returns-clause-more c = journal_of-typed_more c.laws.ensures
