use Rattle.discovery_laws.proofs.Journals.{journal_of-once}
use Rattle.discovery_laws.proofs.laws.records_come_once.Goals as goal

pub returns : goal.returns
returns c = journal_of-once c.laws.ensures
