use Rattle.discovery_laws.proofs.WayLines.{journal_of-ways}
use Rattle.discovery_laws.proofs.laws.ways_come_once.Goals as goal

pub returns : goal.returns
returns c = journal_of-ways c.laws.ensures
