use Rattle.global_model.proofs.Carried.{journal_of-apt, journal_of-owned}
use Rattle.global_model.proofs.laws.journals_are_apt.Goals as goal

pub returns : goal.returns
returns c = record { apt = journal_of-apt; owned = journal_of-owned }
