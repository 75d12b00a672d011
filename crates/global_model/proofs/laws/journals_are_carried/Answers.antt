use Rattle.global_model.proofs.Carried.{journal_of-carried, journal_of-flowing}
use Rattle.global_model.proofs.laws.journals_are_carried.Goals as goal

pub returns : goal.returns
returns c = record { carried = journal_of-carried; flowing = journal_of-flowing }
