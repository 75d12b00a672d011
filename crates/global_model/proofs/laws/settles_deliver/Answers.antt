use Rattle.global_model.proofs.Settles.{journal_of-placed, journal_of-delivers, journal_of-ends}
use Rattle.global_model.proofs.laws.settles_deliver.Goals as goal

pub returns : goal.returns
returns c = record { placed = journal_of-placed c.spelling_length.ensures.most; lines = journal_of-delivers; ends = journal_of-ends }
