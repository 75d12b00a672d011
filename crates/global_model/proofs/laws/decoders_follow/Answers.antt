use Rattle.global_model.proofs.Feeds.{journal_of-fed}
use Rattle.global_model.proofs.laws.decoders_follow.Goals as goal

pub returns : goal.returns
returns c = journal_of-fed c.spellings_are_read.ensures.first
