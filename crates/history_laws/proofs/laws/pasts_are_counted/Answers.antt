use Rattle.history_laws.proofs.Counted.{births_counted, starts_counted, started_counted, server_counted, legal_limited}
use Rattle.history_laws.proofs.laws.pasts_are_counted.Goals as goal

pub returns : goal.returns
returns c = record { births = births_counted; starts = starts_counted; started = started_counted; server = server_counted; refusals = legal_limited }
