use Rattle.number_pairs.proofs.PairLemmas.{inserted}
use Rattle.number_pairs.proofs.Pairs.insert.Goals as goal

pub returns-clause-ok : goal.returns-clause-ok
returns-clause-ok c a b = rw (← c.self.view_is) (inserted c.args.first c.args.second a b c.self.inside.items.keys c.insert.new.self.keys (c.in_ok-insert.ensures.updates.0 (a, b)))
