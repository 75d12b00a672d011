use Rattle.number_pairs.proofs.PairLemmas.{removed}
use Rattle.number_pairs.proofs.Pairs.remove.Goals as goal

pub returns : goal.returns
returns c a b = rw (← c.self.view_is) (removed c.args.first c.args.second a b c.self.inside.items.keys c.remove.new.self.keys (c.remove.ensures.updates.0 (a, b)))
