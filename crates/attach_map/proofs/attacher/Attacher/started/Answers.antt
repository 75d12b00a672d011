use Rattle.attach_map.proofs.KeptLemmas.{numbered}
use Rattle.attach_map.proofs.attacher.Attacher.started.Goals as goal

pub returns-clause-numbered : goal.returns-clause-numbered
returns-clause-numbered g c = rw (← c.self.view_is) (numbered c.table_laws.ensures.calls _ _ _ _ _ c.self.invariant.0 c.self.invariant.1)
