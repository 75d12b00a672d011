use Rattle.name_server.proofs.IndexLemmas.{added}
use Rattle.name_server.proofs.tables.Index.insert.Goals as goal

pub returns-clause-ok : goal.returns-clause-ok
returns-clause-ok c = rw (← c.self.view_is) (added (c.args.owner.0, c.args.segid) c.self.inside.keys.keys c.insert.new.self.keys c.in_ok-insert.ensures.updates.0)
