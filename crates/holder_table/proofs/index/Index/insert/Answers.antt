use Rattle.holder_table.proofs.IndexLemmas.{added}
use Rattle.holder_table.proofs.index.Index.insert.Goals as goal

pub returns-clause-ok : goal.returns-clause-ok
returns-clause-ok c = rw (← c.self.view_is) (added (c.args.segid, (c.args.to.0, c.args.call.0)) c.self.inside.keys.keys c.insert.new.self.keys c.in_ok-insert.ensures.updates.0)
