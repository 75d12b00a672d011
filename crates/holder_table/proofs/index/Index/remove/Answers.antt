use Rattle.holder_table.proofs.IndexLemmas.{taken}
use Rattle.holder_table.proofs.index.Index.remove.Goals as goal

pub returns : goal.returns
returns c = rw (← c.self.view_is) (taken (c.args.segid, (c.args.to.0, c.args.call.0)) c.self.inside.keys.keys c.remove.new.self.keys c.remove.ensures.updates.0)
