use Rattle.name_server.proofs.IndexLemmas.{taken}
use Rattle.name_server.proofs.tables.Index.remove.Goals as goal

pub returns : goal.returns
returns c = rw (← c.self.view_is) (taken (c.args.owner.0, c.args.segid) c.self.inside.keys.keys c.remove.new.self.keys c.remove.ensures.updates.0)
