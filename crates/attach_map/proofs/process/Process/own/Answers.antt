use Rattle.attach_map.proofs.process.Process.own.Goals as goal

pub returns-clause-taken : goal.returns-clause-taken
returns-clause-taken g c = rw (← c.self.view_is) c.own.ensures.taken
