use Rattle.exporter_pins.proofs.QueueLemmas.{on_ok}
use Rattle.exporter_pins.proofs.names.NameTable.insert.Goals as goal

pub returns-clause-names : goal.returns-clause-names
returns-clause-names c n = rw (← c.self.view_is) ((on_ok c.insert.result (c.insert.ensures.succeeds (rw (← c.self.view_is) at c.requires)) c.insert.ensures.updates).0 n)
