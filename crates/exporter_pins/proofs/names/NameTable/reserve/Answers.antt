use Rattle.exporter_pins.proofs.names.NameTable.reserve.Goals as goal

pub returns-clause-same : goal.returns-clause-same
returns-clause-same c n = rw (← c.self.view_is) (c.reserve.ensures.entries.2 n)
