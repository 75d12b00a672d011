use Rattle.exporter_pins.proofs.names.NameTable.remove.Goals as goal

pub returns-clause-names : goal.returns-clause-names
returns-clause-names c n = rw (← c.self.view_is) (c.remove.ensures.updates.0 n)
