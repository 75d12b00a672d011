use Rattle.std.proofs.Common.{sym, ◌∙◌}
use Rattle.attach_map.proofs.TableLemmas.{found}
use Rattle.attach_map.proofs.processes.Processes.get.Goals as goal

pub returns-in-Some-clause-value : goal.returns-in-Some-clause-value
returns-in-Some-clause-value g c = rw (← c.self.view_is, ← c.if-number-pid.true) (sym c.in-Some.ensures.value ∙ found _ c.in-Some.number.now)

pub returns-in_default-clause-value : goal.returns-in_default-clause-value
returns-in_default-clause-value g c = rw (← c.self.view_is) (c.get.ensures.value ∙ found _ c.args.pid)
