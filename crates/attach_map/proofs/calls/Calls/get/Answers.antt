use Rattle.std.proofs.Common.{◌∙◌}
use Rattle.attach_map.proofs.TableLemmas.{found}
use Rattle.attach_map.proofs.calls.Calls.get.Goals as goal

pub returns-clause-value : goal.returns-clause-value
returns-clause-value c = rw (← c.self.view_is) (c.copied.ensures ∙ c.get.ensures.value ∙ found _ c.args.call)
