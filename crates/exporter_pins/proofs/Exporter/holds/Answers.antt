use Rattle.std.proofs.Common.{◌∙◌, sym}
use Rattle.exporter_pins.proofs.TableLemmas.{covered_is}
use Rattle.exporter_pins.proofs.Exporter.holds.Goals as goal

pub returns : goal.returns
returns c = rw (← c.self.view_is) (c.is_covered.ensures ∙ rw (c.self.invariant c.args.frame.0) (sym (covered_is c.self.inside.exports c.args.frame.0)))
