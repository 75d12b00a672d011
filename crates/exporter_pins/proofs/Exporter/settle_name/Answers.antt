use Rattle.exporter_pins.proofs.TableLemmas.{counted_live}
use Rattle.exporter_pins.proofs.Exporter.settle_name.Goals as goal

pub invariant_of-self : goal.invariant_of-self
invariant_of-self c = rw c.settle.ensures.exports (counted_live c.self.inside.exports c.args.call.0 _ c.self.inside.frames.covers c.self.invariant c.settle.ensures.was_ascending)
