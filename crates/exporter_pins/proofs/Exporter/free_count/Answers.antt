use Rattle.std.proofs.Common.{List, length, ap, arith}
use Rattle.xm_num.specs.declared.Frame.{Frame}
use Rattle.exporter_pins.proofs.TableLemmas.{free_is}
use Rattle.exporter_pins.proofs.Exporter.free_count.Goals as goal

pub returns : goal.returns
returns c =
    let same = ap (λ (fs : List Frame). length fs) (free_is c.self.inside.frames c.self.inside.exports c.self.invariant) in
    rw (← c.self.view_is) (omega (arith, c.min.ensures, c.free_count.ensures.count, same))
