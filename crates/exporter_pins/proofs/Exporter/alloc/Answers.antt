use Rattle.exporter_pins.specs.Holdings.{Holdings}
use Rattle.exporter_pins.proofs.TableLemmas.{free_is, given_is}
use Rattle.exporter_pins.proofs.Exporter.alloc.Goals as goal

pub returns-clause-list : goal.returns-clause-list
returns-clause-list c = let list = rw (free_is c.self.inside.frames c.self.inside.exports c.self.invariant) at c.take.ensures.list in rw (← c.self.view_is) list

pub returns-clause-after : goal.returns-clause-after
returns-clause-after c =
    let list = rw (free_is c.self.inside.frames c.self.inside.exports c.self.invariant) at c.take.ensures.list in
    let e = c.self.inside in
    let h : Holdings = record { frames = e.frames.frames; owners = e.frames.owners; exports = e.exports; grants = e.grants } in
    rw (← c.self.view_is) (given_is c.take.result c.self.inside.frames c.take.new.self h c.args.pid.0 c.args.n _ list c.take.ensures.owners c.take.ensures.frames)

pub returns-clause-short : goal.returns-clause-short
returns-clause-short c = let short = rw (free_is c.self.inside.frames c.self.inside.exports c.self.invariant) at c.take.ensures.short in rw (← c.self.view_is) short
