use Rattle.std.proofs.Common.{◌≡◌, ◌<◌, length, sym, ◌∙◌, Some}
use Rattle.xm_num.specs.Rows.{at}
use Rattle.exporter_pins.specs.Holdings.{owned_by_others}
use Rattle.exporter_pins.proofs.KeptLemmas.{others_less, others_all, length_less}
use Rattle.exporter_pins.proofs.frames.FrameTable.free_process.Goals as goal

pub loop-number-smaller : goal.loop-number-smaller
loop-number-smaller c =
    let has : at c.loop-number.self.owners c.in-Some.number ≡ Some c.args.pid.0 = rw (← c.self.view_is) c.in-Some.ensures.here in
    let fewer : length c.free.new.self.owners < length c.loop-number.self.owners = rw c.free.ensures.owners (length_less c.args.pid.0 c.loop-number.self.owners c.in-Some.number has) in
    fewer

pub loop-number-preserved : goal.loop-number-preserved
loop-number-preserved c =
    let has : at c.loop-number.self.owners c.in-Some.number ≡ Some c.args.pid.0 = rw (← c.self.view_is) c.in-Some.ensures.here in
    record {
      owners = rw c.free.ensures.owners (others_less c.args.pid.0 c.loop-number.self.owners c.in-Some.number has) ∙ c.loop-number.invariant.owners;
      frames = c.free.ensures.frames ∙ c.loop-number.invariant.frames;
      covers = c.free.ensures.covers ∙ c.loop-number.invariant.covers;
    }

pub returns-clause-owners : goal.returns-clause-owners
returns-clause-owners c =
    let all : owned_by_others c.args.pid.0 c.loop-number.self.owners ≡ c.loop-number.self.owners =
    rw (← c.self.view_is) (others_all c.row_laws.ensures c.args.pid.0 c.self.inside.owners.rows c.self.invariant.rows c.in_default.ensures.none) in
    sym all ∙ c.loop-number.invariant.owners
