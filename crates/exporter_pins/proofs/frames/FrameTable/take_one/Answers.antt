use Rattle.std.proofs.Common.{◌≡◌, ◌∙◌}
use Rattle.exporter_pins.proofs.KeptLemmas.{taken_back}
use Rattle.exporter_pins.proofs.frames.FrameTable.take_one.Goals as goal

pub returns-in-Err-clause-err : goal.returns-in-Err-clause-err
returns-in-Err-clause-err c =
    let owners : c.free.new.self.owners ≡ c.args.self.now.owners =
    c.free.ensures.owners ∙ rw c.in_ok-frame.ensures.owners (taken_back c.row_laws.ensures c.args.self.now.owners c.in_ok-frame.frame.0 c.args.pid.0 c.in_ok-frame.ensures.ascending c.in_ok-frame.ensures.fresh) in
    let frames : c.free.new.self.frames ≡ c.args.self.now.frames = c.free.ensures.frames ∙ c.in_ok-frame.ensures.frames in
    let covers : c.free.new.self.covers ≡ c.args.self.now.covers = c.free.ensures.covers ∙ c.in_ok-frame.ensures.covers in
    (λ i. record { frames = frames i; owners = owners i; covers = covers i })
