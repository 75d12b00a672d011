use Rattle.std.proofs.Common.{ℕ, sym, ◌∙◌, take, eqb}
use Rattle.std.proofs.lemmas.List.Folds.{list_any_more}
use Rattle.xm_num.specs.declared.Frame.{Frame}
use Rattle.exporter_pins.specs.Holdings.{has_frame}
use Rattle.exporter_pins.proofs.KeptLemmas.{step_has, step_hasnt, owner_is}
use Rattle.exporter_pins.proofs.frames.FrameTable.give_back.Goals.{then-has, else-has}
use Rattle.exporter_pins.proofs.frames.FrameTable.give_back.Goals as goal

pub free-requires : goal.free-requires
free-requires c = owner_is c.args.pid.0 _ (sym c.has.ensures ∙ c.if-has.true)

pub loop-frame-preserved : goal.loop-frame-preserved
loop-frame-preserved c =
    let more = λ (k : ℕ). list_any_more (λ (frame : Frame). eqb frame.0 k) c.args.frames.now c.loop-frame.frame-index (record { 0 = 0 }) c.loop-frame-test.true in
    elim c.if-has.branch [
      | then-has w ↦
          rw w.self-is
          (record {
            owners = λ k. rw (more k, w.free.ensures.owners) (step_has c.row_laws.ensures c.loop-frame.self.owners c.args.self.now.owners _ c.args.pid.0 k (has_frame (take c.loop-frame.frame-index c.args.frames.now) k)
                c.loop-frame.invariant.ascending (owner_is c.args.pid.0 _ (sym c.has.ensures ∙ w.if-has.true)) (c.loop-frame.invariant.owners k));
            frames = w.free.ensures.frames ∙ c.loop-frame.invariant.frames;
            covers = w.free.ensures.covers ∙ c.loop-frame.invariant.covers;
            ascending = w.free.ensures.ascending;
          })
      | else-has w ↦
          rw w.self-is
          (record {
            owners = λ k. rw (more k) (step_hasnt c.row_laws.ensures c.loop-frame.self.owners c.args.self.now.owners _ c.args.pid.0 k (has_frame (take c.loop-frame.frame-index c.args.frames.now) k)
                (sym c.has.ensures ∙ w.if-has.false) (c.loop-frame.invariant.owners k));
            frames = c.loop-frame.invariant.frames;
            covers = c.loop-frame.invariant.covers;
            ascending = c.loop-frame.invariant.ascending;
          })
    ]
