use Rattle.std.proofs.Common.{◌≡◌, ◌<◌, length, ap, ◌∙◌, arith}
use Rattle.xm_num.specs.Rows.{IsAscending}
use Rattle.exporter_pins.specs.Holdings.{own_all}
use Rattle.exporter_pins.specs.Layout.{FrameUse, free_in}
use Rattle.exporter_pins.proofs.KeptLemmas.{all_back, were_free}
use Rattle.exporter_pins.proofs.frames.FrameTable.take.Goals as goal

pub returns-in_default-clause-short : goal.returns-in_default-clause-short
returns-in_default-clause-short c = (
  λ e. cc,
  λ h. absurd (let short : length (free_in c.args.self.now) < c.args.n = h in let short' = rw (← c.self.view_is) at short in omega (arith, c.len.ensures, c.if-len-n.false, c.self.invariant.free.counted)),
)

pub returns-in_default-clause-err : goal.returns-in_default-clause-err
returns-in_default-clause-err c =
    let list : c.as_slice.result.now ≡ c.loop-turn.list = c.as_slice.ensures ∙ c.in_default.ensures.err_list in
    let same : c.take_one.new.self ≡ c.loop-turn.self = c.in_default.ensures.err in
    let up : IsAscending c.args.self.now.owners = rw (← c.self.view_is) c.self.invariant.rows in
    let given : c.take_one.new.self.owners ≡ own_all c.args.self.now.owners c.args.pid.0 c.loop-turn.list = ap (λ (u : FrameUse). u.owners) same ∙ c.loop-turn.invariant.owners in
    let owners : c.give_back.new.self.owners ≡ c.args.self.now.owners =
    all_back c.row_laws.ensures c.args.self.now.owners c.give_back.new.self.owners c.take_one.new.self.owners c.args.pid.0 c.loop-turn.list up c.give_back.ensures.ascending given
    (λ k here. were_free c.row_laws.ensures c.args.self.now c.loop-turn.list (free_in c.loop-turn.self) k c.loop-turn.invariant.list here)
    (λ k. rw list at (c.give_back.ensures.owners k)) in
    let frames : c.give_back.new.self.frames ≡ c.args.self.now.frames = c.give_back.ensures.frames ∙ ap (λ (u : FrameUse). u.frames) same ∙ c.loop-turn.invariant.frames in
    let covers : c.give_back.new.self.covers ≡ c.args.self.now.covers = c.give_back.ensures.covers ∙ ap (λ (u : FrameUse). u.covers) same ∙ c.loop-turn.invariant.covers in
    (λ i. record { frames = frames i; owners = owners i; covers = covers i })
