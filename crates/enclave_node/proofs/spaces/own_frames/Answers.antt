use Rattle.std.proofs.Common.{◌≡◌, ◌≤◌, ◌+◌, ◌-◌, ◌∙◌, arith}
use Rattle.enclave_node.proofs.SpaceLemmas.{own_step, frames_step}
use Rattle.enclave_node.proofs.spaces.own_frames.Goals as goal

pub loop-i-preserved : goal.loop-i-preserved
loop-i-preserved g c =
    let pages = g.A.AddressSpace.pages c.args.space.now in
    let page = c.args.first.0 + c.loop-i.i in
    let left = c.args.n - c.loop-i.i in
    let some : 1 ≤ left = omega (arith, c.loop-i-test.true) in
    let next : c.args.first.0 + (c.loop-i.i + 1) ≡ page + 1 = omega arith in
    let rest : c.args.n - (c.loop-i.i + 1) ≡ left - 1 = omega (arith, c.loop-i-test.true) in
    let pushed = c.in_ok-push.ensures.ok in
    record {
      frames = rw (pushed, next, rest) (frames_step pages page left c.in-Some.frame c.loop-i.frames some c.in-Some.ensures ∙ c.loop-i.invariant.frames);
      own = rw (next, rest) (own_step pages page left c.in-Some.frame some c.in-Some.ensures ∙ c.loop-i.invariant.own);
    }
