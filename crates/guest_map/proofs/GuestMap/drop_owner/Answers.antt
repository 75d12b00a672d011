use Rattle.std.proofs.Common.{◌≡◌, ◌<◌, length, sym, ◌∙◌}
use Rattle.guest_map.specs.Guests.{without_owner}
use Rattle.guest_map.proofs.KeptLemmas.{drop_step, drop_end}
use Rattle.guest_map.proofs.GuestMap.drop_owner.Goals as goal

pub loop-call-smaller : goal.loop-call-smaller
loop-call-smaller c =
    let fewer : length c.drop_key.new.self.entries < length c.loop-call.self.entries =
    rw c.drop_key.ensures.after (drop_step c.row_laws.ensures c.loop-call.self c.lowest_of.ensures.guest.ascending c.args.owner c.in-Some.call c.in-Some.ensures.call).1 in
    fewer

pub loop-call-preserved : goal.loop-call-preserved
loop-call-preserved c =
    let same : without_owner c.args.owner c.drop_key.new.self ≡ without_owner c.args.owner c.loop-call.self =
    rw c.drop_key.ensures.after (drop_step c.row_laws.ensures c.loop-call.self c.lowest_of.ensures.guest.ascending c.args.owner c.in-Some.call c.in-Some.ensures.call).0 in
    same ∙ c.loop-call.invariant

pub returns : goal.returns
returns c = sym (drop_end c.row_laws.ensures c.loop-call.self c.lowest_of.ensures.guest.ascending c.args.owner c.in_default.ensures.call) ∙ c.loop-call.invariant
