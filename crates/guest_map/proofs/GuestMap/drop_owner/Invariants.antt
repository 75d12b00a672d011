use Rattle.std.proofs.Common.{◌≡◌, length}
use Rattle.guest_map.specs.Guests.{without_owner}
use Rattle.guest_map.proofs.GuestMap.drop_owner.Given as goal

abbrev pub decreases-loop-call : goal.decreases-loop-call
decreases-loop-call l = length l.self.entries

abbrev pub invariant-loop-call : goal.invariant-loop-call
invariant-loop-call l = without_owner l.owner l.self ≡ without_owner l.owner l.fn.self
