use Rattle.std.proofs.Common.{◌≡◌, length}
use Rattle.byte_link.specs.Layout.{lengths_after}
use Rattle.byte_link.proofs.queues.forget_front.Given as goal

abbrev pub invariant-loop-length : goal.invariant-loop-length
invariant-loop-length l = lengths_after l.left l.lengths.items ≡ lengths_after l.count l.fn.lengths.items

abbrev pub decreases-loop-length : goal.decreases-loop-length
decreases-loop-length l = length l.lengths.items
