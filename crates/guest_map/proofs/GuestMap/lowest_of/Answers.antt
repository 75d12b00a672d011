use Rattle.std.proofs.Common.{sym, ap, ◌∙◌, option_map}
use Rattle.guest_map.specs.Guests.{call_numbered}
use Rattle.guest_map.proofs.KeptLemmas.{lowest_is}
use Rattle.guest_map.proofs.GuestMap.lowest_of.Goals as goal

pub returns-in_err-call-clause-call : goal.returns-in_err-call-clause-call
returns-in_err-call-clause-call c =
    c.from_residual.ensures
    ∙ ap (option_map call_numbered) (sym c.in_err-call.was ∙ rw (← c.self.view_is) (lowest_is c.row_laws.ensures _ _ _ c.self.invariant c.args.owner c.next.result (rw c.from.ensures at c.next.ensures.here) (rw c.from.ensures at c.next.ensures.least) (rw c.from.ensures at c.next.ensures.none)))

pub returns-clause-call : goal.returns-clause-call
returns-clause-call c =
    ap (option_map call_numbered) (sym c.in_ok-call.was ∙ rw (← c.self.view_is) (lowest_is c.row_laws.ensures _ _ _ c.self.invariant c.args.owner c.next.result (rw c.from.ensures at c.next.ensures.here) (rw c.from.ensures at c.next.ensures.least) (rw c.from.ensures at c.next.ensures.none)))
