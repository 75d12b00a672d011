use Rattle.std.proofs.Common.{sym, ◌∙◌}
use Rattle.xm_num.specs.Rows.{at}
use Rattle.guest_map.proofs.KeptLemmas.{none_admitted, some_entry, admitted_by}
use Rattle.guest_map.proofs.GuestMap.admitted_frame.Goals as goal

pub returns-in_err-call : goal.returns-in_err-call
returns-in_err-call c =
    c.from_residual.ensures ∙ rw (← c.self.view_is) (sym (none_admitted c.row_laws.ensures _ _ _ c.self.invariant c.row_laws-2.ensures c.args.guest (sym c.in_err-call.ensures.next)))

pub returns-in_err-get : goal.returns-in_err-get
unfolding at
returns-in_err-get c = absurd (some_entry c.row_laws.ensures _ _ _ c.self.invariant _ c.in_ok-call.call c.in_ok-call.ensures.call (sym c.in_err-get.ensures.value))

pub returns : goal.returns
unfolding at
returns c =
    c.machine.ensures ∙ rw (← c.self.view_is) (admitted_by c.row_laws.ensures _ _ _ c.self.invariant c.row_laws-2.ensures c.args.guest _ c.in_ok-call.call c.in_ok-get.field-0.now c.next_from.ensures.ascending (sym c.in_ok-call.ensures.next) c.in_ok-call.ensures.call (sym c.in_ok-get.ensures.value))
