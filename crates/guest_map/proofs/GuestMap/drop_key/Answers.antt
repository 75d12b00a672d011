use Rattle.std.proofs.Common.{sym, ◌∙◌}
use Rattle.xm_num.specs.Rows.{at, less}
use Rattle.guest_map.proofs.KeptLemmas.{kept_less}
use Rattle.guest_map.proofs.GuestMap.drop_key.Goals as goal

pub invariant_of-self-2 : goal.invariant_of-self-2
unfolding at less
invariant_of-self-2 c =
    rw c.remove.ensures.entries
    (kept_less c.row_laws.ensures _ _ _ c.self.invariant c.row_laws-2.ensures c.args.call.0 c.in-Some.entry (sym c.remove.ensures.value ∙ c.in-Some.is) c.remove-2.ensures.was_ascending c.remove-2.new.self c.remove-3.new.self
    (rw c.last.ensures at c.remove-2.ensures.lasts) (rw c.owner.ensures at c.remove-3.ensures))
