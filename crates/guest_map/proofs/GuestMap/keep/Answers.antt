use Rattle.xm_num.specs.Rows.{put}
use Rattle.guest_map.proofs.KeptLemmas.{kept_more}
use Rattle.guest_map.proofs.GuestMap.keep.Goals as goal

pub invariant_of-self-2 : goal.invariant_of-self-2
unfolding put
invariant_of-self-2 c =
    rw c.in_default-insert.ensures.entries
    (kept_more c.row_laws.ensures _ _ _ c.self.invariant c.row_laws-2.ensures c.args.call c.end-end.result c.args.entry (rw (← c.self.view_is) at c.requires.fresh) (rw (← c.self.view_is) at c.requires.next) c.end-end.ensures
    c.insert-2.new.self c.insert.new.self (rw c.last-last.ensures at c.in_default.ensures.ok) (rw c.owner-owner.ensures at c.in_ok-insert.ensures.ok))
