use Rattle.page_table.proofs.Within.{within_nothing}
use Rattle.page_table.proofs.Held.{held_nothing}
use Rattle.page_table.proofs.Hinted.{hints_nothing}
use Rattle.page_table.proofs.table.PageTableAddressSpace.new.Goals as goal

pub invariant_of-result : goal.invariant_of-result
invariant_of-result c =
    record {
      within = rw c.new.ensures (within_nothing c.table_laws.ensures.pages);
      held = rw (c.new.ensures, c.new-2.ensures) (held_nothing c.table_laws.ensures.pages c.table_laws.ensures.rights);
      hinted = rw c.new-3.ensures (hints_nothing c.new.result);
    }
