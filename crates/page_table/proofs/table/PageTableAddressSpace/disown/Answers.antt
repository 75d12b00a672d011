use Rattle.page_table.proofs.Held.{held_less_all}
use Rattle.page_table.proofs.table.PageTableAddressSpace.disown.Goals as goal

pub invariant_of-self : goal.invariant_of-self
invariant_of-self c =
    record {
      within = c.unmap_all.ensures.within;
      held = rw c.unmap_all.ensures.rows
          (held_less_all c.table_laws.ensures.pages c.table_laws.ensures.rights c.args.self.now.pages c.args.self.now.rights c.args.at.0 c.args.n c.unmap_all.ensures.was_ascending c.requires c.args.self.now.held);
      hinted = c.unmap_all.ensures.hinted;
    }
