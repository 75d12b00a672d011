use Rattle.page_table.proofs.Held.{held_unmap}
use Rattle.page_table.proofs.table.PageTableAddressSpace.unmap.Goals as goal

pub invariant_of-self : goal.invariant_of-self
invariant_of-self c =
    record {
      within = c.unmap_all.ensures.within;
      held = rw (c.unmap_all.ensures.rows, c.remove.ensures.rows, c.spend-n.ensures.first, c.spend-n.ensures.pages)
          (held_unmap c.table_laws.ensures.pages c.table_laws.ensures.rights c.args.self.now.pages c.args.self.now.rights c.args.right.first.0 c.args.right.pages c.unmap_all.ensures.was_ascending c.remove.ensures.was_ascending c.requires c.args.self.now.held);
      hinted = c.unmap_all.ensures.hinted;
    }
