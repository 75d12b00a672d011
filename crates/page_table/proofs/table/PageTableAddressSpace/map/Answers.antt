use Rattle.std.proofs.Common.{length}
use Rattle.std.proofs.lemmas.Result.{err_from_is_err_and}
use Rattle.page_table.proofs.Held.{held_map, no_right}
use Rattle.page_table.proofs.table.PageTableAddressSpace.map.Goals as goal

pub returns-in_err-map_all-clause-taken : goal.returns-in_err-map_all-clause-taken
returns-in_err-map_all-clause-taken c v =
    let same = err_from_is_err_and c.from_residual.result c.from_residual.ensures.1 in
    let known = c.in_err-map_all.ensures.taken v in
    rw (same.1, same.2) (λ e. known.0 (cc), λ h. let is = known.1 h in cc)

pub returns-clause-taken : goal.returns-clause-taken
returns-clause-taken c v = let known = c.in_ok-map_all.ensures.taken v in (λ e. cc, λ h. let bad = known.1 h in cc)

pub returns-clause-fresh : goal.returns-clause-fresh
returns-clause-fresh c = no_right c.table_laws.ensures.pages c.table_laws.ensures.rights c.args.self.now.pages c.args.self.now.rights c.args.at.0 (length c.args.frames.now) c.in_ok-map_all.ensures.free c.requires.some c.args.self.now.held

pub invariant_of-self-2 : goal.invariant_of-self-2
invariant_of-self-2 c =
    record {
      within = c.in_ok-map_all.ensures.now_within;
      held = rw (c.in_ok-map_all.ensures.ok, c.in-Ok.ensures.ok)
          (held_map c.table_laws.ensures.pages c.table_laws.ensures.rights c.args.self.now.pages c.args.self.now.rights c.args.at.0 c.args.access c.args.frames.now c.in_ok-map_all.ensures.free c.requires.some c.args.self.now.held);
      hinted = c.raise_hint.ensures.hinted;
    }
