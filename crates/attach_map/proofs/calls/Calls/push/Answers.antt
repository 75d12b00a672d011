use Rattle.std.proofs.Common.{◌∙◌}
use Rattle.attach_map.proofs.TableLemmas.{pushed}
use Rattle.attach_map.proofs.calls.Calls.push.Goals as goal

pub invariant_of-self-2 : goal.invariant_of-self-2
invariant_of-self-2 c =
    let is = c.in_ok-insert.ensures.entries ∙ pushed c.row_laws.ensures _ c.args.call c.args.waiting (rw c.self.view_is c.requires) in
    rw is (c.row_laws.ensures.put_ascends _ c.args.call c.args.waiting c.self.invariant)

pub returns-clause-ok : goal.returns-clause-ok
returns-clause-ok c =
    rw (← c.self.view_is) (c.in_ok-insert.ensures.entries ∙ pushed c.row_laws.ensures _ c.args.call c.args.waiting (rw c.self.view_is c.requires))
