use Rattle.std.proofs.Common.{refl}
use Rattle.attach_map.specs.Attaching.{orphaned}
use Rattle.attach_map.proofs.TableLemmas.{changed, missed}
use Rattle.attach_map.proofs.calls.Calls.orphan.Goals as goal

pub unreachable-requires : goal.unreachable-requires
unreachable-requires c = missed _ c.args.call (rw c.self.view_is c.requires) c.in-None.ensures.value

pub returns : goal.returns
returns c =
    let was = c.in-Some.waiting.now in
    let w = orphaned was in
    rw (← c.self.view_is) (changed c.row_laws.ensures _ _ c.args.call was w c.in-Some.ensures.value (c.get_mut.follows.holds w) orphaned c.self.invariant refl)
