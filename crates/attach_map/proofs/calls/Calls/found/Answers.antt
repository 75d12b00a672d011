use Rattle.std.proofs.Common.{ap}
use Rattle.attach_map.specs.declared.Pending.{Pending}
use Rattle.attach_map.specs.declared.Waiting.{Waiting}
use Rattle.attach_map.specs.Attaching.{with_owner}
use Rattle.attach_map.proofs.TableLemmas.{changed, missed}
use Rattle.attach_map.proofs.KeptLemmas.{looks_some}
use Rattle.attach_map.proofs.calls.Calls.found.Goals as goal

pub unreachable-requires : goal.unreachable-requires
unreachable-requires c = missed _ c.args.call (looks_some _ (rw c.self.view_is c.requires)) c.in-None.ensures.value

pub returns : goal.returns
returns c =
    let was = c.in-Some.waiting.now in
    let with_what : Pending → Waiting = λ what. record was { what = what } in
    let w = with_what c.to_owner_of-waiting.result in
    rw (← c.self.view_is)
    (changed c.row_laws.ensures _ _ c.args.call was w c.in-Some.ensures.value (c.get_mut.follows.holds w) (with_owner c.args.owner) c.self.invariant (ap with_what c.to_owner_of-waiting.ensures))
