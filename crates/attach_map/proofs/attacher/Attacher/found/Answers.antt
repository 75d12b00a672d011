use Rattle.std.proofs.Common.{refl, sym, subst}
use Rattle.std.specs.Prelude.{IsTrue}
use Rattle.xm_num.specs.Rows.{at}
use Rattle.attach_map.specs.Attaching.{AttacherState, with_owner, looks_up}
use Rattle.attach_map.proofs.KeptLemmas.{change_is, found_kept, found_seen, looks_some}
use Rattle.attach_map.proofs.HeldLemmas.{held_changed}
use Rattle.attach_map.proofs.attacher.Attacher.found.Goals as goal

pub invariant_of-self : goal.invariant_of-self
invariant_of-self g c =
    let change = change_is (with_owner c.args.owner) c.self.inside.calls c.args.call.0 c.found.new.self (looks_some (at c.self.inside.calls c.args.call.0) (subst (λ (s : AttacherState). IsTrue (looks_up (at s.waiting c.args.call.0))) (sym c.self.view_is) c.requires)) c.found.ensures in
    let s = c.self.inside in (
      found_kept c.table_laws.ensures.calls _ _ _ _ c.found.new.self c.self.invariant.0 c.args.call.0 c.args.owner change,
      held_changed s.processes s.issued s.calls s.permits c.self.invariant.1 c.table_laws.ensures.calls c.found.new.self c.args.call.0 (with_owner c.args.owner change.v) (rw change.there refl) change.is,
    )

pub returns : goal.returns
returns g c =
    let change = change_is (with_owner c.args.owner) c.self.inside.calls c.args.call.0 c.found.new.self (looks_some (at c.self.inside.calls c.args.call.0) (subst (λ (s : AttacherState). IsTrue (looks_up (at s.waiting c.args.call.0))) (sym c.self.view_is) c.requires)) c.found.ensures in
    rw (← c.self.view_is) (found_seen _ _ _ _ c.self.inside.calls c.found.new.self c.args.call.0 c.args.owner change)
