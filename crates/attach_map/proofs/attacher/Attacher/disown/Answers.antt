use Rattle.std.proofs.Common.{refl, sym, subst}
use Rattle.std.specs.Prelude.{IsSome}
use Rattle.xm_num.specs.Rows.{at, less_all}
use Rattle.page_table.specs.Spaces.{AreOwn}
use Rattle.attach_map.specs.Attaching.{AttacherState, pages_in}
use Rattle.attach_map.specs.Seats.{without_owned}
use Rattle.attach_map.proofs.KeptLemmas.{change_is, paged_kept, paged_seen, pages_seen, lives_kept}
use Rattle.attach_map.proofs.HeldLemmas.{held_put}
use Rattle.attach_map.proofs.attacher.Attacher.disown.Goals as goal

pub disown-requires-clause-lives : goal.disown-requires-clause-lives
disown-requires-clause-lives g c = let lives = lives_kept c.self.inside.processes c.args.pid.0 (subst (λ (s : AttacherState). IsSome (at s.processes c.args.pid.0)) (sym c.self.view_is) c.requires.lives) in lives

pub disown-requires-clause-own : goal.disown-requires-clause-own
disown-requires-clause-own g c =
    let seen = pages_seen c.self.inside.permits c.self.inside.started c.self.inside.processes c.self.inside.issued c.self.inside.calls c.self.inside.processes c.args.pid.0 in
    rw (← seen) (subst (λ (s : AttacherState). AreOwn (pages_in s c.args.pid.0) c.args.at.0 c.args.n) (sym c.self.view_is) c.requires.own)

pub invariant_of-self : goal.invariant_of-self
invariant_of-self g c =
    let lives = lives_kept c.self.inside.processes c.args.pid.0 (subst (λ (s : AttacherState). IsSome (at s.processes c.args.pid.0)) (sym c.self.view_is) c.requires.lives) in
    let change = change_is (without_owned c.args.at.0 c.args.n) c.self.inside.processes c.args.pid.0 c.disown.new.self lives c.disown.ensures in
    let s = c.self.inside in (
      paged_kept c.table_laws.ensures.seats _ _ _ _ c.self.invariant.0 c.disown.new.self c.args.pid.0 (without_owned c.args.at.0 c.args.n) (λ s. refl) change,
      held_put s.processes s.issued s.calls s.permits c.self.invariant.1 c.table_laws.ensures.seats c.disown.new.self c.args.pid.0 (without_owned c.args.at.0 c.args.n change.v) change.is,
    )

pub returns : goal.returns
returns g c =
    let lives = lives_kept c.self.inside.processes c.args.pid.0 (subst (λ (s : AttacherState). IsSome (at s.processes c.args.pid.0)) (sym c.self.view_is) c.requires.lives) in
    let change = change_is (without_owned c.args.at.0 c.args.n) c.self.inside.processes c.args.pid.0 c.disown.new.self lives c.disown.ensures in
    rw (← c.self.view_is) (paged_seen _ _ c.self.inside.processes _ _ c.disown.new.self c.args.pid.0 (λ pages. less_all pages c.args.at.0 c.args.n) change)
