use Rattle.std.proofs.Common.{refl, sym, subst}
use Rattle.std.specs.Prelude.{IsSome}
use Rattle.xm_num.specs.Rows.{at, put_all}
use Rattle.page_table.specs.Spaces.{owned}
use Rattle.attach_map.specs.Attaching.{AttacherState}
use Rattle.attach_map.specs.Numbers.{IsSeated, AreHeld}
use Rattle.attach_map.specs.Seats.{with_own_pages}
use Rattle.attach_map.proofs.TableLemmas.{on_ok}
use Rattle.attach_map.proofs.KeptLemmas.{change_is, paged_kept, paged_seen, pages_seen, lives_kept, either}
use Rattle.attach_map.proofs.HeldLemmas.{held_put}
use Rattle.attach_map.proofs.attacher.Attacher.own.Goals as goal

pub own-requires-clause-lives : goal.own-requires-clause-lives
own-requires-clause-lives g c = let lives = lives_kept c.self.inside.processes c.args.pid.0 (subst (λ (s : AttacherState). IsSome (at s.processes c.args.pid.0)) (sym c.self.view_is) c.requires.lives) in lives

pub invariant_of-self : goal.invariant_of-self
invariant_of-self g c =
    let lives = lives_kept c.self.inside.processes c.args.pid.0 (subst (λ (s : AttacherState). IsSome (at s.processes c.args.pid.0)) (sym c.self.view_is) c.requires.lives) in
    let s = c.self.inside in
    let f = with_own_pages c.args.at.0 c.args.frames.now in
    either c.own.result c.own.ensures.ok c.own.ensures.err
    (λ changes.
    let change = change_is f s.processes c.args.pid.0 c.own.new.self lives changes in (
      paged_kept c.table_laws.ensures.seats _ _ _ _ c.self.invariant.0 c.own.new.self c.args.pid.0 f (λ seat. refl) change,
      held_put s.processes s.issued s.calls s.permits c.self.invariant.1 c.table_laws.ensures.seats c.own.new.self c.args.pid.0 (f change.v) change.is,
    ))
    (λ same. subst (λ seats. IsSeated s.started seats s.issued s.calls × AreHeld seats s.issued s.calls s.permits) (sym same) c.self.invariant)

pub returns-clause-ok : goal.returns-clause-ok
returns-clause-ok g c =
    let lives = lives_kept c.self.inside.processes c.args.pid.0 (subst (λ (s : AttacherState). IsSome (at s.processes c.args.pid.0)) (sym c.self.view_is) c.requires.lives) in
    let f = with_own_pages c.args.at.0 c.args.frames.now in
    rw (← c.self.view_is)
    (on_ok c.own.result
    (λ changes. paged_seen _ _ c.self.inside.processes _ _ c.own.new.self c.args.pid.0 (λ pages. put_all pages c.args.at.0 (owned c.args.frames.now)) (change_is f c.self.inside.processes c.args.pid.0 c.own.new.self lives changes))
    c.own.ensures.ok)

pub returns-clause-taken : goal.returns-clause-taken
returns-clause-taken g c =
    let seen = pages_seen c.self.inside.permits c.self.inside.started c.self.inside.processes c.self.inside.issued c.self.inside.calls c.self.inside.processes c.args.pid.0 in
    rw (← c.self.view_is, seen) c.own.ensures.taken
