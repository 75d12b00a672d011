use Rattle.std.proofs.Common.{◌≡◌}
use Rattle.attach_map.specs.Seats.{with_own_pages, seat_pages}
use Rattle.attach_map.proofs.TableLemmas.{changed, kept, missed, its_pages, on_ok, on_err}
use Rattle.attach_map.proofs.processes.Processes.own.Goals as goal

pub unreachable-requires : goal.unreachable-requires
unreachable-requires g c = missed _ c.args.pid (rw c.self.view_is c.requires.lives) c.in-None.ensures.value

pub returns-clause-ok : goal.returns-clause-ok
returns-clause-ok g c =
    rw (← c.self.view_is)
    (on_ok c.own.result (changed c.row_laws.ensures _ _ c.args.pid c.in-Some.process.now c.own.new.self c.in-Some.ensures.value (c.get_mut.follows.holds c.own.new.self) (with_own_pages c.args.at.0 c.args.frames.now) c.self.invariant) c.own.ensures.ok)

pub returns-clause-err : goal.returns-clause-err
returns-clause-err g c =
    rw (← c.self.view_is)
    (on_err c.own.result (kept c.row_laws.ensures _ _ c.args.pid c.in-Some.process.now c.own.new.self c.in-Some.ensures.value (c.get_mut.follows.holds c.own.new.self)) c.own.ensures.err)

pub returns-clause-taken : goal.returns-clause-taken
returns-clause-taken g c =
    let pages : seat_pages c.args.self.now c.args.pid ≡ c.in-Some.process.now.process.pages = rw (← c.self.view_is) (its_pages _ c.args.pid c.in-Some.process.now c.in-Some.ensures.value) in
    rw pages c.own.ensures.taken
