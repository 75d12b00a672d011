use Rattle.std.proofs.Common.{◌≡◌}
use Rattle.attach_map.specs.Seats.{without_owned, seat_pages}
use Rattle.attach_map.proofs.TableLemmas.{changed, missed, its_pages}
use Rattle.attach_map.proofs.processes.Processes.disown.Goals as goal

pub disown-requires : goal.disown-requires
disown-requires g c =
    let pages : seat_pages c.args.self.now c.args.pid ≡ c.in-Some.process.now.process.pages = rw (← c.self.view_is) (its_pages _ c.args.pid c.in-Some.process.now c.in-Some.ensures.value) in
    rw (← pages) c.requires.own

pub unreachable-requires : goal.unreachable-requires
unreachable-requires g c = missed _ c.args.pid (rw c.self.view_is c.requires.lives) c.in-None.ensures.value

pub returns : goal.returns
returns g c =
    rw (← c.self.view_is)
    (changed c.row_laws.ensures _ _ c.args.pid c.in-Some.process.now c.disown.new.self c.in-Some.ensures.value (c.get_mut.follows.holds c.disown.new.self) (without_owned c.args.at.0 c.args.n) c.self.invariant c.disown.ensures)
