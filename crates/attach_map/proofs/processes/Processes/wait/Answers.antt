use Rattle.attach_map.specs.Seats.{with_seat_call}
use Rattle.attach_map.proofs.TableLemmas.{changed, missed}
use Rattle.attach_map.proofs.processes.Processes.wait.Goals as goal

pub unreachable-requires : goal.unreachable-requires
unreachable-requires g c = missed _ c.args.pid (rw c.self.view_is c.requires) c.in-None.ensures.value

pub returns : goal.returns
returns g c =
    rw (← c.self.view_is)
    (changed c.row_laws.ensures _ _ c.args.pid c.in-Some.process.now c.wait.new.self c.in-Some.ensures.value (c.get_mut.follows.holds c.wait.new.self) (with_seat_call c.args.call) c.self.invariant c.wait.ensures)
