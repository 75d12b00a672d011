use Rattle.node_machine.proofs.Hops.{up_is, down_is, is_up, is_down}
use Rattle.node_machine.proofs.laws.hops_are_pairs.Goals as goal

pub returns : goal.returns
returns c = record { up = up_is; down = down_is; to_up = is_up; to_down = is_down }
