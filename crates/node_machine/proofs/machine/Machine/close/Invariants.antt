use Rattle.std.proofs.Common.{vec_len}
use Rattle.node_machine.proofs.machine.Machine.close.Given as goal

abbrev pub decreases-loop-node : goal.decreases-loop-node
decreases-loop-node l = vec_len l.nodes
