use Rattle.std.proofs.Common.{length}
use Rattle.attach_map.proofs.processes.Processes.close.Given as goal

abbrev pub decreases-loop-process : goal.decreases-loop-process
decreases-loop-process g l = length l.map.entries
