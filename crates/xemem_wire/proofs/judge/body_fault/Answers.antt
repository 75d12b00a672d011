use Rattle.std.proofs.Common.{arith}
use Rattle.xemem_wire.proofs.FaultLemmas.{body_fault_short}
use Rattle.xemem_wire.proofs.judge.body_fault.Goals as goal

pub returns-then-front-lt-HEADER-clause-fault : goal.returns-then-front-lt-HEADER-clause-fault
returns-then-front-lt-HEADER-clause-fault c = body_fault_short c.args.front.now (omega arith)
