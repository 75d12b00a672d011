use Rattle.std.proofs.Common.{length}
use Rattle.xemem_wire.proofs.fields.+fields_fault.Given as goal

abbrev pub decreases-fields_fault : goal.decreases-fields_fault
decreases-fields_fault l = length l.fields.now
