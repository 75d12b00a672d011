use Rattle.std.proofs.Common.{length}
use Rattle.xemem_wire.proofs.fields.+fields_length.Given as goal

abbrev pub decreases-fields_length : goal.decreases-fields_length
decreases-fields_length l = length l.fields.now
