-- What a node answers to bytes.
use Rattle.std.specs.Prelude.{Bool, true, false, Result, Ok, Err}
use Rattle.enclave_node.specs.declared.node.NodeFault.{NodeFault}
use Rattle.enclave_node.specs.declared.node.NodeFault.TheVariants as faults

-- the answer isn't want of memory
abbrev pub handled : {T : Type 0} → Result T NodeFault → Bool
handled (Ok done) = true
handled (Err (faults.BadRecord fault place)) = true
handled (Err faults.Memory) = false
