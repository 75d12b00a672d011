use Rattle.std.proofs.Common.{◌≡◌, ◌≤◌, length, drop, ◌-◌}
use Rattle.xemem_wire.specs.Stream.{rest_of}
use Rattle.xemem_wire.proofs.read.rest_start.Given as goal

abbrev pub invariant-loop-length : goal.invariant-loop-length
invariant-loop-length l = record {
  order : l.from ≤ l.at;
  within : l.at ≤ length l.bytes;
  rest : rest_of (drop l.at l.bytes) ≡ rest_of (drop l.from l.bytes);
}

abbrev pub decreases-loop-length : goal.decreases-loop-length
decreases-loop-length l = length l.bytes - l.at
