use Rattle.std.proofs.Common.{◌≡◌, drop}
use Rattle.xemem_wire.specs.Spelling.{AreValid}
use Rattle.node_machine.specs.Links.{sent_in}
use Rattle.node_machine.specs.Machine as spec
use Rattle.node_machine.proofs.machine.Machine.carry.Given as goal

-- what the lines that are left send, carried to the channels so far, gives what all send; these records are valid
abbrev pub invariant-loop-line : goal.invariant-loop-line
invariant-loop-line l = record {
  carried : spec.with_carried l.self (drop l.line-index l.lines) ≡ spec.with_carried l.fn.self l.lines;
  valid : AreValid (sent_in (drop l.line-index l.lines));
}
