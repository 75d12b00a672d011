use Rattle.std.proofs.Common.{◌≡◌, drop}
use Rattle.enclave_node.specs.Estates.{HasAll, freed}
use Rattle.enclave_node.proofs.memory.free_all.Given as goal

abbrev pub invariant-loop-frame : goal.invariant-loop-frame
invariant-loop-frame l = record {
  has : HasAll l.exporter.owners l.pid.0 (drop l.frame-index l.frames);
  left : freed (drop l.frame-index l.frames) l.exporter ≡ freed l.frames l.initial.exporter;
}
