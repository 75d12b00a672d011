use Rattle.std.proofs.Common.{◌≡◌, ◌+◌, ◌-◌, ◌++◌}
use Rattle.enclave_rules.specs.Exports.{region_frames}
use Rattle.enclave_rules.specs.Segments.{are_own_pages}
use Rattle.enclave_node.proofs.spaces.own_frames.Given as goal

abbrev pub invariant-loop-i : goal.invariant-loop-i
invariant-loop-i g l = record {
  frames : l.frames ++ region_frames (g.A.AddressSpace.pages l.space) (l.first.0 + l.i) (l.n - l.i) ≡ region_frames (g.A.AddressSpace.pages l.space) l.first.0 l.n;
  own : are_own_pages (g.A.AddressSpace.pages l.space) (l.first.0 + l.i) (l.n - l.i) ≡ are_own_pages (g.A.AddressSpace.pages l.space) l.first.0 l.n;
}
