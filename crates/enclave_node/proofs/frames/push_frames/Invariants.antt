use Rattle.std.proofs.Common.{◌≡◌, ◌++◌}
use Rattle.std.specs.List.{range_with_len}
use Rattle.enclave_rules.specs.Pages.{frame_list}
use Rattle.enclave_node.proofs.frames.push_frames.Given as goal

abbrev pub invariant-loop-i : goal.invariant-loop-i
invariant-loop-i l = l.frames ≡ l.initial.frames ++ frame_list (range_with_len l.first l.i)
