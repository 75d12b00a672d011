use Rattle.std.proofs.Common.{◌≡◌, ◌++◌, drop}
use Rattle.enclave_rules.specs.Pages.{frames_of}
use Rattle.enclave_node.proofs.frames.all_frames.Given as goal

abbrev pub invariant-loop-block : goal.invariant-loop-block
invariant-loop-block l = l.frames ++ frames_of (drop l.block-index l.blocks) ≡ frames_of l.blocks
