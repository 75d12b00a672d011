use Rattle.std.proofs.Common.{ap, ◌∙◌, ◌++◌, ◌*◌}
use Rattle.std.specs.List.{range_with_len}
use Rattle.enclave_rules.specs.Pages.{block_frames, frame_list}
use Rattle.enclave_node.proofs.ListLemmas.{flat_map-step}
use Rattle.enclave_node.proofs.frames.all_frames.Goals as goal

pub loop-block-preserved : goal.loop-block-preserved
loop-block-preserved c =
    let frames = c.loop-block.frames in
    let pushed = c.in_ok-push_frames.ensures ∙ ap (λ b. frames ++ frame_list (range_with_len (64 * b) 64)) c.from-first.ensures in
    flat_map-step block_frames c.args.blocks.now c.loop-block.block-index _ frames c.push_frames.new.frames c.loop-block-test.true pushed ∙ c.loop-block.invariant
