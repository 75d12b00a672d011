use Rattle.std.proofs.Common.{◌+◌, drop, get_or, sym, ap, ◌∙◌, arith}
use Rattle.std.proofs.lemmas.List.{drop_more, drop_all}
use Rattle.frame_pool.specs.Blocks.{with_lent}
use Rattle.frame_pool.proofs.LentLemmas.{lend_from-nil, lend_from-first}
use Rattle.frame_pool.proofs.states.lend_states.Goals as goal

pub loop-block-preserved : goal.loop-block-preserved
loop-block-preserved c =
    let i = c.loop-block.block-index in
    let blocks = c.args.blocks.now in
    let block = get_or blocks i (record { 0 = 0 }) in
    let step = lend_from-first 0 block.0 block (drop (i + 1) blocks) c.args.to c.loop-block.states (omega arith) in
    let more = drop_more blocks i (record { 0 = 0 }) (omega arith) in
    step ∙ ap (λ blocks. with_lent blocks c.args.to c.loop-block.states) (sym more) ∙ c.loop-block.invariant

pub returns : goal.returns
returns c =
    let blocks = c.args.blocks.now in
    let none = drop_all c.loop-block.block-index blocks (omega arith) in
    sym (lend_from-nil 0 c.args.to c.loop-block.states) ∙ ap (λ blocks. with_lent blocks c.args.to c.loop-block.states) (sym none) ∙ c.loop-block.invariant
