use Rattle.std.proofs.Common.{◌<◌, length, arith}
use Rattle.frame_pool.proofs.LentLemmas.{behind-last}
use Rattle.frame_pool.proofs.states.low_behind.Goals as goal

pub returns-in-Some : goal.returns-in-Some
returns-in-Some c =
    let item = c.in-Some.ensures.item in
    let some : 0 < length c.args.blocks.now = grind (arith, item.0) in
    behind-last c.args.blocks.now c.args.low c.in-Some.last.now some item.1
