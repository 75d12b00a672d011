use Rattle.std.proofs.Common.{arith}
use Rattle.std.proofs.lemmas.Grind.{common_steps}
use Rattle.byte_link.proofs.Steps.{waits}
use Rattle.byte_link.proofs.Link.at_end.Goals as goal

pub returns-then-is_empty : goal.returns-then-is_empty
returns-then-is_empty c =
    let all = waits _ _ _ _ _ c.self.view_is c.self.invariant in grind (arith, common_steps, all)

pub returns-else-is_empty : goal.returns-else-is_empty
returns-else-is_empty c =
    let all = waits _ _ _ _ _ c.self.view_is c.self.invariant in grind (arith, common_steps, all)
