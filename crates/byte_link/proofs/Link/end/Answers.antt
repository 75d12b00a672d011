use Rattle.std.proofs.Common.{length, min, ap, ◌∙◌}
use Rattle.byte_link.proofs.Steps.{waits, ended_shown}
use Rattle.byte_link.proofs.Link.end.Goals as goal

pub returns-clause-count : goal.returns-clause-count
returns-clause-count c =
    let all = ap length (waits _ _ _ _ _ c.self.view_is c.self.invariant) in
    rw all (c.min-count.ensures ∙ ap (λ n. min c.args.cut n) c.len-waiting.ensures)

pub returns-clause-rest : goal.returns-clause-rest
returns-clause-rest c =
    rw (c.truncate.ensures, c.len-waiting.ensures) (ended_shown _ _ _ _ _ c.min-count.result c.self.view_is c.self.invariant)
