use Rattle.std.proofs.Common.{◌≤◌, length, min, ap, ◌∙◌, arith}
use Rattle.byte_link.proofs.Rows.{laid_taken}
use Rattle.byte_link.proofs.Steps.{waits, taken_shown}
use Rattle.byte_link.proofs.Link.take.Goals as goal

pub invariant_of-self : goal.invariant_of-self
invariant_of-self c =
    let within : c.min-count.result ≤ length c.self.inside.bytes = omega arith in
    rw (c.forget_front.ensures, c.take_front.ensures.rest) (laid_taken _ _ _ _ within c.self.invariant)

pub returns-clause-count : goal.returns-clause-count
returns-clause-count c =
    let all = ap length (waits _ _ _ _ _ c.self.view_is c.self.invariant) in
    rw all (c.min-count.ensures ∙ ap (λ n. min (length c.args.into.now) n) c.len.ensures)

pub returns-clause-out : goal.returns-clause-out
returns-clause-out c = rw (waits _ _ _ _ _ c.self.view_is c.self.invariant) c.take_front.ensures.moved

pub returns-clause-rest : goal.returns-clause-rest
returns-clause-rest c =
    let within : c.min-count.result ≤ length c.self.inside.bytes = omega arith in
    rw (c.forget_front.ensures, c.take_front.ensures.rest) (taken_shown _ _ _ _ _ c.min-count.result c.self.view_is within)
