use Rattle.std.proofs.Common.{◌<◌, length, min, refl, sym, ap, ◌∙◌, arith}
use Rattle.byte_link.proofs.Steps.{waits, boundary_shown, first_positive, none_within}
use Rattle.byte_link.proofs.Link.to_boundary.Goals as goal

pub returns-in-Some-clause-value : goal.returns-in-Some-clause-value
returns-in-Some-clause-value c =
    let some = c.in-Some.ensures.variant.0 refl in
    let many : 0 < length c.self.inside.lengths.items = (let long = c.self.inside.lengths.ok.0 in omega (arith, some)) in
    let boundary = boundary_shown _ _ _ _ _ c.in-Some.length.now c.self.view_is c.self.invariant many c.in-Some.ensures.lookup in
    let least = c.min.ensures ∙ ap (λ n. min c.in-Some.length.now n) c.len.ensures in
    least ∙ sym boundary

pub returns-in-Some-clause-none : goal.returns-in-Some-clause-none
returns-in-Some-clause-none c =
    let some = c.in-Some.ensures.variant.0 refl in
    let many : 0 < length c.self.inside.lengths.items = (let long = c.self.inside.lengths.ok.0 in omega (arith, some)) in
    let filled = first_positive _ _ _ c.in-Some.length.now c.self.invariant many c.in-Some.ensures.lookup in
    let least = c.min.ensures ∙ ap (λ n. min c.in-Some.length.now n) c.len.ensures in
    none_within _ _ _ _ (waits _ _ _ _ _ c.self.view_is c.self.invariant) filled least
