use Rattle.std.proofs.Common.{◌≡◌, ◌*◌, ◌+◌, ◌/◌, ◌∙◌, sym, ap, arith, length, List}
use Rattle.node_machine.specs.declared.pair.Pair.{Pair}
use Rattle.node_machine.specs.Machine.{first_hop}
use Rattle.node_machine.proofs.IndexLemmas.{no_number, nothing_first, up_first, down_first}
use Rattle.node_machine.proofs.channels.Channels.first.Goals as goal

pub returns-in_err-number-clause-first : goal.returns-in_err-number-clause-first
returns-in_err-number-clause-first c =
    c.from_residual.ensures ∙ sym (nothing_first c.self.inside.waiting.keys c.self.inside.pairs.items c.self.invariant (no_number c.self.inside.waiting.keys c.in_err-number.ensures.variant.1)) ∙ ap first_hop c.self.view_is

pub returns-then-number-eq0-clause-first : goal.returns-then-number-eq0-clause-first
returns-then-number-eq0-clause-first c =
    let n = c.in_ok-number.field-0.now in
    let half : n ≡ n / 2 * 2 = omega arith in
    (up_first c.self.inside.waiting.keys c.self.inside.pairs.items c.self.invariant n (n / 2) c.in_ok-number.ensures.member c.in_ok-number.ensures.least half).0 ∙ ap first_hop c.self.view_is

pub returns-then-number-eq0-clause-within : goal.returns-then-number-eq0-clause-within
returns-then-number-eq0-clause-within c =
    let n = c.in_ok-number.field-0.now in
    let half : n ≡ n / 2 * 2 = omega arith in
    let within = (up_first c.self.inside.waiting.keys c.self.inside.pairs.items c.self.invariant n (n / 2) c.in_ok-number.ensures.member c.in_ok-number.ensures.least half).1 in
    let size = ap (λ (pairs : List Pair). length pairs) c.self.view_is in
    omega (arith, within, size)

pub returns-else-number-eq0-clause-first : goal.returns-else-number-eq0-clause-first
returns-else-number-eq0-clause-first c =
    let n = c.in_ok-number.field-0.now in
    let half : n ≡ n / 2 * 2 + 1 = omega arith in
    (down_first c.self.inside.waiting.keys c.self.inside.pairs.items c.self.invariant n (n / 2) c.in_ok-number.ensures.member c.in_ok-number.ensures.least half).0 ∙ ap first_hop c.self.view_is

pub returns-else-number-eq0-clause-within : goal.returns-else-number-eq0-clause-within
returns-else-number-eq0-clause-within c =
    let n = c.in_ok-number.field-0.now in
    let half : n ≡ n / 2 * 2 + 1 = omega arith in
    let within = (down_first c.self.inside.waiting.keys c.self.inside.pairs.items c.self.invariant n (n / 2) c.in_ok-number.ensures.member c.in_ok-number.ensures.least half).1 in
    let size = ap (λ (pairs : List Pair). length pairs) c.self.view_is in
    omega (arith, within, size)
