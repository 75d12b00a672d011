use Rattle.std.proofs.Common.{◌≡◌, ◌≤◌, ◌^◌, ◌∙◌, ◌+◌, ◌++◌, ◌∷◌, [], sym, ap, append-nil, arith}
use Rattle.xemem_language.specs.declared.line.Line.TheVariants as lines
use Rattle.enclave_node.specs.Sides.{learned_lines}
use Rattle.enclave_node.proofs.RowLemmas.{from_zero, none_from, none_above, next_is_above}
use Rattle.enclave_node.proofs.WayLemmas.{route_told}
use Rattle.enclave_node.proofs.state.State.show_learned.Goals as goal

pub loop-of-init : goal.loop-of-init
loop-of-init g c = ap (λ rows. c.args.out.now ++ learned_lines c.args.self.now.me rows) (from_zero c.args.self.now.ways.routes)

pub loop-of-smaller : goal.loop-of-smaller
loop-of-smaller g c = omega (arith, next_is_above c.args.self.now.ways.routes c.loop-of.number c.in-Some.of.0 c.in-Some.ensures.next)

pub loop-of-preserved : goal.loop-of-preserved
loop-of-preserved g c =
    let behind : c.in-Some-checked_add.behind ≡ c.in-Some.of.0 + 1 = c.in-Some-checked_add.ensures.1 in
    let more = c.in_ok-push.ensures.ok ∙ ap (λ v. c.loop-of.out ++ lines.AtRoute v.me c.in-Some.of c.in-Some.over ∷ []) c.self.view_is in
    rw behind (route_told c.args.self.now.me c.in-Some.of c.in-Some.over c.args.self.now.ways.routes c.loop-of.number c.loop-of.out c.push.new.self _
    c.in-Some.ensures.ascending c.in-Some.ensures.next c.in-Some.ensures.over more c.loop-of.invariant)

pub returns-in_default-checked_add : goal.returns-in_default-checked_add
returns-in_default-checked_add g c =
    let me = c.args.self.now.me in
    let routes = c.args.self.now.ways.routes in
    let more = c.in_ok-push.ensures.ok ∙ ap (λ v. c.loop-of.out ++ lines.AtRoute v.me c.in-Some.of c.in-Some.over ∷ []) c.self.view_is in
    let high : 2 ^ 16 ≤ c.in-Some.of.0 + 1 = omega (arith, c.in_default-checked_add.ensures) in
    let none = none_above c.runs.ensures.next routes (c.in-Some.of.0 + 1) c.in-Some.ensures.ascending c.in-Some.ensures.numbers high in
    sym (append-nil c.push.new.self) ∙ ap (λ rows. c.push.new.self ++ learned_lines me rows) (sym none)
    ∙ route_told me c.in-Some.of c.in-Some.over routes c.loop-of.number c.loop-of.out c.push.new.self _
    c.in-Some.ensures.ascending c.in-Some.ensures.next c.in-Some.ensures.over more c.loop-of.invariant

pub returns : goal.returns
returns g c =
    let routes = c.args.self.now.ways.routes in
    let me = c.args.self.now.me in
    let none = none_from routes c.loop-of.number c.in_default.ensures.next in
    sym (append-nil c.loop-of.out) ∙ ap (λ rows. c.loop-of.out ++ learned_lines me rows) (sym none) ∙ c.loop-of.invariant
