use Rattle.std.proofs.Common.{◌+◌, ◌<◌, ◌≡◌, ◌∙◌, length, arith, ap}
use Rattle.std.specs.Prelude.{min}
use Rattle.std.proofs.lemmas.List.{get_or_default}
use Rattle.page_table.specs.Hints.{hint_of}
use Rattle.page_table.proofs.Lowered.{lowers_none, lowers_one, lowers_few, lowers_many}
use Rattle.page_table.proofs.hints.Hints.lower.Goals as goal

pub loop-n-init : goal.loop-n-init
loop-n-init c = rw (← c.self.view_is) (lowers_none c.self.inside.pages.items c.args.low)

pub loop-n-preserved : goal.loop-n-preserved
loop-n-preserved c =
    let now = c.loop-n.self-inside.pages.items in
    let end : c.min-end.result ≡ min (length c.args.self.now) (c.args.most + 1) = rw (← c.self.view_is) (c.min-end.ensures ∙ ap (λ size. min size (c.args.most + 1)) (c.len.ensures ∙ c.self.inside.pages.ok.0)) in
    let within : c.loop-n.n < length now = omega (arith, end, c.loop-n-test.true, c.loop-n.invariant.size) in
    let hint : c.index.result.now ≡ hint_of now c.loop-n.n = c.index.ensures ∙ get_or_default now c.loop-n.n c.index.result.now 1 within in
    lowers_one c.args.self.now now c.args.low c.loop-n.n c.min.result c.loop-n.invariant within (c.min.ensures ∙ ap (λ hint. min hint c.args.low) hint)

pub returns-clause-few : goal.returns-clause-few
returns-clause-few c n few =
    let end : c.loop-n.n ≡ c.min-end.result = omega arith in
    let size : c.min-end.result ≡ min (length c.args.self.now) (c.args.most + 1) = rw (← c.self.view_is) (c.min-end.ensures ∙ ap (λ size. min size (c.args.most + 1)) (c.len.ensures ∙ c.self.inside.pages.ok.0)) in
    lowers_few c.args.self.now c.loop-n.self-inside.pages.items c.args.low c.args.most c.loop-n.n n c.loop-n.invariant c.requires (end ∙ size) few

pub returns-clause-many : goal.returns-clause-many
returns-clause-many c n many =
    let end : c.loop-n.n ≡ c.min-end.result = omega arith in
    let size : c.min-end.result ≡ min (length c.args.self.now) (c.args.most + 1) = rw (← c.self.view_is) (c.min-end.ensures ∙ ap (λ size. min size (c.args.most + 1)) (c.len.ensures ∙ c.self.inside.pages.ok.0)) in
    lowers_many c.args.self.now c.loop-n.self-inside.pages.items c.args.low c.args.most c.loop-n.n n c.loop-n.invariant (end ∙ size) many
