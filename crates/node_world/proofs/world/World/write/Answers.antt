use Rattle.std.proofs.Common.{◌≡◌, Some, ap, sym, ◌∙◌, subst, arith}
use Rattle.xemem_language.specs.Spelling.{words_in}
use Rattle.global_model.specs.Journals.{deliveries_in}
use Rattle.node_world.specs.World.{IsNextOver, IsShort, IsStopped}
use Rattle.node_world.proofs.Stops.{stopped_at, counted_more, failed_keeps}
use Rattle.node_world.proofs.world.World.write.Goals as goal

pub invariant_of-self-2 : goal.invariant_of-self-2
invariant_of-self-2 c =
    let fit = c.fitting-fit in
    let counts = counted_more c.self.inside.journal c.truncate.new.self c.as_slice.result.now c.args.fresh c.append.new.self fit.result.count c.self.inside.words c.self.inside.deliveries fit.result.words fit.result.deliveries
    c.as_slice.ensures c.truncate.ensures c.in_ok-append.ensures.ok c.self.invariant.words c.self.invariant.deliveries fit.ensures.words fit.ensures.deliveries in
    failed_keeps c.reuse.new.self c.append.new.self c.self.inside.progress fit.result.words fit.result.deliveries (ap (λ w. w.progress) c.self.view_is ∙ c.requires.failed) counts.0 counts.1 fit.ensures.words_fit fit.ensures.deliveries_fit

pub returns-clause-stopped : goal.returns-clause-stopped
returns-clause-stopped c which is =
    let fit = c.fitting-fit in
    let journal = ap (λ w. w.journal) c.self.view_is in
    let grown = c.in_ok-append.ensures.ok in
    let counts = counted_more c.self.inside.journal c.truncate.new.self c.as_slice.result.now c.args.fresh c.append.new.self fit.result.count c.self.inside.words c.self.inside.deliveries fit.result.words fit.result.deliveries
    c.as_slice.ensures c.truncate.ensures grown c.self.invariant.words c.self.invariant.deliveries fit.ensures.words fit.ensures.deliveries in
    let stop : fit.result.stop ≡ Some which = cc in
    let next = subst (IsNextOver which fit.result.words fit.result.deliveries fit.result.count) c.as_slice.ensures (fit.ensures.stopped which stop) in
    let words_fit = fit.ensures.words_fit in
    let deliveries_fit = fit.ensures.deliveries_fit in
    let words = counts.0 in
    let made = counts.1 in
    let short : IsShort c.append.new.self = record { words = omega (arith, words, words_fit); deliveries = omega (arith, made, deliveries_fit) } in
    subst (λ j. IsStopped which j c.args.fresh c.append.new.self) journal
    (subst (IsStopped which c.self.inside.journal c.args.fresh) (sym grown)
    (stopped_at which c.self.inside.journal c.args.fresh c.truncate.new.self fit.result.count fit.result.words fit.result.deliveries next c.truncate.ensures
    (words ∙ ap words_in grown) (made ∙ ap deliveries_in grown) (subst IsShort grown short)))

pub returns-clause-short : goal.returns-clause-short
returns-clause-short c is =
    let fit = c.fitting-fit in
    let counts = counted_more c.self.inside.journal c.truncate.new.self c.as_slice.result.now c.args.fresh c.append.new.self fit.result.count c.self.inside.words c.self.inside.deliveries fit.result.words fit.result.deliveries
    c.as_slice.ensures c.truncate.ensures c.in_ok-append.ensures.ok c.self.invariant.words c.self.invariant.deliveries fit.ensures.words fit.ensures.deliveries in
    let words_fit = fit.ensures.words_fit in
    let deliveries_fit = fit.ensures.deliveries_fit in
    let words = counts.0 in
    let made = counts.1 in
    record { words = omega (arith, words, words_fit); deliveries = omega (arith, made, deliveries_fit) }
