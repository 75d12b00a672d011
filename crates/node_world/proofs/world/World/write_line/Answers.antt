use Rattle.std.proofs.Common.{◌≡◌, ◌∷◌, [], Some, refl, ap, sym, ◌∙◌, subst, arith}
use Rattle.node_world.specs.World.{IsStopped}
use Rattle.node_world.proofs.Stops.{stopped_first, one_more, failed_keeps}
use Rattle.node_world.proofs.world.World.write_line.Goals as goal

pub returns-in-Some-clause-stopped : goal.returns-in-Some-clause-stopped
returns-in-Some-clause-stopped c which is =
    let journal = ap (λ w. w.journal) c.self.view_is in
    let same : Some c.in-Some.which ≡ Some which = cc in
    subst (λ j. IsStopped which j (c.args.line ∷ []) j) journal
    (stopped_first which c.self.inside.journal c.args.line c.self.inside.words c.self.inside.deliveries (c.in-Some.ensures.passes which same) c.self.invariant.words c.self.invariant.deliveries c.self.invariant.short)

pub invariant_of-self-2 : goal.invariant_of-self-2
invariant_of-self-2 c =
    let more = one_more c.self.inside.journal c.push.new.self c.args.line c.in_ok-push.ensures.ok c.requires.still in
    let words = more.0 in
    let made = more.1 in
    let short = c.self.invariant.short.deliveries in
    failed_keeps c.self.inside.machine c.push.new.self c.self.inside.progress _ c.self.inside.deliveries (ap (λ w. w.progress) c.self.view_is ∙ c.requires.failed)
    (omega (arith, words, c.word_count-words.ensures, c.self.invariant.words)) (c.self.invariant.deliveries ∙ sym made)
    (omega (arith, c.word_count-words.ensures, c.in_default.ensures.words refl)) (omega (arith, c.self.invariant.deliveries, short))
