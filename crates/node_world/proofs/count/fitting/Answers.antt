use mir.Val.{bool_byte}
use Rattle.std.proofs.Common.{◌≡◌, ◌+◌, ◌<◌, ◌≤◌, ℕ, Bool, true, false, refl, ap, ◌∙◌, arith}
use Rattle.global_model.specs.Journals.{is_delivery}
use Rattle.node_world.specs.World.{most_deliveries}
use Rattle.node_world.proofs.Words.{made_by, words-more, deliveries-more}
use Rattle.node_world.proofs.count.fitting.Goals as goal

byte_is : (b : Bool) → bool_byte b ≡ made_by b
byte_is true = refl
byte_is false = refl

fits : (b : Bool) (count more : ℕ) → more ≡ made_by b → count ≤ most_deliveries → (b ≡ true → count < most_deliveries) → count + more ≤ most_deliveries
fits true count more is most below = let lt = below refl in omega (arith, is, lt)
fits false count more is most below = omega (arith, is, most)

pub loop-count-preserved : goal.loop-count-preserved
loop-count-preserved c =
    let words = words-more c.loop-count.count c.args.lines.now c.index-lines-count.result c.loop-count-test.true c.index-lines-count.is in
    let made = deliveries-more c.loop-count.count c.args.lines.now c.index-lines-count.result c.loop-count-test.true c.index-lines-count.is in
    let share : c.from-deliveries.result ≡ made_by (is_delivery c.index-lines-count.result) = c.from-deliveries.ensures ∙ byte_is c.is_delivery.result ∙ ap made_by c.is_delivery.ensures in
    record {
      words = omega (arith, words, c.word_count-words.ensures, c.loop-count.invariant.words);
      deliveries = omega (arith, made, share, c.loop-count.invariant.deliveries);
      words_fit = omega (arith, c.word_count-words.ensures, c.in_default.ensures.words refl);
      deliveries_fit = fits (is_delivery c.index-lines-count.result) c.loop-count.deliveries _ share c.loop-count.invariant.deliveries_fit (c.in_default.ensures.deliveries refl);
    }
