use Rattle.std.proofs.Common.{◌∙◌, ap, min, ◌^◌, ◌-◌}
use Rattle.xemem_language.specs.Spelling.{words_in}
use Rattle.xemem_language.proofs.CountLemmas.{counted_all}
use Rattle.xemem_language.proofs.lines.Lines.words.Goals as goal

pub returns : goal.returns
returns c =
    counted_all c.loop-line.count c.loop-line.line-index c.deref-line-items.result.now c.loop-line-test.false c.loop-line.invariant.most c.loop-line.invariant.sum
    ∙ ap (λ journal. min (words_in journal) (2 ^ 64 - 1)) (c.deref-line-items.ensures.value ∙ c.self.view_is)
