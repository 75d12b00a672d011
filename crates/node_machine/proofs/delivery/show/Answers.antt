use Rattle.std.proofs.Common.{◌≡◌, ◌∙◌, ◌++◌, ◌∷◌, [], ap, sym, take, drop, append_assoc, arith}
use Rattle.byte_link.specs.Channel.{waiting_bytes}
use Rattle.xemem_language.specs.declared.line.Line.TheVariants as lines
use Rattle.node_machine.proofs.ByteLemmas.{lines_from, lines_from-more}
use Rattle.node_machine.proofs.delivery.show.Goals as goal

pub loop-at-preserved : goal.loop-at-preserved
loop-at-preserved c =
    let bytes = waiting_bytes c.args.link.now in
    let line = lines.Bytes c.args.from c.args.to c.loop-at.at (take 32 (drop c.loop-at.at bytes)) in
    let left = lines_from c.args.from c.args.to c.saturating_add-at.result bytes in
    let more = lines_from-more c.args.from c.args.to c.loop-at.at c.saturating_add-at.result bytes (omega arith) (omega arith) c.saturating_add-at.ensures in
    let out : c.push.new.self ≡ c.loop-at.out ++ line ∷ [] = c.in_ok-push.ensures.ok ∙ ap (λ bs. c.loop-at.out ++ lines.Bytes c.args.from c.args.to c.loop-at.at bs ∷ []) c.in_ok-bytes.ensures in
    ap (λ ls. ls ++ left) out ∙ append_assoc c.loop-at.out (line ∷ []) left ∙ ap (λ ls. c.loop-at.out ++ ls) (sym more) ∙ c.loop-at.invariant
