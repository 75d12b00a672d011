use Rattle.std.proofs.Common.{◌+◌, ℕ, ◌∙◌, sym, refl, ap, ◌++◌, ◌∷◌, [], append_assoc}
use Rattle.std.proofs.lemmas.List.FromFn.{map-range_with_len_more}
use Rattle.std.specs.List.{range_with_len}
use Rattle.xm_num.specs.declared.Frame.{Frame}
use Rattle.enclave_rules.specs.Pages.{frame_list}
use Rattle.enclave_node.proofs.frames.push_frames.Goals as goal

pub loop-i-preserved : goal.loop-i-preserved
loop-i-preserved c =
    let f : ℕ → Frame = λ n. record { 0 = n } in
    let all = c.args.frames.now in
    let i = c.loop-i.i in
    let pushed = c.in_ok-push.ensures.ok in
    let before = ap (λ xs. xs ++ f (c.args.first + i) ∷ []) c.loop-i.invariant in
    let more = map-range_with_len_more f c.args.first i _ refl in
    pushed ∙ before ∙ append_assoc all (frame_list (range_with_len c.args.first i)) (f (c.args.first + i) ∷ []) ∙ ap (λ xs. all ++ xs) (sym more)
