use Rattle.std.proofs.Common.{sym, ap, ◌∙◌, ◌++◌, ◌∷◌, []}
use Rattle.enclave_node.proofs.PoolLemmas.{states_step}
use Rattle.enclave_node.proofs.host.show_pool.Goals as goal

pub loop-number-preserved : goal.loop-number-preserved
loop-number-preserved c =
    let out = c.loop-number.out in
    let more = c.in_ok-push.ensures.ok ∙ ap (λ l. out ++ l ∷ []) c.state_line.ensures in
    states_step out c.push.new.self c.args.pool.now c.loop-number.number _ (sym c.state.ensures.state ∙ c.unwrap-state.ensures) more ∙ c.loop-number.invariant
