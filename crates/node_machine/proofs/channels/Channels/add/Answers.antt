use Rattle.std.proofs.Common.{sym, ap, subst, arith, length, List}
use Rattle.node_machine.specs.declared.pair.Pair.{Pair}
use Rattle.node_machine.specs.Index.{IsIndex}
use Rattle.node_machine.proofs.IndexLemmas.{index_added}
use Rattle.node_machine.proofs.channels.Channels.add.Goals as goal

pub invariant_of-self-2 : goal.invariant_of-self-2
invariant_of-self-2 c =
    let keys = c.self.inside.waiting.keys in
    let pairs = c.self.inside.pairs.items in
    let size = ap (λ (pairs : List Pair). length pairs) c.self.view_is in
    subst (IsIndex keys) (sym c.in_ok-push.ensures.items) (index_added keys pairs c.args.pair c.self.invariant (omega (arith, size, c.requires.few)) c.requires.up c.requires.down)
