use Rattle.std.proofs.Common.{◌≡◌, ◌++◌, ◌∷◌, [], ◌||◌, ◌∙◌, ap, sym, arith, cond, true}
use Rattle.std.specs.Prelude.{List, is_ok, slice_index_or, slice_set}
use Rattle.std.proofs.lemmas.Grind.{common_steps}
use Rattle.std.proofs.lemmas.Result.{on_ok_weaker}
use Rattle.xm_num.specs.declared.Enclave.{Enclave}
use Rattle.enclave_rules.specs.Steps.{birth_lines}
use Rattle.enclave_node.specs.Nodes.{NodeView, new_node}
use Rattle.node_machine.specs.declared.pair.Pair.{Pair}
use Rattle.node_machine.specs.Machine.{MachineView, holder_after}
use Rattle.node_machine.proofs.BearLemmas.{node_read, node_before, pair_is, borne_with, borne_are, birth_is}
use Rattle.node_machine.proofs.machine.Machine.bear.Goals as goal

pub returns : goal.returns
returns c =
    let args = c.args in
    let m = args.self.now in
    let at = args.parent.0 in
    let born = c.in_ok-node.node in
    let items : c.reserve.new.self.items ≡ m.nodes = c.reserve.ensures.items ∙ ap (λ (m : MachineView). m.nodes) c.self.view_is in
    let ok : is_ok c.push.result ≡ true = grind (arith, common_steps) in
    let pushed : c.push.new.self.items ≡ m.nodes ++ born ∷ [] = c.push.ensures.items ∙ ap (λ b. cond b (c.reserve.new.self.items ++ born ∷ []) c.reserve.new.self.items) ok ∙ ap (λ xs. xs ++ born ∷ []) items in
    let before = node_read m.nodes at c.index.result.now c.requires.born (c.index.ensures ∙ ap (λ xs. slice_index_or xs at c.index.result.now) items) in
    let node = c.index_mut.result.now in
    let parent = node_before m.nodes born at node c.requires.born (c.index_mut.ensures.value ∙ ap (λ xs. slice_index_or xs at node) pushed) in
    let heard : c.heard.result.now ≡ node.view.core.heard = c.heard.ensures.heard ∙ ap (λ n. n.view.core.heard) (before ∙ sym parent) in
    let told : c.boot.new.out ≡ args.out.now ++ birth_lines args.child args.kind args.parent args.blocks.now args.ns node.view.core.heard =
    c.in_ok-node.ensures.lines ∙ ap (λ bs. args.out.now ++ birth_lines args.child args.kind args.parent bs args.ns c.heard.result.now) c.as_slice.ensures
    ∙ ap (λ es. args.out.now ++ birth_lines args.child args.kind args.parent args.blocks.now args.ns es) heard in
    let made : born ≡ new_node args.child args.kind args.parent args.blocks.now args.ns node.view.core.heard =
    c.in_ok-node.ensures.made ∙ ap (λ bs. new_node args.child args.kind args.parent bs args.ns c.heard.result.now) c.as_slice.ensures
    ∙ ap (new_node args.child args.kind args.parent args.blocks.now args.ns) heard in
    let pair = c.in_ok-pair.pair in
    let paired = pair_is pair args.parent c.in_ok-pair.ensures.0 c.in_ok-pair.ensures.1 c.in_ok-pair.ensures.2 in
    let pairs : c.add.new.self ≡ m.pairs ++ pair ∷ [] = c.in_ok-add.ensures ∙ ap (λ (m : MachineView). m.pairs ++ pair ∷ []) c.self.view_is in
    let kept : record { pool = c.self.inside.pool; server = c.self.inside.server || args.ns; holder = c.holder_after-self-inside.result; starts = c.self.inside.starts; nodes = slice_set c.push.new.self.items at c.adopt.new.self; pairs = c.add.new.self }
    ≡ borne_with m args.child args.kind args.parent args.blocks.now args.ns node parent (slice_set (m.nodes ++ born ∷ []) at c.adopt.new.self) (m.pairs ++ pair ∷ []) =
    ap (λ (e : Enclave). record { pool = c.self.inside.pool; server = c.self.inside.server || args.ns; holder = e; starts = c.self.inside.starts; nodes = slice_set c.push.new.self.items at c.adopt.new.self; pairs = c.add.new.self }) c.holder_after-self-inside.ensures
    ∙ ap (λ (m : MachineView). record m { server = m.server || args.ns; holder = holder_after m args.child args.ns; nodes = slice_set c.push.new.self.items at c.adopt.new.self; pairs = c.add.new.self }) c.self.view_is
    ∙ ap (λ (nodes : List NodeView). record m { server = m.server || args.ns; holder = holder_after m args.child args.ns; nodes = slice_set nodes at c.adopt.new.self; pairs = c.add.new.self }) pushed
    ∙ ap (λ (pairs : List Pair). record m { server = m.server || args.ns; holder = holder_after m args.child args.ns; nodes = slice_set (m.nodes ++ born ∷ []) at c.adopt.new.self; pairs = pairs }) pairs in
    record {
      lines = on_ok_weaker c.adopt.result (borne_are m args.child args.kind args.parent args.blocks.now args.ns node parent args.out.now c.boot.new.out c.adopt.new.out told) c.adopt.ensures.lines;
      after = on_ok_weaker c.adopt.result (λ is. kept ∙ birth_is m args.child args.kind args.parent args.blocks.now args.ns node parent born c.adopt.new.self pair c.requires.born made is paired) c.adopt.ensures.after;
    }
