use Rattle.std.proofs.Common.{◌∙◌, refl, sym, ap}
use Rattle.std.specs.Prelude.{slice_index_or}
use Rattle.enclave_node.specs.Nodes.{NodeView}
use Rattle.node_machine.specs.Machine.{MachineView}
use Rattle.node_machine.proofs.BearLemmas.{node_read}
use Rattle.node_machine.proofs.ShowLemmas.{has_shown}
use Rattle.node_machine.proofs.machine.Machine.show.Goals as goal

pub show-requires : goal.show-requires
show-requires c =
    let m = c.args.self.now in
    let e = c.args.asked.now.enclave.0 in
    let node = c.index.result.now in
    let is = node_read m.nodes e node (c.if-not-has_node.ensures.within refl) (c.index.ensures ∙ ap (λ (m : MachineView). slice_index_or m.nodes e node) c.self.view_is) in
    has_shown node.view c.args.asked.now.enclave c.args.asked.now.show (ap (λ (n : NodeView). n.view.me) is ∙ (c.requires.ready.nodes e (sym c.has_node.ensures.has ∙ c.if-not-has_node.false)).me) c.requires.host c.requires.other
