use Rattle.std.proofs.Common.{◌≡◌, ◌∙◌, ◌≤◌, ap, arith, length, take}
use Rattle.std.specs.Prelude.{Err, slice_index_or}
use Rattle.byte_link.specs.Channel.{waiting_bytes}
use Rattle.xemem_wire.specs.declared.format.BadField.{BadField}
use Rattle.node_machine.specs.Machine.{MachineView, link_of, node_at}
use Rattle.node_machine.proofs.BearLemmas.{node_read}
use Rattle.node_machine.proofs.DeliveryLemmas.{never_refused}
use Rattle.node_machine.proofs.machine.Machine.take.Goals as goal

pub unreachable-requires : goal.unreachable-requires
unreachable-requires c =
    let m = c.args.self.now in
    let link = link_of m.pairs c.args.hop in
    let node = c.index_mut.result.now in
    let bad : BadField = record { fault = c.in-Err-BadRecord.field-0-0; place = c.in-Err-BadRecord.field-0-1 } in
    let refused = c.in-Err-BadRecord.ensures.bad _ _ (ap Err c.in-Err-BadRecord.field-0-is) in
    let is = node_read m.nodes c.args.to.0 node c.requires.born (c.index_mut.ensures.value ∙ ap (λ (m : MachineView). slice_index_or m.nodes c.args.to.0 node) c.self.view_is) in
    let waits = ap (λ (m : MachineView). waiting_bytes (link_of m.pairs c.args.hop)) c.self.view_is in
    let fits : c.min-count.result ≤ length (waiting_bytes link) = omega (arith, c.min-count.ensures, c.waiting-waiting.ensures, ap length waits) in
    let piece : c.deref.result.now ≡ take c.min-count.result (waiting_bytes link) = c.deref.ensures.value ∙ c.in_ok-take.ensures.bytes ∙ ap (take c.min-count.result) waits in
    never_refused c.laws.ensures link node (node_at m.nodes c.args.to.0) c.args.side c.args.from c.min-count.result c.deref.result.now bad is c.requires.flows c.requires.side fits piece refused
