use Rattle.std.proofs.Common.{◌∙◌, ap, sym, subst}
use Rattle.std.specs.Prelude.{List}
use Rattle.xm_num.specs.declared.Block.{Block}
use Rattle.enclave_node.specs.Layout.{AreTied}
use Rattle.enclave_rules.specs.Pages.{frames_of}
use Rattle.enclave_node.proofs.TiedLemmas.{frames_ascend, new_tied}
use Rattle.enclave_node.proofs.memory.Memory.new.Goals as goal

pub new-requires : goal.new-requires
new-requires g c =
    frames_ascend c.args.blocks c.as_slice-2.result.now c.requires (c.as_slice-2.ensures ∙ c.in_ok-frames.ensures ∙ ap frames_of c.as_slice.ensures)

pub invariant_of-result : goal.invariant_of-result
invariant_of-result g c =
    subst (λ (blocks : List Block). AreTied blocks c.in_ok-exporter.exporter c.in_ok-new.field-0) (sym c.blocks-2.view_is)
    (new_tied c.args.blocks c.as_slice-2.result.now c.in_ok-exporter.exporter c.in_ok-new.field-0 c.requires (c.as_slice-2.ensures ∙ c.in_ok-frames.ensures ∙ ap frames_of c.as_slice.ensures)
    c.in_ok-exporter.ensures c.in_ok-new.ensures)
