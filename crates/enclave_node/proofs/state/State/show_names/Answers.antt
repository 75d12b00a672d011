use Rattle.std.proofs.Common.{◌∙◌, ◌++◌, ◌∷◌, [], sym, ap, append-nil}
use Rattle.xemem_language.specs.declared.line.Line.TheVariants as lines
use Rattle.enclave_rules.specs.Segments.{name_rows}
use Rattle.enclave_node.proofs.RowLemmas.{from_zero, none_from}
use Rattle.enclave_node.proofs.NameLemmas.{name_told}
use Rattle.enclave_node.proofs.state.State.show_names.Goals as goal

pub loop-number-init : goal.loop-number-init
loop-number-init g c = ap (λ rows. c.args.out.now ++ name_rows rows) (from_zero c.args.self.now.names.pairs)

pub loop-number-preserved : goal.loop-number-preserved
loop-number-preserved g c =
    name_told c.args.self.now.names.pairs c.loop-number.from c.in-Some.number c.in-Some.owner c.loop-number.out c.push.new.self _
    c.in-Some.ensures.ascending c.in-Some.ensures.next c.in-Some.ensures.owner (c.in_ok-push.ensures.ok ∙ ap (λ segid. c.loop-number.out ++ lines.Name segid c.in-Some.owner ∷ []) c.segid_of.ensures) c.loop-number.invariant

pub returns : goal.returns
returns g c =
    let pairs = c.args.self.now.names.pairs in
    let none = none_from pairs c.loop-number.from c.in_default.ensures.next in
    sym (append-nil c.loop-number.out) ∙ ap (λ rows. c.loop-number.out ++ name_rows rows) (sym none) ∙ c.loop-number.invariant
