use Rattle.std.proofs.Common.{refl, ap, ◌∙◌, eq-eqb}
use Rattle.std.specs.Prelude.{Some, if◌then◌else◌}
use Rattle.xm_num.specs.Rows.{at}
use Rattle.enclave_node.proofs.state.State.on_register.Goals as goal

pub admit-requires : goal.admit-requires
admit-requires g c =
    let k = c.args.rec.origin.0 in
    let backs = c.args.self.now.ways.backs in
    ap (λ v. at v.ways.backs k) c.in_ok-back.ensures ∙ c.rows.ensures.put backs k k c.args.from ∙ ap (λ b. if b then Some c.args.from else at backs k) (eq-eqb k k refl)
