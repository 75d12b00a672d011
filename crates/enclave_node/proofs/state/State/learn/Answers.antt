use Rattle.std.proofs.Common.{Some, option_map, refl, sym, ap, ◌∙◌}
use Rattle.enclave_node.specs.Sides.{enclave_of}
use Rattle.enclave_node.proofs.WayLemmas.{back_at, learned_seen}
use Rattle.enclave_node.proofs.state.State.learn.Goals as goal

pub returns-in_default-clause-over : goal.returns-in_default-clause-over
returns-in_default-clause-over g c =
    let found = back_at _ c.args.self.now c.self.inside.routes c.args.of c.in_ok-over.field-0 c.self.view_is refl c.in_ok-over.ensures.over in
    ap (option_map (enclave_of c.self.inside.parent)) (sym c.in_default.is) ∙ found

pub returns-in_default-clause-after : goal.returns-in_default-clause-after
returns-in_default-clause-after g c = learned_seen _ c.args.self.now c.self.inside.routes c.learn.new.self c.args.of c.self.view_is refl c.in_ok-over.ensures.after

pub returns-clause-over : goal.returns-clause-over
returns-clause-over g c =
    let found = back_at _ c.args.self.now c.self.inside.routes c.args.of c.in_ok-over.field-0 c.self.view_is refl c.in_ok-over.ensures.over in
    ap Some c.enclave_of.ensures ∙ ap (option_map (enclave_of c.self.inside.parent)) (sym c.in-Some.is) ∙ found

pub returns-clause-after : goal.returns-clause-after
returns-clause-after g c = learned_seen _ c.args.self.now c.self.inside.routes c.learn.new.self c.args.of c.self.view_is refl c.in_ok-over.ensures.after
