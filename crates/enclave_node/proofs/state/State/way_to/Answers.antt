use Rattle.std.proofs.Common.{◌≡◌, None, Some, refl, sym, ap, ◌∙◌}
use Rattle.xm_num.specs.declared.Neighbour.{Neighbour}
use Rattle.route_learn.specs.declared.Way.{Way}
use Rattle.route_learn.specs.declared.Way.TheVariants as ways
use Rattle.enclave_node.proofs.WayLemmas.{over_of, way_to_seen}
use Rattle.enclave_node.proofs.state.State.way_to.Goals as goal

pub returns-in-Over : goal.returns-in-Over
returns-in-Over g c =
    let told = way_to_seen _ c.args.self.now c.self.inside.routes c.args.of c.way.result c.self.view_is refl c.way.ensures.way in
    ap Some c.enclave_of.ensures ∙ ap (over_of c.self.inside.parent) (sym c.in-Over.is) ∙ told

pub returns-in_default : goal.returns-in_default
returns-in_default g c =
    let told = way_to_seen _ c.args.self.now c.self.inside.routes c.args.of c.way.result c.self.view_is refl c.way.ensures.way in
    by c.way.result c.in_default.not-Over ∙ told
  where
    by : (way : Way) → ((n : Neighbour) → way ≡ ways.Over n → ⊥) → None ≡ over_of c.self.inside.parent way
    by ways.Own other = refl
    by (ways.Over n) other = absurd (other n refl)
    by ways.Unknown other = refl
