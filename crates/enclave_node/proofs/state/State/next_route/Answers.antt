use Rattle.std.proofs.Common.{None, Some, option_map, refl, ap, ◌∙◌}
use Rattle.xm_num.specs.declared.Enclave.{Enclave}
use Rattle.enclave_node.proofs.WayLemmas.{next_seen, route_at, routes_ascend, routes_number}
use Rattle.enclave_node.proofs.state.State.next_route.Goals as goal

pub returns-in_err-of-clause-next : goal.returns-in_err-of-clause-next
returns-in_err-of-clause-next g c =
    ap (option_map (λ (route : Enclave × Enclave). route.0.0)) c.from_residual.ensures ∙ next_seen _ c.args.self.now c.self.inside.routes c.args.from None c.self.view_is refl c.in_err-of.ensures.next

pub returns-in_err-of-clause-ascending : goal.returns-in_err-of-clause-ascending
returns-in_err-of-clause-ascending g c = routes_ascend _ c.args.self.now c.self.inside.routes c.self.view_is refl c.in_err-of.ensures.ascending

pub returns-in_err-of-clause-numbers : goal.returns-in_err-of-clause-numbers
returns-in_err-of-clause-numbers g c = routes_number _ c.args.self.now c.self.inside.routes c.self.view_is refl c.in_err-of.ensures.numbers

pub returns-clause-next : goal.returns-clause-next
returns-clause-next g c = next_seen _ c.args.self.now c.self.inside.routes c.args.from (Some c.in_ok-of.of.0) c.self.view_is refl c.in_ok-of.ensures.next

pub returns-clause-over : goal.returns-clause-over
returns-clause-over g c = route_at _ c.args.self.now c.self.inside.routes c.in_ok-of.of.0 c.in_ok-of.over c.enclave_of.result c.self.view_is refl c.in_ok-of.ensures.over c.enclave_of.ensures

pub returns-clause-ascending : goal.returns-clause-ascending
returns-clause-ascending g c = routes_ascend _ c.args.self.now c.self.inside.routes c.self.view_is refl c.in_ok-of.ensures.ascending

pub returns-clause-numbers : goal.returns-clause-numbers
returns-clause-numbers g c = routes_number _ c.args.self.now c.self.inside.routes c.self.view_is refl c.in_ok-of.ensures.numbers
