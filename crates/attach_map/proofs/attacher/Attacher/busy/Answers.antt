use Rattle.std.proofs.Common.{◌∙◌, ap, sym, Some, None}
use Rattle.std.specs.Prelude.{option_map}
use Rattle.xm_num.specs.declared.CallNo.{CallNo}
use Rattle.attach_map.proofs.KeptLemmas.{busy_is}
use Rattle.attach_map.proofs.attacher.Attacher.busy.Goals as goal

pub returns-in_err-process : goal.returns-in_err-process
returns-in_err-process g c =
    rw (← c.self.view_is)
    (ap (option_map (λ (c : CallNo). c.0)) c.from_residual.ensures ∙ sym (busy_is c.table_laws.ensures.calls _ c.self.inside.processes _ c.self.inside.calls c.self.invariant.0 c.args.pid.0 None c.in_err-process.ensures.value))

pub returns : goal.returns
returns g c =
    rw (← c.self.view_is)
    (ap (option_map (λ (c : CallNo). c.0)) c.call.ensures ∙ sym (busy_is c.table_laws.ensures.calls _ c.self.inside.processes _ c.self.inside.calls c.self.invariant.0 c.args.pid.0 (Some c.in_ok-process.process.now) c.in_ok-process.ensures.value))
