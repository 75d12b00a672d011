use Rattle.std.proofs.Common.{◌∙◌, ap, sym, Some, None}
use Rattle.attach_map.specs.Attaching.{ProcessState}
use Rattle.attach_map.proofs.KeptLemmas.{looked_up}
use Rattle.attach_map.proofs.attacher.Attacher.user.Goals as goal

pub returns-in_err-process : goal.returns-in_err-process
returns-in_err-process g c =
    rw (← c.self.view_is) (c.from_residual.ensures ∙ sym (looked_up (λ (p : ProcessState). (p.uid, p.gid)) c.self.inside.processes c.args.pid.0 None c.in_err-process.ensures.value))

pub returns : goal.returns
returns g c =
    rw (← c.self.view_is) (ap Some c.user.ensures ∙ sym (looked_up (λ (p : ProcessState). (p.uid, p.gid)) c.self.inside.processes c.args.pid.0 (Some c.in_ok-process.process.now) c.in_ok-process.ensures.value))
