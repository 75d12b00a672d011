use Rattle.std.proofs.Common.{◌∙◌, ap, sym, Some, None}
use Rattle.std.specs.Prelude.{option_map}
use Rattle.attach_map.specs.Attaching.{ProcessState}
use Rattle.attach_map.proofs.KeptLemmas.{looked_up}
use Rattle.attach_map.proofs.attacher.Attacher.space.Goals as goal

pub returns-in_err-process-clause-pages : goal.returns-in_err-process-clause-pages
returns-in_err-process-clause-pages g c =
    rw (← c.self.view_is)
    (ap (option_map (λ space. g.A.AddressSpace.pages space.now)) c.from_residual.ensures ∙ sym (looked_up (λ (p : ProcessState). p.pages) c.self.inside.processes c.args.pid.0 None c.in_err-process.ensures.value))

pub returns-clause-pages : goal.returns-clause-pages
returns-clause-pages g c =
    rw (← c.self.view_is)
    (ap Some c.space.ensures.pages ∙ sym (looked_up (λ (p : ProcessState). p.pages) c.self.inside.processes c.args.pid.0 (Some c.in_ok-process.process.now) c.in_ok-process.ensures.value))
