use Rattle.std.proofs.Common.{◌∙◌, sym}
use Rattle.node_machine.proofs.IndexLemmas.{noted_sent, not_false, noted_kept, on_ok, on_err}
use Rattle.node_machine.proofs.channels.send_noted.Goals as goal
use Rattle.node_machine.proofs.channels.send_noted.Goals.{else-is_err-via-then-is_err+else-fresh, else-is_err-via-else-is_err}

pub returns-else-is_err-clause-noted : goal.returns-else-is_err-clause-noted
returns-else-is_err-clause-noted c =
    let keys = c.insert.new.self.keys in
    let link = c.send_over-result.new.link in
    elim c.else-is_err.branch [
      | else-is_err-via-then-is_err+else-fresh w ↦ noted_kept keys c.args.number c.args.link.now link (c.in-Ok.ensures.updates.1 ∙ sym (not_false _ (sym w.if-fresh.false ∙ c.in-Ok.ensures.added)) ∙ c.requires.noted) (on_err c.send_over-result.result (sym w.if-is_err.ensures.value) c.send_over-result.ensures.err)
      | else-is_err-via-else-is_err w ↦ noted_sent c.laws.ensures keys c.args.number c.args.link.now link c.args.rec.now c.in-Ok.ensures.updates.1 (on_ok c.send_over-result.result (sym w.if-is_err.ensures.value) c.send_over-result.ensures.sent)
    ]
