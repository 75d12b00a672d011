use Rattle.std.proofs.Common.{◌∙◌, ◌+◌, ap}
use Rattle.xm_num.specs.Rows.{at}
use Rattle.exporter_pins.specs.Holdings.{without_export}
use Rattle.enclave_node.proofs.TiedLemmas.{withdrawn}
use Rattle.enclave_node.proofs.memory.issue_make.Goals as goal

pub returns-in-Err-clause-err_exporter : goal.returns-in-Err-clause-err_exporter
returns-in-Err-clause-err_exporter g c =
    let call = c.issued-2.result + 1 in
    let none = ap (λ k. at c.args.exporter.now.exports (k + 1)) c.issued-2.ensures.number ∙ c.requires.new_call in
    c.withdraw.ensures ∙ ap (without_export call) c.in_ok-export.ensures.after ∙ withdrawn call _ c.args.exporter.now none
