use Rattle.std.proofs.Common.{◌≡◌, drop}
use Rattle.command_reader.specs.declared.fault.SyntaxFault.TheVariants as faults
use Rattle.command_reader.specs.Forms.{form_of}
use Rattle.command_reader.specs.Rows.{texts, forms_of, misfit_after}
use Rattle.command_reader.proofs.read.form_of.Given as goal

abbrev pub invariant-loop-first : goal.invariant-loop-first
invariant-loop-first l = record {
  found : form_of (forms_of (drop l.first-index l.table)) (texts l.words) ≡ form_of (forms_of l.table) (texts l.words);
  fault : misfit_after l.fault (texts l.words) (forms_of (drop l.first-index l.table)) ≡ misfit_after faults.Word (texts l.words) (forms_of l.table);
}
