use Rattle.std.proofs.Common.{◌∙◌}
use Rattle.command_reader.specs.Rows.{texts}
use Rattle.command_reader.proofs.ReaderLemmas.{found_is_read}
use Rattle.command_reader.proofs.read.command.Goals as goal

pub returns-in-Ok : goal.returns-in-Ok
returns-in-Ok c = c.read.ensures ∙ found_is_read (texts c.args.words.now) _ c.in-Ok.ensures.form
