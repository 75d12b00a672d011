use Rattle.std.proofs.Common.{Ok, Err, sym, ◌∙◌}
use Rattle.command_reader.proofs.ReaderLemmas.{line_command-take}
use Rattle.command_reader.proofs.read.read_command.Goals as goal

pub returns-in-Ok : goal.returns-in-Ok
returns-in-Ok c =
    line_command-take c.args.text.now _ (Ok c.in-Ok.command) (rw c.as_slice-words.ensures.value c.words-kept.ensures) (sym c.is_comment.ensures ∙ c.if-is_comment.false) c.in-Ok.ensures

pub returns-in-Err : goal.returns-in-Err
returns-in-Err c =
    line_command-take c.args.text.now _ (Err c.in-Err.fault) (rw c.as_slice-words.ensures.value c.words-kept.ensures) (sym c.is_comment.ensures ∙ c.if-is_comment.false) c.in-Err.ensures
