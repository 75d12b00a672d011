use Rattle.std.proofs.Common.{ap, ◌∙◌}
use Rattle.line_reader.specs.Slots.{is_done}
use Rattle.line_reader.proofs.PieceLemmas.{left_none}
use Rattle.line_reader.proofs.cursor.Words.is_empty.Goals as goal

pub returns : goal.returns
returns c = left_none c.self.inside.rest c.is_none.result c.is_none.ensures ∙ ap is_done c.self.view_is
