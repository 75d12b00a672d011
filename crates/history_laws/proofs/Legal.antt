-- The journal of commands that stand where they may is legal: it is apt, and goes by the rules.
use Rattle.std.proofs.Common.{List, [], ◌∷◌}
use Rattle.xemem_language.specs.declared.command.Command.{Command}
use Rattle.xemem_language.specs.declared.line.Line.{Line}
use Rattle.global_model.specs.Apt.{AptAt, OwnedAt}
use Rattle.global_model.specs.Journals.{Follows}
use Rattle.global_model.specs.Place.{IsPlaced}
use Rattle.global_model.specs.Due.{journal_of}
use Rattle.history_laws.specs.Lawful.{IsLegalAt}
use Rattle.history_laws.specs.Laws.{HistoryLaws}
use Rattle.history_laws.proofs.Exported.{LentAt, journal_of-lent}
use Rattle.history_laws.proofs.Unexported.{lawful_lending}
use Rattle.history_laws.proofs.Ruled.{IsRuledAt, ruled_journal}

legal_lines : (ls past : List Line) → Follows AptAt past ls → Follows OwnedAt past ls → Follows LentAt past ls → Follows IsRuledAt past ls → Follows IsLegalAt past ls
legal_lines [] past apt owned lent ruled = tt
legal_lines (l ∷ ls) past apt owned lent ruled = (
  record { lending = lawful_lending past l apt.0 owned.0 lent.0; act = ruled.0.act; refusal = ruled.0.refusal },
  legal_lines ls (l ∷ past) apt.1 owned.1 lent.1 ruled.1,
)

pub journal_of-legal : HistoryLaws → (cs : List Command) → IsPlaced cs → Follows IsLegalAt [] (journal_of cs)
journal_of-legal laws cs placed =
    legal_lines (journal_of cs) [] (laws.journal.apt cs placed) (laws.journal.owned cs placed) (journal_of-lent laws cs placed) (ruled_journal laws cs [] (λ line h. h))
