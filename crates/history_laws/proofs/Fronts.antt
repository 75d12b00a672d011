-- A front of a lawful history is one; and what is so at the whole fronts of the journal of commands.
use Rattle.std.proofs.Common.{◌≡◌, ◌+◌, ◌<◌, ◌^◌, ℕ, List, [], ◌∷◌, ◌++◌, length, true, sym, ap, ◌∙◌, subst, append_assoc}
use Rattle.xemem_language.specs.declared.command.Command.{Command}
use Rattle.xemem_language.specs.declared.line.Line.{Line}
use Rattle.global_model.specs.Carriage.{CarriedAt}
use Rattle.global_model.specs.Rest.{IsAtRest, RestAt}
use Rattle.global_model.specs.Facts.{facts_after}
use Rattle.global_model.specs.Due.{journal_of}
use Rattle.global_model.specs.Journals.{do_commands, onto}
use Rattle.global_model.specs.Place.{IsPlaced, IsPlacedAfter}
use Rattle.discovery_laws.specs.Known.{AreAdmitted}
use Rattle.call_laws.specs.Legal.{CallAt}
use Rattle.call_laws.specs.Places.{HasRoom, IsEven}
use Rattle.history_laws.specs.History.{IsAnswered, IsDueAt, IsFound, IsHistory, IsTold, IsWhole}
use Rattle.history_laws.specs.Laws.{HistoryLaws}
use Rattle.history_laws.specs.Lawful.{IsLegalAt}
use Rattle.history_laws.proofs.Follow.{Follows-front}
use Rattle.history_laws.proofs.Told.{only_journal}

pub history_front : (journal rest : List Line) → IsHistory (journal ++ rest) → IsHistory journal
history_front journal rest history = record {
  legal = Follows-front IsLegalAt journal rest [] history.legal;
  carried = Follows-front CarriedAt journal rest [] history.carried;
  told = Follows-front IsDueAt journal rest [] history.told;
  rested = Follows-front RestAt journal rest [] history.rested;
  found = λ front behind is. history.found front (behind ++ rest) (ap (λ ls. ls ++ rest) is ∙ append_assoc front behind rest);
  calls = Follows-front CallAt journal rest [] history.calls;
  answered = λ front behind is. history.answered front (behind ++ rest) (ap (λ ls. ls ++ rest) is ∙ append_assoc front behind rest);
}

-- the first ones of commands that stand where they may do so
placed_front : (before : ℕ) (cs ds : List Command) → IsPlacedAfter before (cs ++ ds) → IsPlacedAfter before cs
placed_front before [] ds placed = tt
placed_front before (c ∷ cs) ds placed = (placed.0, placed.1, placed_front (before + 1) cs ds placed.2)

-- a front that is whole is the journal of the first commands
record IsOfFirst (front : List Line) : Type 0 where
  placed : IsPlaced (do_commands front)
  same : front ≡ journal_of (do_commands front)

whole_front : HistoryLaws → (commands : List Command) (front rest : List Line) → IsPlaced commands → IsTold (journal_of commands) → journal_of commands ≡ front ++ rest
    → IsWhole front → IsOfFirst front
whole_front laws commands front rest placed told is whole =
    let own = do_commands front in
    let parts : commands ≡ own ++ do_commands rest = sym (laws.journal.commands commands) ∙ ap do_commands is ∙ laws.past.commands front rest in
    record {
      placed = placed_front 0 own (do_commands rest) (subst IsPlaced parts placed);
      same = only_journal laws front (Follows-front IsDueAt front rest [] (subst IsTold is told)) whole;
    }

-- what holds at rest after commands holds at each whole front of their journal
pub found_journal : HistoryLaws → ((commands : List Command) → IsPlaced commands → IsAtRest (facts_after (journal_of commands))
    → (facts_after (journal_of commands)).server ≡ true → AreAdmitted (facts_after (journal_of commands)))
    → (commands : List Command) → IsPlaced commands → IsTold (journal_of commands) → IsFound (journal_of commands)
found_journal laws rests commands placed told front rest is whole still server =
    let first = whole_front laws commands front rest placed told is whole in
    let at_rest = subst (λ j. IsAtRest (facts_after j)) first.same still in
    let held = subst (λ j. (facts_after j).server ≡ true) first.same server in
    subst (λ j. AreAdmitted (facts_after j)) (sym first.same) (rests (do_commands front) first.placed at_rest held)

pub answered_journal : HistoryLaws → ((journal : List Line) → length journal < 2 ^ 32 → HasRoom (onto journal [])) → ((commands : List Command) → IsPlaced commands → HasRoom (onto (journal_of commands) [])
    → IsAtRest (facts_after (journal_of commands)) → IsEven (onto (journal_of commands) []))
    → (commands : List Command) → IsPlaced commands → IsTold (journal_of commands) → IsAnswered (journal_of commands)
answered_journal laws room rests commands placed told front rest is whole still few =
    let first = whole_front laws commands front rest placed told is whole in
    let at_rest = subst (λ j. IsAtRest (facts_after j)) first.same still in
    let own_room = subst (λ j. HasRoom (onto j [])) first.same (room front few) in
    subst (λ j. IsEven (onto j [])) (sym first.same) (rests (do_commands front) first.placed own_room at_rest)
