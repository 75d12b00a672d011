use Rattle.history_laws.proofs.Fronts.{answered_journal, found_journal}
use Rattle.history_laws.proofs.laws.journals_are_histories.Goals as goal

pub returns : goal.returns
returns c = λ commands placed. record {
  legal = c.journals_are_legal.ensures commands placed;
  carried = c.journals_are_carried.ensures.carried commands placed;
  told = c.one_journal.ensures.told commands;
  rested = c.journals_are_rested.ensures commands placed;
  found = found_journal c.laws.ensures c.rest_is_admitted.ensures commands placed (c.one_journal.ensures.told commands);
  calls = c.calls_are_legal.ensures commands placed;
  answered = answered_journal c.laws.ensures c.short_journals_have_room.ensures c.rest_is_even.ensures commands placed (c.one_journal.ensures.told commands);
}
