use Rattle.enclave_rules.specs.Built.{is_built}
use Rattle.scenario_run.proofs.laws.laws.Goals as goal

pub returns : goal.returns
returns c = record {
  whole = c.one_journal.ensures.whole;
  commands = c.one_journal.ensures.commands;
  parts = c.pasts_grow.ensures.commands;
  history = c.journals_are_histories.ensures;
  fronts = c.fronts_are_histories.ensures;
  placed = c.scenarios_are_placed.ensures is_built;
  spelled = c.journals_are_spelled.ensures;
  fits = c.journals_fit.ensures.whole;
  fits_more = c.journals_fit.ensures.more;
  read = c.journals_are_read_back.ensures;
  more = c.journals_grow.ensures.journal;
}
