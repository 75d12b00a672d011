use Rattle.global_model.specs.Facts.{no_facts}
use Rattle.global_model.proofs.Acts.{do_commands-journal}
use Rattle.global_model.proofs.Pasts.{after_lines-append, journal_from-more}
use Rattle.global_model.proofs.laws.journals_grow.Goals as goal

pub returns : goal.returns
returns c = record { journal = journal_from-more no_facts; facts = after_lines-append no_facts; commands = do_commands-journal no_facts }
