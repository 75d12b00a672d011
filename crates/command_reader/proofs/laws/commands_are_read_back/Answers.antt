use Rattle.command_reader.proofs.CommandLemmas.{command_of-words}
use Rattle.command_reader.proofs.FormLemmas.{command_of-spells}
use Rattle.command_reader.proofs.laws.commands_are_read_back.Goals as goal

pub returns-clause-back : goal.returns-clause-back
returns-clause-back c = command_of-words c.numbers_are_read_back.ensures

pub returns-clause-words : goal.returns-clause-words
returns-clause-words c words command h = (command_of-spells c.numbers_are_read_back.ensures words command h).is

pub returns-clause-ranges : goal.returns-clause-ranges
returns-clause-ranges c words command h = (command_of-spells c.numbers_are_read_back.ensures words command h).ranges
