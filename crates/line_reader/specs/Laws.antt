-- The laws of words and commands on which the reader of lines rests, as the functions of the crates below ensure them.
use Rattle.std.specs.Prelude.{◌≡◌, ℕ, List, Ok}
use Rattle.xemem_language.specs.declared.command.Command.{Command}
use Rattle.xemem_language.specs.Ranges.{IsInRange}
use Rattle.xemem_language.specs.Spelling.{command_words}
use Rattle.text_words.specs.Laws.{NumberLaws, WordLaws}
use Rattle.text_words.specs.Solid.{AreWords}
use Rattle.command_reader.specs.Forms.{command_of}

-- commands and their words
pub record CommandLaws : Type 0 where
  pub back : (command : Command) → IsInRange command → command_of (command_words command) ≡ Ok command
  pub spelled : (words : List (List ℕ)) (command : Command) → command_of words ≡ Ok command → words ≡ command_words command
  pub ranges : (words : List (List ℕ)) (command : Command) → command_of words ≡ Ok command → IsInRange command
  pub words : (command : Command) → AreWords (command_words command)

pub record Laws : Type 0 where
  pub numbers : NumberLaws
  pub words : WordLaws
  pub commands : CommandLaws
