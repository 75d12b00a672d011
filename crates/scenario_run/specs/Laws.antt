-- The laws on which a run rests, as the functions of the crates below ensure them.
use Rattle.std.specs.Prelude.{◌≡◌, ◌++◌, ◌∷◌, [], ℕ, List, All}
use Rattle.xemem_language.specs.declared.command.Command.{Command}
use Rattle.xemem_language.specs.declared.line.Line.{Line}
use Rattle.xemem_language.specs.Ranges.{IsSpelled}
use Rattle.xemem_language.specs.Spelling.{text_of}
use Rattle.scenario_text.specs.Typed.{IsTyped}
use Rattle.scenario_text.specs.Reading.{IsReadAs}
use Rattle.global_model.specs.Facts.{facts_after}
use Rattle.global_model.specs.Due.{journal_of, step_lines}
use Rattle.global_model.specs.Journals.{do_commands}
use Rattle.history_laws.specs.Fitting.{IsCountable}
use Rattle.history_laws.specs.History.{IsHistory, IsWhole}
use Rattle.global_model.specs.Place.{IsPlaced}
use Rattle.scenario_run.specs.Scenario.{scenario_of}

-- the journal of commands, fronts of it, and how its text is read
pub record RunLaws : Type 0 where
  pub whole : (commands : List Command) → IsWhole (journal_of commands)
  pub commands : (commands : List Command) → do_commands (journal_of commands) ≡ commands
  pub parts : (journal lines : List Line) → do_commands (journal ++ lines) ≡ do_commands journal ++ do_commands lines
  pub history : (commands : List Command) → IsPlaced commands → IsHistory (journal_of commands)
  pub fronts : (journal rest : List Line) → IsHistory (journal ++ rest) → IsHistory journal
  pub placed : (bytes : List ℕ) → IsPlaced (scenario_of bytes).commands
  pub spelled : (commands : List Command) → IsPlaced commands → All IsSpelled (journal_of commands)
  pub fits : (commands : List Command) → IsPlaced commands → IsCountable (journal_of commands) → All IsTyped (journal_of commands)
  pub fits_more : (commands : List Command) (command : Command) → IsPlaced (commands ++ command ∷ []) → IsCountable (journal_of commands) → All IsTyped (journal_of (commands ++ command ∷ []))
  pub read : (journal : List Line) → All IsTyped journal → All IsSpelled journal → IsReadAs (text_of journal) journal
  pub more : (commands : List Command) (command : Command) → journal_of (commands ++ command ∷ []) ≡ journal_of commands ++ step_lines (facts_after (journal_of commands)) command
