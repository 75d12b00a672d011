-- The laws on which those of histories rest, as the functions of the crates below ensure them.
use Rattle.std.specs.Prelude.{◌≡◌, ◌<◌, ◌≤◌, ℕ, List, [], ◌∷◌, ◌++◌, ◌==◌, drop, length, Bool, false, true, Some, None, if◌then◌else◌}
use Rattle.std.specs.List.{AllByRecursion}
use Rattle.xm_num.specs.declared.Enclave.{Enclave}
use Rattle.xm_num.specs.declared.Page.{Page}
use Rattle.xm_num.specs.declared.Cause.{Cause}
use Rattle.xm_num.specs.Rows.{at, put}
use Rattle.xm_num.specs.RowLaws.{RowLaws as TableLaws}
use Rattle.xemem_language.specs.declared.command.Command.{Command}
use Rattle.xemem_language.specs.declared.line.Line.{Line}
use Rattle.xemem_language.specs.declared.record.Record.{Record}
use Rattle.xemem_language.specs.Ranges.{IsSpelledBody}
use Rattle.xemem_wire.specs.Spelling.{is_valid, spelling_of}
use Rattle.enclave_rules.specs.View.{View, AreOf}
use Rattle.enclave_rules.specs.Steps.{lines_of_records}
use Rattle.global_model.specs.Facts.{Facts, facts_after, after_lines, facts_at, no_facts}
use Rattle.global_model.specs.Journals.{Follows, do_commands, onto}
use Rattle.global_model.specs.Apt.{AptAt, OwnedAt}
use Rattle.global_model.specs.Carriage.{IsCarried}
use Rattle.global_model.specs.Plain.{ArePlain, AreActs, IsQuiet, BearsOne}
use Rattle.global_model.specs.Pauses.{IsInSteps}
use Rattle.global_model.specs.Place.{IsPlaced}
use Rattle.global_model.specs.Refusals.{Condition, when, first_cause}
use Rattle.global_model.specs.Due.{acts_of, command_lines, step_lines, journal_of}

-- what is read off the lines of a journal in turn
pub record PastLaws : Type 0 where
  pub pasts : (journal lines past : List Line) → onto (journal ++ lines) past ≡ onto lines (onto journal past)
  pub facts : (journal past : List Line) → facts_at (onto journal past) ≡ after_lines (facts_at past) journal
  pub commands : (journal lines : List Line) → do_commands (journal ++ lines) ≡ do_commands journal ++ do_commands lines

-- the journal of commands
pub record JournalLaws : Type 0 where
  pub more : (commands : List Command) (command : Command) → journal_of (commands ++ command ∷ []) ≡ journal_of commands ++ step_lines (facts_after (journal_of commands)) command
  pub commands : (commands : List Command) → do_commands (journal_of commands) ≡ commands
  pub carried : (commands : List Command) → IsPlaced commands → IsCarried (journal_of commands)
  pub apt : (commands : List Command) → IsPlaced commands → Follows AptAt [] (journal_of commands)
  pub owned : (commands : List Command) → IsPlaced commands → Follows OwnedAt [] (journal_of commands)
  pub steps : (commands : List Command) → IsPlaced commands → IsInSteps no_facts (journal_of commands)

-- the lines of a command, and those that an enclave writes for records
pub record ActLaws : Type 0 where
  pub acts : (G : Facts) (command : Command) → AreActs (command_lines G command)
  pub quiet : (G : Facts) (command : Command) → IsQuiet command → ArePlain (acts_of G command)
  pub behind : (G : Facts) (command : Command) → BearsOne command → ArePlain (drop 1 (acts_of G command))
  pub of : (holder : Enclave) (v : View) (x : Enclave) (rs : List Record) → (v.core.holder ≡ true → holder ≡ v.me) → AreOf holder v.me (lines_of_records v x rs)
  pub unmet : (cause : Cause) (holds : Bool) (others : List Condition) → first_cause (when cause holds ∷ others) ≡ None → (holds ≡ false) × (first_cause others ≡ None)

-- what a table of pages has at a number after a change
pub record PutLaws : Type 0 where
  pub pages : (table : List (ℕ × Page)) (k q : ℕ) (v : Page) → at (put table k v) q ≡ (if k == q then Some v else at table q)

-- the spelling of a record, and of what it says in a line
pub record SpellingLaws : Type 0 where
  pub most : (r : Record) → is_valid r ≡ true → length (spelling_of r) ≤ 16404
  pub bytes : (r : Record) → is_valid r ≡ true → AllByRecursion (λ byte. byte < 256) (spelling_of r)
  pub body : (r : Record) → is_valid r ≡ true → IsSpelledBody r.body

pub record HistoryLaws : Type 0 where
  pub past : PastLaws
  pub journal : JournalLaws
  pub act : ActLaws
  pub row : PutLaws
  pub table : TableLaws Enclave
  pub wire : SpellingLaws
