-- The world: its machine and its journal.
use Rattle.std.specs.Prelude.{◌≡◌, ◌+◌, ◌<◌, ◌≤◌, ℕ, List, [], ◌∷◌, ◌++◌, length, drop, true}
use Rattle.xemem_language.specs.declared.command.Command.{Command}
use Rattle.xemem_language.specs.declared.line.Line.{Line}
use Rattle.xemem_language.specs.Spelling.{line_words, words_in}
use Rattle.enclave_rules.specs.Hand.{Hand}
use Rattle.global_model.specs.Facts.{Facts, facts_after}
use Rattle.global_model.specs.Due.{journal_of}
use Rattle.global_model.specs.Journals.{do_commands, onto, is_delivery, deliveries_in}
use Rattle.global_model.specs.Place.{IsPlaced}
use Rattle.node_world.specs.declared.world.Which.{Which}
use Rattle.node_world.specs.declared.world.Which.TheVariants as whiches
use Rattle.node_world.specs.declared.world.Progress.{Progress}
use Rattle.node_world.specs.declared.world.Progress.TheVariants as progresses
use Rattle.node_world.specs.Appended.{words_by}
use Rattle.node_machine.specs.Machine.{MachineView, no_machine, node_at}
use Rattle.node_world.specs.Shown.{IsShown}

-- ---- limits

-- the number of a limit: the most bytes of a scenario, lines of it, bytes of a line, deliveries of a run, words of a journal
abbrev pub most_of : Which → ℕ
most_of whiches.Scenario = 4194304
most_of whiches.Lines = 65536
most_of whiches.LineBytes = 4096
most_of whiches.Deliveries = 262144
most_of whiches.Words = 16777216

abbrev pub most_words : ℕ
most_words = most_of whiches.Words

abbrev pub most_deliveries : ℕ
most_deliveries = most_of whiches.Deliveries

-- no limit on journals is passed
pub record IsShort (journal : List Line) : Type 0 where
  pub words : words_in journal ≤ most_words
  pub deliveries : deliveries_in journal ≤ most_deliveries

-- behind so many words and deliveries the line would pass the limit; deliveries are asked for first
abbrev pub PassesBy : Which → ℕ → ℕ → Line → Type 0
PassesBy whiches.Deliveries words deliveries line = (is_delivery line ≡ true) × (deliveries ≡ most_deliveries)
PassesBy whiches.Words words deliveries line = (most_words < words + length (line_words line)) × (is_delivery line ≡ true → deliveries < most_deliveries)
PassesBy which words deliveries line = ⊥

-- of some lines the one behind the first `count` would pass the limit
pub record IsNextOver (which : Which) (words deliveries count : ℕ) (fresh : List Line) : Type 0 where
  pub line : Line
  pub rest : List Line
  pub is : drop count fresh ≡ line ∷ rest
  pub passes : PassesBy which words deliveries line

-- the line behind the journal would pass the limit
abbrev pub Passes : Which → List Line → Line → Type 0
Passes which journal line = PassesBy which (words_in journal) (deliveries_in journal) line

-- the limits that a world meets
abbrev pub IsOfWorlds : Which → Type 0
IsOfWorlds whiches.Deliveries = Unit {0}
IsOfWorlds whiches.Words = Unit {0}
IsOfWorlds which = ⊥

-- of the lines behind a journal, as many were written as pass no limit, and the next would pass this one
pub record IsStopped (which : Which) (journal fresh after : List Line) : Type 0 where
  pub written : List Line
  pub line : Line
  pub rest : List Line
  pub is : fresh ≡ written ++ line ∷ rest
  pub grown : after ≡ journal ++ written
  pub short : IsShort after
  pub passes : Passes which after line

-- A journal that was cut: of the lines of one more command behind the journal of these, those that pass no limit.
abbrev pub IsCut : Which → List Command → Command → List Line → Type 0
IsCut which commands command journal =
    (fresh : List Line) × (journal_of (commands ++ command ∷ []) ≡ journal_of commands ++ fresh) × IsStopped which (journal_of commands) fresh journal

-- ---- the world

pub record WorldView : Type 0 where
  pub machine : MachineView
  pub journal : List Line
  pub progress : Progress

-- no step was made
abbrev pub no_world : WorldView
no_world = record { machine = no_machine; journal = []; progress = progresses.Going }

-- The journal is the one of its commands, it passes no limit, the machine shows its facts, and each node appended the words
-- that are its own by the journal: none, before the enclave's birth.
pub record IsHistoryOf (m : MachineView) (journal : List Line) : Type 0 where
  pub placed : IsPlaced (do_commands journal)
  pub told : journal ≡ journal_of (do_commands journal)
  pub shown : IsShown (facts_after journal) m
  pub appended : (e : ℕ) → (node_at m.nodes e).appended ≡ words_by e (onto journal [])

-- the same facts with this at hand
abbrev pub holding : Hand → Facts → Facts
holding hand G = record G { hand = hand }

-- The machine shows the facts of the journal, which are, but for what is at hand, those of commands that are placed: each
-- delivery of a settle counts as one more command. Each node appended the words that are its own by the journal.
pub record IsAlong (m : MachineView) (journal : List Line) : Type 0 where
  pub played : List Command
  pub placed : IsPlaced played
  pub hand : Hand
  pub facts : facts_after journal ≡ holding hand (facts_after (journal_of played))
  pub shown : IsShown (facts_after journal) m
  pub appended : (e : ℕ) → (node_at m.nodes e).appended ≡ words_by e (onto journal [])

-- what a world keeps: its counts are those of its journal, which passes no limit, and is a history of the machine as long as
-- the world goes on
pub record IsWorldKept (m : MachineView) (journal : List Line) (progress : Progress) (sum made : ℕ) : Type 0 where
  pub words : sum ≡ words_in journal
  pub deliveries : made ≡ deliveries_in journal
  pub short : IsShort journal
  pub history : progress ≡ progresses.Going → IsHistoryOf m journal
  pub limit : (which : Which) → progress ≡ progresses.Full which → IsOfWorlds which
