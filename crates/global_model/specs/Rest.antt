-- At rest, and how a settle ends.
use Rattle.std.specs.Prelude.{◌≡◌, ◌≤◌, ℕ, List, [], ◌∷◌, ◌++◌, Some, false}
use Rattle.xemem_language.specs.declared.command.Command.TheVariants as commands
use Rattle.xemem_language.specs.declared.line.Line.{Line}
use Rattle.xemem_language.specs.declared.line.Line.TheVariants as lines
use Rattle.global_model.specs.Channels.{end_waits, waiting_in}
use Rattle.global_model.specs.Facts.{Facts, facts_at}
use Rattle.global_model.specs.Journals.{Follows, command_at, deliveries_in}

-- nothing waits in any channel, neither bytes nor an end mark
abbrev pub IsAtRest : Facts → Type 0
IsAtRest G = (x y : ℕ) → (waiting_in G x y ≡ []) × (end_waits G x y ≡ false)

-- The lines of a settle of at most so many deliveries, and the facts after them: its last line says `settled` exactly where
-- nothing waits any more, with the deliveries made, and `waiting` exactly where all were made and something still waits.
pub record EndsSettle (most : ℕ) (settle : List Line) (after : Facts) : Type 0 where
  pub before : List Line
  pub end : Line
  pub is : settle ≡ before ++ end ∷ []
  pub few : deliveries_in before ≤ most
  pub settled : IsAtRest after → end ≡ lines.Settled (deliveries_in before)
  pub waiting : (IsAtRest after → ⊥) → (end ≡ lines.Waiting most) × (deliveries_in before ≡ most)

-- the lines since the newest `do` line, the newest first
abbrev pub lines_since : List Line → List Line
lines_since [] = []
lines_since (lines.Do command ∷ past) = []
lines_since (line ∷ past) = line ∷ lines_since past

-- the command at hand is a settle of at most so many deliveries, and so many were made
pub record IsSettling (past : List Line) (most made : ℕ) : Type 0 where
  pub command : command_at past ≡ Some (commands.Settle most)
  pub count : made ≡ deliveries_in (lines_since past)
  pub few : made ≤ most

-- Rest: a settle says `settled` where nothing waits, and `waiting` where something does and all its deliveries were made; both
-- with the deliveries that it made.
abbrev pub RestAt : List Line → Line → Type 0
RestAt past (lines.Settled made) = IsAtRest (facts_at past) × (most : ℕ) × IsSettling past most made
RestAt past (lines.Waiting made) = (IsAtRest (facts_at past) → ⊥) × IsSettling past made made
RestAt past line = Unit {0}

-- rested: each settle ends as the channels are
abbrev pub IsRested : List Line → Type 0
IsRested journal = Follows RestAt [] journal
