-- The laws on which those of calls rest, as the functions of the crates below ensure them.
use Rattle.std.specs.Prelude.{◌≡◌, ◌≤◌, ◌<◌, ◌+◌, ◌++◌, List, [], ℕ}
use Rattle.xm_num.specs.declared.Enclave.{Enclave}
use Rattle.xm_num.specs.RowLaws.{RowLaws}
use Rattle.xemem_language.specs.declared.command.Command.{Command}
use Rattle.xemem_language.specs.declared.line.Line.{Line}
use Rattle.attach_map.specs.declared.Waiting.{Waiting}
use Rattle.global_model.specs.Due.{journal_of}
use Rattle.global_model.specs.Flow.{IsTree}
use Rattle.global_model.specs.Tree.{IsRooted, IsToward, distance, parent_of}
use Rattle.global_model.specs.Facts.{Facts, after_lines, facts_after, facts_at, no_facts}
use Rattle.global_model.specs.Apt.{AptAt}
use Rattle.global_model.specs.Flow.{IsFlowing}
use Rattle.global_model.specs.Journals.{Follows, onto}
use Rattle.global_model.specs.Pauses.{AreSteps, IsInSteps, Step, written_in}
use Rattle.discovery_laws.specs.Ways.{IsLeading}
use Rattle.global_model.specs.Place.{IsPlaced}

-- tables of waiting calls and of names
pub record CallRows : Type 0 where
  pub waiting : RowLaws Waiting
  pub names : RowLaws Enclave

-- paths in a tree
pub record TreePaths : Type 0 where
  pub rooted : (G : Facts) → IsTree G → IsRooted (parent_of G)
  pub nearer : (parent : ℕ → ℕ) (born x d y : ℕ) → IsRooted parent → IsToward parent born x d y → distance parent x d ≡ distance parent y d + 1
  pub stays : (parent later : ℕ → ℕ) (born more x d y : ℕ) → IsRooted parent → ((e : ℕ) → 0 < e → e < born → later e ≡ parent e) → born ≤ more → IsToward parent born x d y → IsToward later more x d y
  pub far : (parent later : ℕ → ℕ) (born x d : ℕ) → IsRooted parent → ((e : ℕ) → 0 < e → e < born → later e ≡ parent e) → x < born → d < born → distance later x d ≡ distance parent x d

pub record CallLaws : Type 0 where
  pub rows : CallRows
  pub pasts : (journal lines past : List Line) → onto (journal ++ lines) past ≡ onto lines (onto journal past)
  pub after : (G : Facts) (journal lines : List Line) → after_lines G (journal ++ lines) ≡ after_lines (after_lines G journal) lines
  pub facts : (journal past : List Line) → facts_at (onto journal past) ≡ after_lines (facts_at past) journal
  pub steps : (commands : List Command) → IsPlaced commands → IsInSteps no_facts (journal_of commands)
  pub flowing : (commands : List Command) → IsPlaced commands → IsFlowing (facts_after (journal_of commands))
  pub apt : (commands : List Command) → IsPlaced commands → Follows AptAt [] (journal_of commands)
  pub leads : (steps : List Step) → AreSteps no_facts steps → IsLeading (after_lines no_facts (written_in no_facts steps))
  pub tree : TreePaths
