-- The laws on which those of discovery rest, as the functions of the crates below ensure them.
use Rattle.std.specs.Prelude.{◌≡◌, ◌⊎◌, ◌<◌, ◌≤◌, ◌+◌, true, ℕ, List, ◌++◌, ◌==◌, Some, if◌then◌else◌}
use Rattle.xm_num.specs.declared.Enclave.{Enclave}
use Rattle.xm_num.specs.Rows.{at, put}
use Rattle.xm_num.specs.RowLaws.{RowLaws}
use Rattle.xemem_language.specs.declared.command.Command.{Command}
use Rattle.xemem_language.specs.declared.line.Line.{Line}
use Rattle.global_model.specs.Facts.{Facts, facts_after, after_lines, facts_at, no_facts}
use Rattle.global_model.specs.Journals.{onto}
use Rattle.global_model.specs.Flow.{IsFlowing, IsTree}
use Rattle.global_model.specs.Pauses.{IsInSteps}
use Rattle.global_model.specs.Channels.{is_neighbour}
use Rattle.global_model.specs.Tree.{IsRooted, AreNear, IsToward, distance, parent_of}
use Rattle.global_model.specs.Place.{IsPlaced}
use Rattle.global_model.specs.Due.{journal_of}

-- what is read off the lines of a journal in turn
pub record FactLaws : Type 0 where
  pub pasts : (journal lines past : List Line) → onto (journal ++ lines) past ≡ onto lines (onto journal past)
  pub facts : (journal past : List Line) → facts_at (onto journal past) ≡ after_lines (facts_at past) journal
  pub after : (G : Facts) (journal lines : List Line) → after_lines G (journal ++ lines) ≡ after_lines (after_lines G journal) lines

-- the journal of commands
pub record FlowLaws : Type 0 where
  pub flowing : (commands : List Command) → IsPlaced commands → IsFlowing (facts_after (journal_of commands))
  pub steps : (commands : List Command) → IsPlaced commands → IsInSteps no_facts (journal_of commands)

-- what a table has at a number after a change
pub record WayPutLaws : Type 0 where
  pub ways : (table : List (ℕ × Enclave)) (k q : ℕ) (v : Enclave) → at (put table k v) q ≡ (if k == q then Some v else at table q)

-- paths in a tree
pub record TreeLaws : Type 0 where
  pub rooted : (G : Facts) → IsTree G → IsRooted (parent_of G)
  pub near : (G : Facts) (x y : ℕ) → is_neighbour G x y ≡ true → AreNear (parent_of G) x y
  pub beside : (parent : ℕ → ℕ) (born x d y : ℕ) → IsRooted parent → IsToward parent born x d y → AreNear parent x y
  pub nearer : (parent : ℕ → ℕ) (born x d y : ℕ) → IsRooted parent → IsToward parent born x d y → distance parent x d ≡ distance parent y d + 1
  pub sides : (parent : ℕ → ℕ) (born x y d : ℕ) → IsRooted parent → AreNear parent x y → x < born → y < born → d < born → IsToward parent born x d y ⊎ IsToward parent born y d x
  pub stays : (parent later : ℕ → ℕ) (born more x d y : ℕ) → IsRooted parent → ((e : ℕ) → 0 < e → e < born → later e ≡ parent e) → born ≤ more → IsToward parent born x d y → IsToward later more x d y
  pub far : (parent later : ℕ → ℕ) (born x d : ℕ) → IsRooted parent → ((e : ℕ) → 0 < e → e < born → later e ≡ parent e) → x < born → d < born → distance later x d ≡ distance parent x d

pub record DiscoveryLaws : Type 0 where
  pub past : FactLaws
  pub journal : FlowLaws
  pub row : WayPutLaws
  pub table : RowLaws Enclave
  pub tree : TreeLaws
