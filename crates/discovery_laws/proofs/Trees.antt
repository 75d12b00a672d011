-- The tree that later lines leave; a registration stays where it was when others are born.
use Rattle.std.proofs.Common.{◌≡◌, ◌<◌, ◌≤◌, ℕ, List, [], ◌∷◌, Bool, true, false, cond, eqb, Some, refl, ◌∙◌, arith}
use Rattle.std.proofs.lemmas.Bool.{ne_eqb}
use Rattle.xm_num.specs.declared.Enclave.{Enclave}
use Rattle.xm_num.specs.declared.Block.{Block}
use Rattle.xm_num.specs.declared.Kind.{Kind}
use Rattle.xemem_language.specs.declared.record.Record.{Record}
use Rattle.xemem_language.specs.declared.line.Line.{Line}
use Rattle.xemem_language.specs.declared.line.Line.TheVariants as lines
use Rattle.xemem_language.specs.declared.command.Command.TheVariants as commands
use Rattle.discovery_laws.proofs.Received.{inner_record}
use Rattle.discovery_laws.proofs.Unmoved.{AreWithinStep, IsWithinStep}
use Rattle.enclave_rules.specs.Steps.{record_lines}
use Rattle.global_model.specs.Facts.{Facts, after_line, after_lines, fact_of}
use Rattle.global_model.specs.Tree.{IsRooted, IsToward, distance, parent_of}
use Rattle.global_model.specs.Views.{view_of}
use Rattle.discovery_laws.specs.Laws.{DiscoveryLaws}
use Rattle.discovery_laws.proofs.Effects.{kept_by, parent_kept}
use Rattle.discovery_laws.proofs.Stages.{Stage, Silent, Registering, Admitting, Ready, MayAnswer, MayReach, IsAt, IsStaged}

-- ---- the tree stays

-- who was born stays where it was
pub record IsGrown (G H : Facts) : Type 0 where
  pub parents : (e : ℕ) → 0 < e → e < G.born → parent_of H e ≡ parent_of G e
  pub born : G.born ≤ H.born

record IsSameTree (G H : Facts) : Type 0 where
  parents : (e : ℕ) → parent_of H e ≡ parent_of G e
  born : H.born ≡ G.born

same_line : (G : Facts) (line : Line) → IsWithinStep line → IsSameTree G (after_line G line)
same_line G (lines.Born e kind parent ns blocks) inner = absurd inner
same_line G (lines.Admitted e) inner = record { parents = kept_by (λ fact. (fact_of fact).parent.0) parent_kept G e; born = refl }
same_line G (lines.Do (commands.Pool blocks)) inner = record { parents = λ e. refl; born = refl }
same_line G _ inner = record { parents = λ e. refl; born = refl }

same_lines : (G : Facts) (ls : List Line) → AreWithinStep ls → IsSameTree G (after_lines G ls)
same_lines G [] inner = record { parents = λ e. refl; born = refl }
same_lines G (l ∷ ls) inner =
    let one = same_line G l inner.0 in
    let more = same_lines (after_line G l) ls inner.1 in
    record { parents = λ e. more.parents e ∙ one.parents e; born = more.born ∙ one.born }

pub grown_within : (G : Facts) (ls : List Line) → AreWithinStep ls → IsGrown G (after_lines G ls)
grown_within G ls inner =
    let same = same_lines G ls inner in
    let born = same.born in
    record { parents = λ e some below. same.parents e; born = omega (arith, born) }

-- what is written for a record bears none
pub grown_handled : (G : Facts) (x y : Enclave) (r : Record) → IsGrown G (after_lines G (lines.Got x y ∷ record_lines (view_of G y) x r))
grown_handled G x y r =
    let v = view_of G y in
    let more = grown_within (after_line G (lines.Got x y)) (record_lines v x r) (inner_record v x r) in
    record { parents = more.parents; born = more.born }

-- the next enclave is born
pub grown_born : (G : Facts) (child parent : Enclave) (kind : Kind) (ns : Bool) (blocks : List Block) → child.0 ≡ G.born
    → IsGrown G (after_line G (lines.Born child kind parent ns blocks))
grown_born G child parent kind ns blocks next = record {
  parents = λ e some below. by e (eqb e child.0) (ne_eqb e child.0 (λ is. omega (arith, is, next, below)));
  born = omega arith;
}
  where
    by : (e : ℕ) (t : Bool) → t ≡ false
        → (fact_of (cond t (Some (record { kind = kind; parent = parent; blocks = blocks; ns = ns; living = true; admitted = false })) (G.enclave e))).parent.0
        ≡ (fact_of (G.enclave e)).parent.0
    by e true is = cc
    by e false is = refl

pub grown-trans : (G H K : Facts) → IsGrown G H → IsGrown H K → IsGrown G K
grown-trans G H K one two =
    let first = one.born in
    let second = two.born in
    record { parents = λ e some below. two.parents e some (omega (arith, below, first)) ∙ one.parents e some below; born = omega (arith, first, second) }

-- ---- a registration in a tree that has grown

module _ (laws : DiscoveryLaws) (G H : Facts) (rooted : IsRooted (parent_of G)) (grown : IsGrown G H) where
  toward_grown : (x d y : ℕ) → IsToward (parent_of G) G.born x d y → IsToward (parent_of H) H.born x d y
  toward_grown x d y toward = laws.tree.stays (parent_of G) (parent_of H) G.born H.born x d y rooted grown.parents grown.born toward

  far_grown : (x d : ℕ) → x < G.born → d < G.born → distance (parent_of H) x d ≡ distance (parent_of G) x d
  far_grown x d from to = laws.tree.far (parent_of G) (parent_of H) G.born x d rooted grown.parents from to

  less_grown : (x y d : ℕ) → x < G.born → y < G.born → d < G.born → distance (parent_of G) x d < distance (parent_of G) y d
      → distance (parent_of H) x d < distance (parent_of H) y d
  less_grown x y d x_born y_born d_born less = rw (far_grown x d x_born d_born, far_grown y d y_born d_born) less

  answer_grown : (K : Facts) (d : ℕ) (stage : Stage) (e : ℕ) → IsAt (parent_of G) G.born K d stage → e < G.born → MayAnswer (parent_of G) stage e
      → MayAnswer (parent_of H) stage e
  answer_grown K d Silent e at born may = may
  answer_grown K d (Registering h x y) e at born may = less_grown y e h at.ahead.over born at.ahead.to may
  answer_grown K d (Admitting h x y) e at born may = may
  answer_grown K d Ready e at born may = may

  reach_grown : (K : Facts) (d : ℕ) (stage : Stage) (e : ℕ) → IsAt (parent_of G) G.born K d stage → e < G.born → MayReach (parent_of G) d stage e
      → MayReach (parent_of H) d stage e
  reach_grown K d Silent e at born may = may
  reach_grown K d (Registering h x y) e at born may = may
  reach_grown K d (Admitting h x y) e at born may = less_grown y e d at.ahead.over born at.ahead.to may
  reach_grown K d Ready e at born may = may

  at_grown : (K : Facts) (d : ℕ) (stage : Stage) → IsAt (parent_of G) G.born K d stage
      → IsAt (parent_of H) H.born K d stage
  at_grown K d Silent at = at
  at_grown K d (Registering h x y) at = record {
    holder = at.holder;
    ahead = toward_grown x h y at.ahead;
    behind = toward_grown y d x at.behind;
    nearer = less_grown y d h at.ahead.over at.behind.to at.ahead.to at.nearer;
    answers = at.answers;
    knowing = at.knowing;
    known = at.known;
    waits = at.waits;
  }
  at_grown K d (Admitting h x y) at = record {
    from = omega (arith, at.from, grown.born);
    ahead = toward_grown x d y at.ahead;
    nearer = less_grown y h d at.ahead.over at.from at.ahead.to at.nearer;
    answers = at.answers;
    known = at.known;
    waits = at.waits;
  }
  at_grown K d Ready at = at

  pub staged_grown : (K : Facts) (d : ℕ) (stage : Stage) → IsStaged (parent_of G) G.born K d stage
      → IsStaged (parent_of H) H.born K d stage
  staged_grown K d stage staged = record {
    flight = staged.flight;
    backs = λ e x is.
        let was = staged.backs e x is in
        record {
          toward = toward_grown e d x.0 was.toward;
          leads = was.leads;
          may = answer_grown K d stage e staged.at was.toward.from was.may;
        };
    routes = λ e x is.
        let was = staged.routes e x is in
        record { toward = toward_grown e d x.0 was.toward; may = reach_grown K d stage e staged.at was.toward.from was.may };
    at = at_grown K d stage staged.at;
  }
