-- Each record of a call that is under way goes on.
use Rattle.std.proofs.Common.{List, [], sym, subst}
use Rattle.xemem_language.specs.declared.command.Command.{Command}
use Rattle.global_model.specs.Due.{journal_of}
use Rattle.global_model.specs.Facts.{Facts, after_lines, facts_after, no_facts}
use Rattle.global_model.specs.Pauses.{AreSteps, IsPause, Step, written_in}
use Rattle.global_model.specs.Flow.{IsTree}
use Rattle.global_model.specs.Place.{IsPlaced}
use Rattle.discovery_laws.specs.Known.{in_flight}
use Rattle.discovery_laws.specs.Ways.{IsLeading}
use Rattle.call_laws.specs.Laws.{CallLaws, TreePaths}
use Rattle.call_laws.specs.Onward.{AreOnward, OnwardBy}
use Rattle.call_laws.proofs.Idles.{steps_sound}
use Rattle.call_laws.proofs.Onward.{AreBound, Bound, bound_onward}
use Rattle.call_laws.proofs.Requests.{all-behind}
use Rattle.call_laws.proofs.Roads.{AreRoads}
use Rattle.call_laws.proofs.Rows.{all_more}

are_onward : TreePaths → (G : Facts) → IsTree G → IsLeading G → AreRoads G → AreBound G → AreOnward G
are_onward tree G is_tree leading roads bound = record {
  onward = λ x y. all_more (Bound G x y) (λ r. OnwardBy G x y r r.body) (in_flight G x y) (all-behind (Bound G x y) (G.channel x y).got (G.channel x y).sent (bound x y))
      (λ r is. bound_onward tree G (tree.rooted G is_tree) leading x y r is);
  quiet = roads.quiet;
}

steps_go : (laws : CallLaws) (steps : List Step) → AreSteps no_facts steps → IsTree (after_lines no_facts (written_in no_facts steps))
    → AreOnward (after_lines no_facts (written_in no_facts steps))
steps_go laws steps are tree =
    let sound = steps_sound laws steps are in
    let same = laws.facts (written_in no_facts steps) [] in
    are_onward laws.tree (after_lines no_facts (written_in no_facts steps)) tree (laws.leads steps are) (subst AreRoads same sound.roads) (subst AreBound same sound.bound)

pub steps_onward : (laws : CallLaws) (steps : List Step) → AreSteps no_facts steps → IsPause (after_lines no_facts (written_in no_facts steps))
    → AreOnward (after_lines no_facts (written_in no_facts steps))
steps_onward laws steps are pause = steps_go laws steps are pause.tree

pub journal_of-onward : (laws : CallLaws) (commands : List Command) → IsPlaced commands → AreOnward (facts_after (journal_of commands))
journal_of-onward laws commands placed =
    let in_steps = laws.steps commands placed in
    let written = in_steps.written in
    subst (λ journal. AreOnward (facts_after journal)) (sym written)
    (steps_go laws in_steps.steps in_steps.are (subst (λ journal. IsTree (facts_after journal)) written (laws.flowing commands placed).tree))
