use Rattle.std.proofs.Common.{◌≡◌, List, [], ap, sym, ◌∙◌, subst}
use Rattle.std.specs.Prelude.{IfSome}
use Rattle.global_model.specs.Facts.{facts_after, is_living_enclave}
use Rattle.xemem_language.specs.declared.line.Line.{Line}
use Rattle.global_model.specs.Journals.{onto}
use Rattle.enclave_node.specs.Nodes.{NodeView}
use Rattle.node_world.specs.Appended.{words_by}
use Rattle.node_world.specs.Shown.{IsNodeOf, IsFedBy}
use Rattle.node_world.proofs.Lendings.{none_lent, lent_none, some_lent, flowing_in, lent_node, lent_appended, lent_feeds, no_node}
use Rattle.node_world.proofs.world.World.node.Goals as goal

pub returns-clause-some : goal.returns-clause-some
returns-clause-some c =
    let h = c.self.invariant.history (ap (λ w. w.progress) c.self.view_is ∙ c.requires) in
    let P : _ → NodeView → Type 0 = λ journal node. IsNodeOf (facts_after journal) c.args.e.0 node in
    subst (λ j. IfSome c.node.result (λ b. P j b.now)) (ap (λ w. w.journal) c.self.view_is)
    (some_lent c.node.result (P c.self.inside.journal) (λ node is. lent_node _ c.self.inside.machine h.shown c.args.e.0 node (sym c.node.ensures ∙ is)))

pub returns-clause-feeds : goal.returns-clause-feeds
returns-clause-feeds c =
    let h = c.self.invariant.history (ap (λ w. w.progress) c.self.view_is ∙ c.requires) in
    let flowing = flowing_in c.laws.ensures c.self.inside.machine c.self.inside.journal h in
    let P : _ → NodeView → Type 0 = λ journal node. IsFedBy (facts_after journal) c.args.e.0 node in
    subst (λ j. IfSome c.node.result (λ b. P j b.now)) (ap (λ w. w.journal) c.self.view_is)
    (some_lent c.node.result (P c.self.inside.journal) (λ node is. lent_feeds c.laws.ensures _ c.self.inside.machine flowing h.shown c.args.e.0 node (sym c.node.ensures ∙ is)))

pub returns-clause-appended : goal.returns-clause-appended
returns-clause-appended c =
    let h = c.self.invariant.history (ap (λ w. w.progress) c.self.view_is ∙ c.requires) in
    let P : List Line → NodeView → Type 0 = λ journal node. node.appended ≡ words_by c.args.e.0 (onto journal []) in
    subst (λ j. IfSome c.node.result (λ b. P j b.now)) (ap (λ w. w.journal) c.self.view_is)
    (some_lent c.node.result (P c.self.inside.journal) (λ node is. lent_appended c.self.inside.machine c.self.inside.journal h c.args.e.0 node (sym c.node.ensures ∙ is)))

pub returns-clause-none : goal.returns-clause-none
returns-clause-none c =
    let h = c.self.invariant.history (ap (λ w. w.progress) c.self.view_is ∙ c.requires) in
    let both = no_node _ c.self.inside.machine h.shown c.args.e.0 in
    let living : _ ≡ _ = ap (λ w. is_living_enclave ((facts_after w.journal).enclave c.args.e.0)) c.self.view_is in
    (λ none. sym living ∙ both.0 (sym c.node.ensures ∙ lent_none c.node.result none), λ dead. none_lent c.node.result (c.node.ensures ∙ both.1 (living ∙ dead)))
