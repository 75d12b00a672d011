use Rattle.std.proofs.Common.{◌≡◌, ap, sym, ◌∙◌, subst}
use Rattle.std.specs.Prelude.{IfSome}
use Rattle.byte_link.specs.Channel.{Channel, waiting_bytes}
use Rattle.global_model.specs.Facts.{facts_after}
use Rattle.global_model.specs.Channels.{is_neighbour, waiting_in}
use Rattle.node_world.proofs.Lendings.{none_lent, lent_none, some_lent, flowing_in, link_waits, link_none, none_link}
use Rattle.node_world.proofs.world.World.link.Goals as goal

pub returns-clause-some : goal.returns-clause-some
returns-clause-some c =
    let h = c.self.invariant.history (ap (λ w. w.progress) c.self.view_is ∙ c.requires) in
    let flowing = flowing_in c.laws.ensures c.self.inside.machine c.self.inside.journal h in
    let P : _ → Channel → Type 0 = λ journal link. waiting_bytes link ≡ waiting_in (facts_after journal) c.args.from.0 c.args.to.0 in
    subst (λ j. IfSome c.link.result (λ b. P j b.now)) (ap (λ w. w.journal) c.self.view_is)
    (some_lent c.link.result (P c.self.inside.journal) (λ link is. link_waits c.laws.ensures _ c.self.inside.machine flowing h.shown c.args.from c.args.to link (sym c.link.ensures ∙ is)))

pub returns-clause-none : goal.returns-clause-none
returns-clause-none c =
    let h = c.self.invariant.history (ap (λ w. w.progress) c.self.view_is ∙ c.requires) in
    let flowing = flowing_in c.laws.ensures c.self.inside.machine c.self.inside.journal h in
    let near : _ ≡ _ = ap (λ w. is_neighbour (facts_after w.journal) c.args.from.0 c.args.to.0) c.self.view_is in (
      λ none. sym near ∙ link_none _ c.self.inside.machine flowing h.shown c.args.from c.args.to (sym c.link.ensures ∙ lent_none c.link.result none),
      λ far. none_lent c.link.result (c.link.ensures ∙ none_link _ c.self.inside.machine flowing h.shown c.args.from c.args.to (near ∙ far)),
    )
