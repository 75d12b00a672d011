use Rattle.std.proofs.Common.{length, ap, ◌∙◌}
use Rattle.std.proofs.lemmas.List.{length-map}
use Rattle.frame_pool.specs.Blocks.{held_of, with_held}
use Rattle.frame_pool.proofs.FreeLemmas.{pool_held, written_back}
use Rattle.frame_pool.proofs.Pool.hold.Goals as goal

pub invariant_of-self : goal.invariant_of-self
invariant_of-self c =
    let states = c.self.inside.states.items in
    let new = c.hold_states.ensures ∙ ap (with_held c.args.of) c.deref_mut.ensures.value in
    let long = ap length new ∙ length-map states (held_of c.args.of) in
    rw (written_back c.self.inside.states.len c.hold_states.new.states states c.self.inside.states.ok.0 long, new) (pool_held c.args.of _ _ states c.self.invariant)
