use Rattle.std.proofs.Common.{◌≡◌, ◌<◌, length, set, ap, sym, ◌∙◌, arith, rules}
use Rattle.std.proofs.lemmas.List.{get_or_read, set-get_or}
use Rattle.std.proofs.lemmas.List.Edits.{map_over_more}
use Rattle.frame_pool.specs.declared.BlockState.TheVariants.{Free, Held}
use Rattle.frame_pool.specs.Blocks.{freed_of}
use Rattle.frame_pool.proofs.FreeLemmas.{length-free_from, pool_freed, freed_of-other, freed_of-held, length-mapped_front}
use Rattle.frame_pool.proofs.Pool.free_held.Goals as goal
use Rattle.frame_pool.proofs.Pool.free_held.Goals.{then-eq, else-eq}

pub overflow_add-self : goal.overflow_add-self
overflow_add-self c =
    let pool = c.loop-i.invariant.pool in
    let few = length-free_from 0 c.loop-i.self-inside.states.items in
    let count = pool.counted in
    let most = pool.most in
    omega arith

pub loop-i-preserved : goal.loop-i-preserved
loop-i-preserved c =
    let i = c.loop-i.i in
    let states = c.loop-i.self-inside.states.items in
    let state = c.index.result.now in
    let all = c.args.self.now in
    let long = ap length c.self.view_is in
    let kept = ap length c.loop-i.invariant.freed ∙ length-mapped_front (freed_of c.args.of) i all in
    let within : i < length all = omega (arith, long) in
    let step = map_over_more (freed_of c.args.of) all states i state within c.loop-i.invariant.freed c.index.ensures in
    elim c.if-eq.branch [
      | then-eq w ↦ (
          let held : state ≡ Held c.args.of = search rules in
          let read = get_or_read states i state (omega (arith, kept)) c.index.ensures Free in
          let pool = pool_freed c.args.of c.loop-i.self-inside.free c.loop-i.self-inside.low i states c.loop-i.invariant.pool (omega (arith, kept)) (sym read ∙ held) in
          let free = freed_of-held c.args.of state held in
          rw (w.self-inside-is, w.min-self-inside.ensures) (record { pool = pool; freed = rw free at step }))
      | else-eq w ↦ (
          let other : (state ≡ Held c.args.of) → ⊥ = search rules in
          let same = ap (λ s. set states i s) (freed_of-other c.args.of state other) ∙ ap (λ s. set states i s) c.index.ensures ∙ set-get_or states i state in
          rw w.self-inside-is (record { pool = c.loop-i.invariant.pool; freed = sym same ∙ step }))
    ]
