use Rattle.std.proofs.Common.{◌≡◌, ◌-◌, ◌<◌, length, take, get_or, true, false, ap, ◌∙◌, arith, rules}
use Rattle.std.proofs.lemmas.List.{length_push}
use Rattle.std.proofs.lemmas.Grind.{common_steps}
use Rattle.frame_pool.specs.declared.BlockState.TheVariants.{Free}
use Rattle.frame_pool.specs.Blocks.{is_free, free_blocks}
use Rattle.frame_pool.proofs.FreeLemmas.{free_from-drop, found_free, passed_other}
use Rattle.frame_pool.proofs.LentLemmas.{lowest_free-within}
use Rattle.frame_pool.proofs.states.first_free.Goals as goal
use Rattle.frame_pool.proofs.states.first_free.Goals.{then-eq+in_ok-push, else-eq}

pub loop-number-init : goal.loop-number-init
loop-number-init c =
    let states = c.args.states.now in
    let later = free_from-drop c.args.low 0 c.args.low states (omega arith) c.requires.lowest in
    let all : c.args.n - 0 ≡ c.args.n = omega arith in
    rw c.new-blocks.ensures (record { few = omega arith; found = rw later (ap (λ m. take m (free_blocks states)) all) })

pub loop-number-preserved : goal.loop-number-preserved
loop-number-preserved c =
    let i = c.loop-number.number in
    let states = c.args.states.now in
    let blocks = c.loop-number.blocks in
    let few : length blocks < c.args.n = omega arith in
    elim c.if-eq.branch [
      | then-eq+in_ok-push w ↦ (
          let free : is_free (get_or states i Free) ≡ true = search rules in
          let pushed = w.blocks-is ∙ w.in_ok-push.ensures.ok in
          let step = found_free c.args.n i blocks states (omega arith) free few in
          rw pushed (record { few = omega (arith, length_push blocks (record { 0 = i })); found = step ∙ c.loop-number.invariant.found }))
      | else-eq w ↦ (
          let other : is_free (get_or states i Free) ≡ false = grind arith in
          let step = passed_other i states (omega arith) other in
          rw (w.blocks-is, step) (record { few = omega arith; found = c.loop-number.invariant.found }))
    ]

pub returns-then-len-n-clause-within : goal.returns-then-len-n-clause-within
returns-then-len-n-clause-within c =
    let found : c.loop-number.blocks ≡ take c.args.n (free_blocks c.args.states.now) = search rules in
    rw found (lowest_free-within c.args.n c.args.states.now)

pub returns-clause-within : goal.returns-clause-within
returns-clause-within c =
    let found : c.loop-number.blocks ≡ take c.args.n (free_blocks c.args.states.now) = grind (arith, common_steps) in
    rw found (lowest_free-within c.args.n c.args.states.now)
