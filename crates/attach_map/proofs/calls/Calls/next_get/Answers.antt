use Rattle.std.proofs.Common.{◌≡◌, ◌∙◌, rules, of_calls, ℕ, ap, sym, Some}
use Rattle.std.specs.Prelude.{slice_get, option_map}
use Rattle.std.specs.Map.Iter.{deref_pair}
use Rattle.std.proofs.lemmas.Fn.{always_returns_same}
use Rattle.attach_map.specs.declared.Waiting.{Waiting}
use Rattle.attach_map.proofs.SearchLemmas.{is_below, parted, starts, goes_on, found_here}
use Rattle.attach_map.proofs.calls.Calls.next_get.Goals as goal

pub loop-i-init : goal.loop-i-init
loop-i-init c =
    rw (← c.self.view_is)
    (starts c.args.owner c.args.from c.self.inside.map.entries c.partition_point-first.result
    (c.partition_point-first.ensures.partitioned (is_below c.args.from) (always_returns_same _ _ _ (λ a r f k. search (rules, of_calls))) (parted c.args.from c.self.inside.map.entries c.self.invariant)))

pub loop-i-preserved : goal.loop-i-preserved
loop-i-preserved c =
    let row : ℕ × Waiting = (c.unwrap.result.0.now, c.unwrap.result.1.now) in
    let is : slice_get c.args.self.now c.loop-i.i ≡ Some row = rw (← c.self.view_is) (sym c.get_index.ensures.entry ∙ ap (option_map deref_pair) c.unwrap.ensures) in
    goes_on c.args.owner c.args.from c.args.self.now c.loop-i.i row c.loop-i.invariant is (sym c.gets_from_owner.ensures ∙ c.if-gets_from_owner.false)

pub returns-then-gets_from_owner : goal.returns-then-gets_from_owner
returns-then-gets_from_owner c =
    let row : ℕ × Waiting = (c.unwrap.result.0.now, c.unwrap.result.1.now) in
    let is : slice_get c.args.self.now c.loop-i.i ≡ Some row = rw (← c.self.view_is) (sym c.get_index.ensures.entry ∙ ap (option_map deref_pair) c.unwrap.ensures) in
    sym (ap (option_map (λ (r : ℕ × Waiting). r.0)) (found_here c.args.owner c.args.from c.args.self.now c.loop-i.i row c.loop-i.invariant is (sym c.gets_from_owner.ensures ∙ c.if-gets_from_owner.true)))
