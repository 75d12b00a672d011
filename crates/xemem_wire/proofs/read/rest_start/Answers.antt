use Rattle.std.proofs.Common.{arith, rules, sym, ◌∙◌}
use Rattle.xemem_wire.proofs.StreamLemmas.{Passes, some_passes, none_rests}
use Rattle.xemem_wire.proofs.read.rest_start.Goals as goal

passes : (c : goal.In-Some) → Passes c.args.bytes.now c.loop-length.at c.in-Some.length
passes c = some_passes c.args.bytes.now c.loop-length.at c.in-Some.length c.loop-length.invariant.within c.in-Some.ensures

pub overflow_add-at : goal.overflow_add-at
overflow_add-at c =
    let p : Passes c.args.bytes.now c.loop-length.at c.in-Some.length = passes c in
    search (rules, p.within)

pub loop-length-smaller : goal.loop-length-smaller
loop-length-smaller c =
    let p : Passes c.args.bytes.now c.loop-length.at c.in-Some.length = passes c in
    omega arith

pub loop-length-preserved : goal.loop-length-preserved
loop-length-preserved c =
    let p : Passes c.args.bytes.now c.loop-length.at c.in-Some.length = passes c in
    record { order = omega arith; within = p.within; rest = p.rest ∙ c.loop-length.invariant.rest }

pub returns-clause-rest : goal.returns-clause-rest
returns-clause-rest c =
    sym (none_rests c.args.bytes.now c.loop-length.at c.in_default.ensures) ∙ c.loop-length.invariant.rest
