use Rattle.std.proofs.Common.{sym, ◌∙◌}
use Rattle.holder_table.proofs.HolderLemmas.{one_fewer, forgets_one, forgotten}
use Rattle.holder_table.proofs.Holders.forget_enclave.Goals as goal

pub loop-call-smaller : goal.loop-call-smaller
loop-call-smaller g c = rw c.remove.ensures.rows (one_fewer c.loop-call.self c.args.gone.0 c.in-Some.ensures.ascending c.in-Some.call.0 c.in-Some.ensures.least)

pub loop-call-preserved : goal.loop-call-preserved
loop-call-preserved g c =
    record {
      same = rw c.remove.ensures.rows (forgets_one c.loop-call.self c.args.gone.0 c.in-Some.ensures.ascending c.in-Some.call.0 ∙ c.loop-call.invariant.same);
      was = λ _. c.loop-call.invariant.was c.in-Some.ensures.ascending;
    }

pub returns-clause-rows : goal.returns-clause-rows
returns-clause-rows g c = sym (forgotten c.loop-call.self c.args.gone.0 c.lowest.ensures.ascending c.in_default.ensures.none) ∙ c.loop-call.invariant.same
