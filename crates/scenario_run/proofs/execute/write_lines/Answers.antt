use Rattle.std.proofs.Common.{arith, length-take, length-drop}
use Rattle.scenario_run.proofs.WriteLemmas.{on_err, piece_put, piece_cut}
use Rattle.scenario_run.proofs.execute.write_lines.Goals as goal

pub returns-in_err-write_all-clause-err : goal.returns-in_err-write_all-clause-err
returns-in_err-write_all-clause-err g c =
    on_err c.from_residual.result (piece_cut _ _ _ c.args.text.now c.loop-at.at c.piece_length.result c.loop-at.invariant.within c.loop-at.invariant.put c.in_err-write_all.ensures.err)

pub loop-at-preserved : goal.loop-at-preserved
loop-at-preserved g c = record {
  put = piece_put _ _ _ c.args.text.now c.loop-at.at c.piece_length.result c.loop-at.invariant.put c.in_ok-write_all.ensures.ok;
  within = let fits = simp (length-take, length-drop) at c.piece_length.ensures.within in omega (arith, fits, c.loop-at.invariant.within);
  faults = cc (c.in_ok-write_all.ensures.cause.kept);
}
