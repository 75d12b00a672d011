use Rattle.std.proofs.Common.{sym, ◌∙◌, subst, arith, length-drop}
use Rattle.std.proofs.KnownBytes.{Appends-trans}
use Rattle.std.proofs.Math.Seq.{take-add}
use Rattle.std.proofs.lemmas.List.{take_rest}
use Rattle.std.specs.Io.KnownBytes.{Appends}
use Rattle.xm_edge.proofs.whole.write_all.Goals as goal

pub loop-at-preserved : goal.loop-at-preserved
loop-at-preserved g c = record {
  put = subst (Appends (g.K.Sink.contents c.args.sink.now) (g.K.Sink.contents c.put.new.self)) (sym (take-add c.loop-at.at c.in_ok-at.field-0 c.args.piece.now)) (Appends-trans _ _ _ _ _ c.loop-at.invariant.put (rw take_rest at c.in_ok-at.ensures.bytes));
  within = let short = rw (take_rest, length-drop) at c.in_ok-at.ensures.bound in omega (arith, c.loop-at-test.true);
  tells = c.in_ok-at.ensures.tells ∙ c.loop-at.invariant.tells;
  faults = cc (c.in_ok-at.ensures.cause.kept);
}
