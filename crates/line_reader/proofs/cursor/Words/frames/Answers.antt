use Rattle.std.proofs.Common.{sym, ◌∙◌}
use Rattle.line_reader.specs.Slots.{frame}
use Rattle.line_reader.proofs.ListLemmas.{fewer, reached-more, reached-none, reached-all}
use Rattle.line_reader.proofs.cursor.Words.frames.Goals as goal

pub returns-in_default : goal.returns-in_default
returns-in_default c =
    reached-none frame c.loop-self.frames c.loop-self.self c.args.self.now (sym c.is_empty.ensures ∙ c.loop-self-test.true) c.in_default.ensures c.loop-self.invariant

pub loop-self-smaller : goal.loop-self-smaller
loop-self-smaller c = fewer c.laws.ensures frame c.loop-self.self c.frame.new.self c.in-Some.frame (sym c.in-Some.ensures)

pub loop-self-preserved : goal.loop-self-preserved
loop-self-preserved c =
    rw c.in_ok-push.ensures.ok (reached-more c.laws.ensures frame c.loop-self.frames c.in-Some.frame c.loop-self.self c.frame.new.self _ c.in-Some.ensures c.loop-self.invariant)

pub returns : goal.returns
returns c = reached-all frame c.loop-self.frames c.loop-self.self c.args.self.now (sym c.is_empty.ensures ∙ c.loop-self-test.false) c.loop-self.invariant
