use Rattle.std.proofs.Common.{arith}
use Rattle.name_server.proofs.IndexLemmas.{no_least, least}
use Rattle.name_server.proofs.tables.Index.lowest_of.Goals as goal

pub returns-in_err-segid : goal.returns-in_err-segid
returns-in_err-segid c =
    rw (c.from_residual.ensures, ← c.self.view_is)
    (λ k below. no_least c.self.inside.keys c.args.owner.0 18446744073709551615 c.new.result.start c.new.result.end c.new.ensures.start c.new.ensures.end c.range.result (c.range.ensures.in_range c.new.ensures.exhausted) c.in_err-segid.ensures.steps.0 k (omega arith))

pub returns : goal.returns
returns c =
    rw (← c.self.view_is)
    (least c.self.inside.keys c.args.owner.0 18446744073709551615 c.new.result.start c.new.result.end c.new.ensures.start c.new.ensures.end c.range.result (c.range.ensures.in_range c.new.ensures.exhausted) c.in_ok-segid.field-0.now c.next.new.self c.in_ok-segid.ensures.steps)
