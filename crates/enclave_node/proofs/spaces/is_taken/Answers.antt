use Rattle.std.proofs.Common.{◌+◌, ◌∙◌, ap, sym}
use Rattle.enclave_node.proofs.RowLemmas.{any_next, is_below}
use Rattle.enclave_node.proofs.spaces.is_taken.Goals as goal

pub returns-in-Some : goal.returns-in-Some
returns-in-Some g c = ap (is_below (c.args.at.0 + c.args.n)) c.in-Some.ensures.next ∙ sym (any_next _ c.args.at.0 (c.args.at.0 + c.args.n) c.in-Some.ensures.ascending)

pub returns-in-None : goal.returns-in-None
returns-in-None g c = ap (is_below (c.args.at.0 + c.args.n)) c.in-None.ensures.next ∙ sym (any_next _ c.args.at.0 (c.args.at.0 + c.args.n) c.in-None.ensures.ascending)
