use Rattle.std.proofs.Common.{◌∙◌}
use Rattle.holder_table.proofs.HolderLemmas.{named_is}
use Rattle.holder_table.proofs.Holders.is_named.Goals as goal

pub returns : goal.returns
returns g c = c.is_some.ensures ∙ named_is c.args.self.now c.next_holder.ensures.ascending c.args.segid.0 c.next_holder.result c.next_holder.ensures.least c.next_holder.ensures.none
