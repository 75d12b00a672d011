use Rattle.xemem_wire.proofs.KeptLemmas.{kept_nothing, decoded_nothing}
use Rattle.xemem_wire.proofs.decoder.Decoder.new.Goals as goal

pub invariant_of-result : goal.invariant_of-result
invariant_of-result c = kept_nothing c.new.result.items c.new.ensures.items

pub returns : goal.returns
returns c = decoded_nothing c.new.result.items c.new.ensures.items
