use Rattle.xemem_wire.proofs.SpellingLemmas.{body_is_spelled}
use Rattle.xemem_wire.proofs.laws.body_is_spelled.Goals as goal

pub returns : goal.returns
returns c = body_is_spelled
