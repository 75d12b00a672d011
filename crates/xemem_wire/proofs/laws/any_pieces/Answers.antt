use Rattle.xemem_wire.proofs.DecodingLemmas.{after_piece-append}
use Rattle.xemem_wire.proofs.LawLemmas.{any_pieces}
use Rattle.xemem_wire.proofs.laws.any_pieces.Goals as goal

pub returns-clause-two : goal.returns-clause-two
returns-clause-two c = after_piece-append

pub returns-clause-all : goal.returns-clause-all
returns-clause-all c = any_pieces
