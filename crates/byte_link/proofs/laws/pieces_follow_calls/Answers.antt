use Rattle.std.proofs.Common.{refl}
use Rattle.byte_link.proofs.PieceLemmas.{concat-first}
use Rattle.byte_link.proofs.LawLemmas.{pieces-sent, pieces-taken, pieces-ended, bytes-left_of}
use Rattle.byte_link.proofs.laws.pieces_follow_calls.Goals as goal

pub returns : goal.returns
returns c =
    record {
      new = refl;
      send = pieces-sent;
      take = pieces-taken;
      end = pieces-ended;
      bytes = bytes-left_of;
      cut = λ records kept. concat-first kept records;
    }
