use Rattle.std.proofs.Common.{refl}
use Rattle.byte_link.proofs.LawLemmas.{carries_sent, carries_taken, carries_ended}
use Rattle.byte_link.proofs.laws.bytes_leave_in_order.Goals as goal

pub returns : goal.returns
returns c =
    record {
      new = record { whole = refl };
      send = carries_sent;
      take = carries_taken;
      end = carries_ended;
      take_end = λ c all left cut h. record { whole = h.whole };
    }
