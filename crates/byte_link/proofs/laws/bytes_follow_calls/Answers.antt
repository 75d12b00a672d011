use Rattle.std.proofs.Common.{refl}
use Rattle.byte_link.proofs.LawLemmas.{waiting-sent, waiting-taken, waiting-ended}
use Rattle.byte_link.proofs.laws.bytes_follow_calls.Goals as goal

pub returns : goal.returns
returns c = record { new = refl; send = waiting-sent; take = waiting-taken; end = waiting-ended; take_end = λ _. refl }
