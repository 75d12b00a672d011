use Rattle.global_model.proofs.Flow.{whole-sent, front_bytes, whole-rest}
use Rattle.global_model.proofs.laws.whole_records_stay.Goals as goal

pub returns : goal.returns
returns c = record { sent = whole-sent; bytes = front_bytes; got = whole-rest }
