use Rattle.holder_table.proofs.RowLemmas.{held_none, held_with, held_without, held_of_others, with_ascends, without_ascends, others_ascend, same_rows, found, seen}
use Rattle.holder_table.proofs.laws.holder_laws.Goals as goal

pub returns : goal.returns
returns g c =
    record {
      none = held_none;
      with_at = held_with;
      without_at = held_without;
      enclave_at = held_of_others;
      with_ascends = with_ascends;
      without_ascends = without_ascends;
      enclave_ascends = others_ascend;
      same = same_rows;
      found = found;
      seen = seen;
    }
