use Rattle.xm_num.proofs.RowLemmas.{at_put, at_less, put_ascends, less_ascends, any_is_lowest, any_is_at, same_rows}
use Rattle.xm_num.proofs.laws.rows.Goals as goal

pub returns : goal.returns
returns g c =
    record {
      put = at_put;
      less = at_less;
      put_ascends = put_ascends;
      less_ascends = less_ascends;
      any = any_is_lowest;
      any_at = any_is_at;
      same = same_rows;
    }
