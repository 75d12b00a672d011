use Rattle.xm_num.proofs.RowLemmas.{at_put, at_less, put_ascends, less_ascends, same_rows}
use Rattle.xm_num.proofs.RunLemmas.{at_none, at_head, at_later, at_before, at_put_all, at_less_all, put_all_ascends, put_all-push, taken_back, no_lowest_is, next_is, no_next_is}
use Rattle.xm_num.proofs.laws.row_laws.Goals as goal

pub returns : goal.returns
returns g c =
    record {
      none = at_none;
      head = at_head;
      later = at_later;
      before = at_before;
      put_at = at_put;
      less_at = at_less;
      put_all_at = at_put_all;
      less_all_at = at_less_all;
      put_ascends = put_ascends;
      less_ascends = less_ascends;
      put_all_ascends = put_all_ascends;
      same = same_rows;
      push = put_all-push;
      back = taken_back;
      no_lowest = no_lowest_is;
      next = next_is;
      no_next = no_next_is;
    }
