use Rattle.xm_num.proofs.RunLemmas.{at_put_all, at_less_all, put_all_ascends, less_all_ascends, taken_back, lowest_is, no_lowest_is, next_is, no_next_is}
use Rattle.xm_num.proofs.laws.runs.Goals as goal

pub returns : goal.returns
returns g c =
    record {
      put_all = at_put_all;
      less_all = at_less_all;
      put_all_ascends = put_all_ascends;
      less_all_ascends = less_all_ascends;
      back = taken_back;
      lowest = lowest_is;
      no_lowest = no_lowest_is;
      next = next_is;
      no_next = no_next_is;
    }
