use Rattle.std.proofs.Common.{refl}
use Rattle.xm_num.specs.Rows.{at}
use Rattle.worked_examples.proofs.examples.needless_records_are_dropped.Goals as goal

pub returns : goal.returns
unfolding at
returns c = record {
  second_here = refl;
  second_admit = refl;
  admit_without_a_way_back = refl;
  register_from_the_way = refl;
  own_register = refl;
}
