use Rattle.std.proofs.Common.{refl}
use Rattle.xm_num.specs.Rows.{at}
use Rattle.worked_examples.proofs.examples.needless_names_are_dropped.Goals as goal

pub returns : goal.returns
unfolding at
returns c = record {
  first_name = refl;
  later_name = refl;
  name_of_no_call = refl;
  name_that_is_live = refl;
  request_from_the_way = refl;
  end_from_the_way = refl;
  name_without_a_route = refl;
  own_end = refl;
  end_of_anothers = refl;
  end_of_none = refl;
}
