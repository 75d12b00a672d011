use Rattle.std.proofs.Common.{ap}
use Rattle.permit_check.proofs.TableLemmas.{granted, asks_maker, asks_group, asks_others, digits_below}
use Rattle.permit_check.specs.Permits.{class_of, grants, is_met}
use Rattle.permit_check.proofs.laws.permits_follow_the_table.Goals as goal

pub returns-clause-maker : goal.returns-clause-maker
unfolding is_met
returns-clause-maker c maker group others maker_uid maker_gid gid access m g o =
    rw (asks_maker maker_uid maker_gid gid) ((granted access maker group others m g o).to_maker)

pub returns-clause-group : goal.returns-clause-group
unfolding is_met
returns-clause-group c maker group others maker_uid maker_gid uid access m g o other =
    rw (asks_group maker_uid maker_gid uid other) ((granted access maker group others m g o).to_group)

pub returns-clause-others : goal.returns-clause-others
unfolding is_met
returns-clause-others c maker group others maker_uid maker_gid uid gid access m g o user other =
    rw (asks_others maker_uid maker_gid uid gid user other) ((granted access maker group others m g o).to_others)

pub returns-clause-above : goal.returns-clause-above
unfolding is_met
returns-clause-above c mode more maker_uid maker_gid uid gid access =
    ap (λ digit. grants digit access) (digits_below mode more (class_of maker_uid maker_gid uid gid))
