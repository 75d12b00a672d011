use Rattle.name_server.specs.Names.{no_names}
use Rattle.name_server.proofs.DrawLemmas.{draws, in_order}
use Rattle.name_server.proofs.laws.names_are_filters.Goals as goal

pub returns : goal.returns
returns c =
    let laws = c.row_laws.ensures in
    record {
      segids = in_order no_names;
      drawn = λ events. (draws laws events).drawn;
      owners = λ events. (draws laws events).owners;
      names = λ events. (draws laws events).names;
    }
