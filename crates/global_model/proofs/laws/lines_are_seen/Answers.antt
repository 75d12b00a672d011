use Rattle.global_model.proofs.Views.{of_records, seen_own, seen_other}
use Rattle.global_model.proofs.laws.lines_are_seen.Goals as goal

pub returns : goal.returns
returns c = record { own = λ G v ls. seen_own ls G v; others = λ G y w ls. seen_other ls G y w; of = of_records }
