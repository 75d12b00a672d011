use Rattle.route_learn.proofs.PastLemmas.{filters}
use Rattle.route_learn.proofs.laws.routes_are_filters.Goals as goal

pub returns : goal.returns
returns c =
    let laws = c.row_laws.ensures in
    record {
      way = λ holder events. (filters laws holder events).way;
      back = λ holder events d. (filters laws holder events).back d;
      routes = λ holder events d. (filters laws holder events).routes d;
      askers = λ holder events n. (filters laws holder events).askers n;
      ascending = λ holder events. (filters laws holder events).ascending;
    }
