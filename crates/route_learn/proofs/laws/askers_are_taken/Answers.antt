use Rattle.std.proofs.Common.{reverse}
use Rattle.route_learn.specs.Routes.{no_routes}
use Rattle.route_learn.specs.Filters.{after_events}
use Rattle.route_learn.proofs.PastLemmas.{filters}
use Rattle.route_learn.proofs.AskerLemmas.{first_is, first_found, taken_is}
use Rattle.route_learn.proofs.laws.askers_are_taken.Goals as goal

pub returns : goal.returns
returns c =
    let laws = c.row_laws.ensures in
    record {
      first = λ holder events.
          let f = filters laws holder events in
          first_is holder (reverse events) laws (after_events (no_routes holder) events).askers f.askers f.ascending.askers;
      taken = λ holder events n m is.
          let f = filters laws holder events in
          taken_is holder (reverse events) n m (first_found holder (reverse events) laws (after_events (no_routes holder) events).askers f.askers f.ascending.askers n is);
    }
