use Rattle.history_laws.proofs.Heard.{way_is_heard, back_is_heard, route_is_heard, asker_is_heard}
use Rattle.history_laws.proofs.laws.ways_are_heard.Goals as goal

pub returns : goal.returns
returns c = record { way = way_is_heard; backs = back_is_heard c.laws.ensures; routes = route_is_heard c.laws.ensures; askers = asker_is_heard c.laws.ensures }
