use Rattle.exporter_pins.proofs.OwnerLemmas.{search_none}
use Rattle.exporter_pins.proofs.owners.place_of.Goals as goal

pub returns-clause-none : goal.returns-clause-none
returns-clause-none c = search_none c.args.frames.now c.args.number c.binary_search.result c.ok.result c.requires c.binary_search.ensures.position c.ok.ensures.value
