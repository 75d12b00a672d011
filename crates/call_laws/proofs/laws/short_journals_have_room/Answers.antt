use Rattle.call_laws.proofs.Counts.{short_room}
use Rattle.call_laws.proofs.laws.short_journals_have_room.Goals as goal

pub returns : goal.returns
returns c = short_room
