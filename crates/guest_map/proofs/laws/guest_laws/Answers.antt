use Rattle.guest_map.proofs.GuestLemmas.{laws_hold}
use Rattle.guest_map.proofs.laws.guest_laws.Goals as goal

pub returns : goal.returns
returns c = laws_hold c.row_laws.ensures
