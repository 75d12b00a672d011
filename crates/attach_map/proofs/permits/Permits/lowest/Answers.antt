use Rattle.std.proofs.Common.{◌∙◌, sym}
use Rattle.attach_map.specs.Attaching.{is_of}
use Rattle.attach_map.proofs.PermitLemmas.{found_row}
use Rattle.attach_map.proofs.permits.Permits.lowest.Goals as goal

pub returns-clause-held : goal.returns-clause-held
returns-clause-held c =
    rw c.named.ensures (found_row c.row_laws.ensures (is_of c.args.of) c.args.self.now c.lowest_number.ensures.ascending c.in_ok-number.number (sym c.lowest_number.ensures.value ∙ c.in_ok-number.was))
