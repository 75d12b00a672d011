use Rattle.enclave_rules.proofs.Calls.{calls_own, shows_still}
use Rattle.enclave_rules.proofs.laws.calls_write_own_lines.Goals as goal

pub returns : goal.returns
returns c = record { calls = calls_own; shows = shows_still }
