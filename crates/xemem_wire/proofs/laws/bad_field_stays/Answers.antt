use Rattle.std.proofs.Common.{ap}
use Rattle.xemem_wire.proofs.DecodingLemmas.{reading_of-fault, first_bad-fault}
use Rattle.xemem_wire.proofs.laws.bad_field_stays.Goals as goal

pub returns-clause-records : goal.returns-clause-records
returns-clause-records c bytes more bad e = ap (λ reading. reading.records) (reading_of-fault bytes more bad e)

pub returns-clause-bad : goal.returns-clause-bad
returns-clause-bad c = first_bad-fault
