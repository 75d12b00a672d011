-- What the calls of gets, and the records that serve them, change of an enclave's estate.
use Rattle.std.specs.Prelude.{ℕ}
use Rattle.xm_num.specs.declared.CallNo.{CallNo}
use Rattle.xm_num.specs.declared.Enclave.{Enclave}
use Rattle.xm_num.specs.declared.Pid.{Pid}
use Rattle.xm_num.specs.declared.Segid.{Segid}
use Rattle.holder_table.specs.Holding.{with_held, without_held}
use Rattle.attach_map.specs.declared.Pending.{Pending}
use Rattle.attach_map.specs.Attaching.{call_issued, call_settled, owner_found, permit_granted, permit_released}
use Rattle.enclave_node.specs.Estates.{Estate}

-- the next call of the process waits for that
abbrev pub with_get : Pid → Pending → Estate → Estate
with_get pid what e = record e { memory = call_issued e.memory pid what }

-- a get waits for the owner of its segment
abbrev pub with_found : ℕ → Enclave → Estate → Estate
with_found call owner e = record e { memory = owner_found e.memory call owner }

-- a call waits no longer
abbrev pub with_ended : ℕ → Estate → Estate
with_ended call e = record e { memory = call_settled e.memory call }

-- the process of a get holds its permit
abbrev pub with_permit_taken : ℕ → ℕ → Estate → Estate
with_permit_taken call pages e = record e { memory = permit_granted e.memory call pages }

-- a permit is held no longer
abbrev pub with_released : ℕ → Estate → Estate
with_released apid e = record e { memory = permit_released e.memory apid }

-- a get of the enclave has a grant of the segment, or has none
abbrev pub with_grant_of : Enclave → CallNo → Segid → Estate → Estate
with_grant_of to call segid e = record e { grants = with_held e.grants to.0 call.0 (record { segid = segid; value = tt }) }

abbrev pub without_grant_of : Enclave → CallNo → Estate → Estate
without_grant_of to call e = record e { grants = without_held e.grants to.0 call.0 }
