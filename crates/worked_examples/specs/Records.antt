-- An enclave that has learned all that it needs, and records that bring it nothing.
use Rattle.std.specs.Prelude.{ℕ, List, [], ◌∷◌, true, None, Some, Option}
use Rattle.xm_num.specs.declared.CallNo.{CallNo}
use Rattle.xm_num.specs.declared.Enclave.{Enclave}
use Rattle.xm_num.specs.declared.Kind.TheVariants as kinds
use Rattle.xemem_language.specs.declared.line.Line.{Line}
use Rattle.xemem_language.specs.declared.line.Line.TheVariants as lines
use Rattle.attach_map.specs.declared.Waiting.{Waiting}
use Rattle.attach_map.specs.declared.Pending.TheVariants as pendings
use Rattle.exporter_pins.specs.Holdings.{Export}
use Rattle.enclave_rules.specs.Core.{host, unborn_core}
use Rattle.enclave_rules.specs.Memory.{no_memory}
use Rattle.enclave_rules.specs.Names.{segid_of}
use Rattle.enclave_rules.specs.Ways.{no_ways}
use Rattle.enclave_rules.specs.View.{View, unborn_view}

abbrev pub numbered : ℕ → Enclave
numbered e = record { 0 = e }

-- enclave 1 under the host, over which its way goes. It is admitted and has the child 2.
abbrev pub learned : View
learned = record (unborn_view 0 (numbered 1)) {
  core = record unborn_core { kind = kinds.Cokernel; parent = host; admitted = true; children = (2, kinds.Cokernel) ∷ [] };
  ways = record no_ways { way = Some host };
}

abbrev pub dropped : List Line
dropped = lines.Dropped (numbered 1) ∷ []

-- the way back is noted, and the record dropped
abbrev pub noted : ℕ → Enclave → List Line
noted e from = lines.Back (numbered 1) (numbered e) from ∷ dropped

abbrev pub call_numbered : ℕ → CallNo
call_numbered call = record { 0 = call }

-- the segment of a process without frames, by its segid if it is live
abbrev pub exported : Option ℕ → Export
exported segid = record { pid = 1; uid = 1; gid = 1; mode = 384; frames = []; segid = segid }

-- a make of the process that waits
abbrev pub waiting_make : ℕ → Waiting
waiting_make call = record { call = call_numbered call; pid = record { 0 = 1 }; living = true; what = pendings.Make }

-- enclave 1 once the segment of its first make is live under segid 1, and while its second make waits
abbrev pub asking : View
asking = record learned {
  memory = record no_memory { issued = 2; waiting = (2, waiting_make 2) ∷ [] };
  exports = (1, exported (Some 1)) ∷ (2, exported None) ∷ [];
  grants = [];
}

-- the second make is answered
abbrev pub answered : ℕ → List Line
answered segid =
    lines.Named (numbered 1) (call_numbered 2) (segid_of segid)
    ∷ lines.AnswerSegid (numbered 1) (record { 0 = 1 }) (call_numbered 2) (segid_of segid)
    ∷ []

-- the host, which holds the name server, and knows that enclave 1 has the segid 1
abbrev pub naming : View
naming = record (unborn_view 0 host) {
  core = record unborn_core { kind = kinds.Host; holder = true; admitted = true; children = (1, kinds.Cokernel) ∷ (2, kinds.Cokernel) ∷ [] };
  names = record { drawn = 1; pairs = (1, numbered 1) ∷ [] };
}

abbrev pub dropped_there : List Line
dropped_there = lines.Dropped host ∷ []
