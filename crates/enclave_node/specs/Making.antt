-- What a node writes of calls, in parts.
use Rattle.std.specs.Prelude.{◌/◌, ℕ, List, [], ◌∷◌, take, length, nat_lt, if◌then◌else◌}
use Rattle.xm_num.specs.declared.Cause.TheVariants as causes
use Rattle.xm_num.specs.declared.Pid.{Pid}
use Rattle.xm_num.specs.declared.Vpn.{Vpn}
use Rattle.xm_num.specs.Sizes.{page_bytes}
use Rattle.xemem_language.specs.declared.call.Call.TheVariants as calls
use Rattle.xemem_language.specs.declared.line.Line.{Line}
use Rattle.xemem_language.specs.declared.line.Line.TheVariants as lines
use Rattle.enclave_rules.specs.View.{View}
use Rattle.enclave_rules.specs.Steps.{refusal, unused_in}
use Rattle.enclave_rules.specs.Segments.{make_acts}
use Rattle.enclave_rules.specs.Calls.{at_hand}
use Rattle.enclave_node.specs.Estates.{owns_pages}

-- the lowest unused frames become own pages, where they reach
abbrev pub given_lines : View → Pid → Vpn → ℕ → List Line
given_lines v p page n = if nat_lt (length (unused_in v)) n then refusal causes.NoFrames else lines.Alloc v.me p page (take n (unused_in v)) ∷ []

-- a make is issued, where all its pages are own ones
abbrev pub made_of : View → Pid → ℕ → ℕ → ℕ → List Line
made_of v p addr size mode =
    if owns_pages v.memory p.0 (addr / page_bytes) (size / page_bytes) then make_acts (at_hand v p (calls.Make addr size mode)) v p
    else refusal causes.NotMapped
