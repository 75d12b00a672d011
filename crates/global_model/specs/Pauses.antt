-- A journal as steps, between which there are pauses: a line by itself, a birth with all that follows it, the bytes that are taken,
-- and a record that is got with what its receiver makes of it. So a law that holds at the first pause, and is kept by each step,
-- holds at every pause, whatever the commands were.
use Rattle.std.specs.Prelude.{◌≡◌, ◌+◌, ◌/◌, Some, None, ◌<◌, ℕ, List, [], ◌∷◌, ◌++◌, take, Bool, true, false}
use Rattle.xm_num.specs.declared.Enclave.{Enclave}
use Rattle.xm_num.specs.declared.Kind.{Kind}
use Rattle.xm_num.specs.declared.Kind.TheVariants as kinds
use Rattle.xm_num.specs.declared.Block.{Block}
use Rattle.xm_num.specs.declared.Access.{Access}
use Rattle.xm_num.specs.declared.Frame.{Frame}
use Rattle.xm_num.specs.declared.Pid.{Pid}
use Rattle.xm_num.specs.declared.Vpn.{Vpn}
use Rattle.xm_num.specs.declared.Want.{Want}
use Rattle.xemem_language.specs.declared.command.Command.{Command}
use Rattle.xemem_language.specs.declared.command.Command.TheVariants as commands
use Rattle.xemem_language.specs.declared.call.Call.{Call}
use Rattle.xemem_language.specs.declared.call.Call.TheVariants as calls
use Rattle.xemem_language.specs.Calls.{call_of}
use Rattle.xemem_language.specs.declared.line.Line.{Line}
use Rattle.xemem_language.specs.declared.line.Line.TheVariants as lines
use Rattle.xemem_language.specs.declared.record.Record.{Record}
use Rattle.enclave_rules.specs.Core.{host}
use Rattle.enclave_rules.specs.Hand.{Calls}
use Rattle.enclave_rules.specs.View.{View}
use Rattle.enclave_rules.specs.Calls.{at_hand}
use Rattle.enclave_rules.specs.Segments.{make_acts, remove_acts}
use Rattle.enclave_rules.specs.Steps.{adopt_lines, birth_lines, handled_lines, host_lines}
use Rattle.global_model.specs.Apt.{IsBirth, IsTaking, NothingArrives}
use Rattle.global_model.specs.Channels.{arriving, is_neighbour}
use Rattle.global_model.specs.Facts.{Facts, after_lines, lives_at, no_channel}
use Rattle.global_model.specs.Flow.{AreWays, IsFlow, IsServer, IsTree}
use Rattle.global_model.specs.Parts.{Birth, Admission, Warning, Death, Kill, Calling, Sending, Delivery, Receipt, Asking, Learning, Noting, Lacks}
use Rattle.global_model.specs.Refusals.{refusal_of}
use Rattle.global_model.specs.Space.{space_of, unused_frames}
use Rattle.global_model.specs.Views.{view_of}

pub data Step : Type 0 where
  Written : (line : Line) → Step
  Hosts : (ns : Bool) (blocks : List Block) → Step
  Bears : (child : Enclave) (kind : Kind) (parent : Enclave) (ns : Bool) (blocks : List Block) → Step
  Takes : (x y : Enclave) (count : ℕ) → Step
  Handles : (x y : Enclave) (r : Record) → Step
  Asks : (e : Enclave) (p : Pid) (call : Call) → Step

-- what an enclave writes for a call that may need another enclave, where it isn't refused
abbrev pub asked_lines : View → Pid → Call → List Line
asked_lines v p (calls.Alloc at n) = []
asked_lines v p (calls.Make addr size mode) = make_acts (at_hand v p (calls.Make addr size mode)) v p
asked_lines v p (calls.Remove segid) = remove_acts v segid

-- the lines of a step, by the facts at the pause before it
abbrev pub written_by : Facts → Step → List Line
written_by G (Written line) = line ∷ []
written_by G (Hosts ns blocks) = host_lines blocks ns
written_by G (Bears child kind parent ns blocks) =
    birth_lines child kind parent blocks ns (G.heard parent.0) ++ adopt_lines (view_of G parent) child
written_by G (Takes x y count) = lines.Took x y count ∷ []
written_by G (Handles x y r) = handled_lines (view_of G y) x r
written_by G (Asks e p call) = asked_lines (view_of G e) p call

-- the lines of steps, each by the facts after those before it
abbrev pub written_in : Facts → List Step → List Line
written_in G [] = []
written_in G (step ∷ steps) = written_by G step ++ written_in (after_lines G (written_by G step)) steps

-- ---- which steps may come

-- the lowest unused frames are allocated, so many as the command wants, where it isn't refused
pub record MayAllocate (G : Facts) (e : Enclave) (p : Pid) (page : Vpn) (frames : List Frame) : Type 0 where
  pub count : ℕ
  pub lowest : frames ≡ take count (unused_frames G e.0)
  pub allowed : refusal_of G (commands.Alloc e p page count) ≡ None

-- the page of the address is mapped to the frame, where the command isn't refused
pub record MayTouch (G : Facts) (e : Enclave) (p : Pid) (page : Vpn) (frame : Frame) : Type 0 where
  pub addr : ℕ
  pub want : Want
  pub access : Access
  pub number : page.0 ≡ addr / 4096
  pub mapped : space_of G e.0 p.0 (addr / 4096) ≡ Some (record { frame = frame; access = access })
  pub allowed : refusal_of G (commands.Touch e p addr want) ≡ None

-- A line may stand by itself where it changes neither the tree nor what goes over channels nor what is known of ways. A pool is told
-- of before anything is born, and what a process does is what its command may.
abbrev pub MayStandAlone : Facts → Line → Type 0
MayStandAlone G (lines.Do (commands.Pool blocks)) = G.born ≡ 0
MayStandAlone G (lines.Proc e p uid gid) = (refusal_of G (commands.Proc e uid gid) ≡ None) × (p.0 ≡ (G.memory e.0).started + 1)
MayStandAlone G (lines.Alloc e p page frames) = MayAllocate G e p page frames
MayStandAlone G (lines.Touched e p page frame) = MayTouch G e p page frame
MayStandAlone G line =
    Lacks (Birth ∷ Admission ∷ Warning ∷ Death ∷ Kill ∷ Calling ∷ Sending ∷ Delivery ∷ Receipt ∷ Asking ∷ Learning ∷ Noting ∷ []) line

-- the record is the next that is whole at a living neighbour and wasn't got
pub record MayHandle (G : Facts) (x y : Enclave) (r : Record) : Type 0 where
  pub living : lives_at G y.0 ≡ true
  pub near : is_neighbour G x.0 y.0 ≡ true
  pub others : List Record
  pub next : arriving (G.channel x.0 y.0) ≡ r ∷ others

-- the call is a make or a remove that isn't refused, and is at hand
pub record MayAsk (G : Facts) (e : Enclave) (p : Pid) (call : Call) : Type 0 where
  pub command : Command
  pub asks : call_of command ≡ Some (record { enclave = e; pid = p; call = call })
  pub allowed : refusal_of G command ≡ None
  pub hand : G.hand ≡ Calls (record { enclave = e; pid = p; call = call })

abbrev pub MayCome : Facts → Step → Type 0
MayCome G (Written line) = NothingArrives G × MayStandAlone G line
MayCome G (Hosts ns blocks) = NothingArrives G × IsBirth G host kinds.Host host ns blocks
MayCome G (Bears child kind parent ns blocks) = NothingArrives G × IsBirth G child kind parent ns blocks × (0 < child.0)
MayCome G (Takes x y count) = IsTaking G x y count
MayCome G (Handles x y r) = MayHandle G x y r
MayCome G (Asks e p call) = NothingArrives G × MayAsk G e p call

-- ---- steps

-- at a pause the enclaves are a tree, one at most holds the name server, their ways name neighbours, each channel flows, and nothing was ever sent but between
-- neighbours
pub record IsPause (G : Facts) : Type 0 where
  pub tree : IsTree G
  pub server : IsServer G
  pub ways : AreWays G
  pub flows : (x y : ℕ) → IsFlow (G.channel x y)
  pub apart : (x y : ℕ) → is_neighbour G x y ≡ false → G.channel x y ≡ no_channel

-- each step may come at the pause before it
abbrev pub AreSteps : Facts → List Step → Type 0
AreSteps G [] = Unit {0}
AreSteps G (step ∷ steps) = IsPause G × MayCome G step × AreSteps (after_lines G (written_by G step)) steps

-- the lines are those of steps, each of which may come
pub record IsInSteps (G : Facts) (journal : List Line) : Type 0 where
  pub steps : List Step
  pub are : AreSteps G steps
  pub written : journal ≡ written_in G steps
