-- What an enclave is: its place in the tree, its blocks, its children, the deaths it knows of; and how it names frames.
use Rattle.std.specs.Prelude.{◌+◌, ℕ, List, [], ◌∷◌, map, Bool, true, false, ◌==◌, nat_lt, if◌then◌else◌, slice_index_or}
use Rattle.xm_num.specs.declared.Enclave.{Enclave}
use Rattle.xm_num.specs.declared.Kind.{Kind}
use Rattle.xm_num.specs.declared.Kind.TheVariants as kinds
use Rattle.xm_num.specs.declared.Block.{Block}
use Rattle.xm_num.specs.declared.Frame.{Frame}
use Rattle.xm_num.specs.Rows.{put}
use Rattle.xemem_language.specs.declared.line.Line.{Line}
use Rattle.xemem_language.specs.declared.line.Line.TheVariants as lines
use Rattle.enclave_rules.specs.Pages.{Ascend, frames_of}

-- Its kind, parent and blocks; whether it holds the name server, and is admitted; the deaths it knows of, ascending; and its
-- children and their kinds, by their numbers.
pub record CoreView : Type 0 where
  pub kind : Kind
  pub parent : Enclave
  pub blocks : List Block
  pub holder : Bool
  pub admitted : Bool
  pub heard : List Enclave
  pub children : List (ℕ × Kind)

-- the host is enclave 0
abbrev pub host : Enclave
host = record { 0 = 0 }

abbrev pub unborn_core : CoreView
unborn_core = record { kind = kinds.Host; parent = host; blocks = []; holder = false; admitted = false; heard = []; children = [] }

-- the deaths ascend
abbrev pub AreDeaths : List Enclave → Type 0
AreDeaths heard = Ascend (map (λ d. d.0) heard)

-- with a death more, in its place
abbrev pub with_death : Enclave → List Enclave → List Enclave
with_death d [] = d ∷ []
with_death d (x ∷ heard) =
    if nat_lt d.0 x.0 then d ∷ x ∷ heard
    else (if d.0 == x.0 then x ∷ heard
    else x ∷ with_death d heard)

-- the enclave itself is born
abbrev pub as_born : Kind → Enclave → Bool → List Block → CoreView → CoreView
as_born kind parent ns blocks c = record c { kind = kind; parent = parent; blocks = blocks; holder = ns }

-- a child of this kind is born under the enclave
abbrev pub with_child : Enclave → Kind → CoreView → CoreView
with_child child kind c = record c { children = put c.children child.0 kind }

-- what a line at enclave `e` changes of it
abbrev pub core_line : ℕ → CoreView → Line → CoreView
core_line e c (lines.Born child kind parent ns blocks) =
    if child.0 == e then as_born kind parent ns blocks c else (if parent.0 == e then with_child child kind c else c)
core_line e c (lines.Told of dead) = record c { heard = with_death dead c.heard }
core_line e c (lines.Heard of dead) = record c { heard = with_death dead c.heard }
core_line e c (lines.Admitted of) = record c { admitted = true }
core_line e c line = c

-- ---- the names of frames

-- a virtual machine numbers its frames from 0, in the order of its blocks
abbrev pub is_guest : Kind → Bool
is_guest kinds.Host = false
is_guest kinds.Cokernel = false
is_guest kinds.Vm = true

-- the place of a frame in a list
abbrev pub place_in : List Frame → Frame → ℕ
place_in [] f = 0
place_in (x ∷ frames) f = if x.0 == f.0 then 0 else place_in frames f + 1

-- how the enclave names a frame of the machine
abbrev pub local_frame : Kind → List Block → Frame → Frame
local_frame kind blocks f = if is_guest kind then record { 0 = place_in (frames_of blocks) f } else f

-- the frame of the machine that it names so
abbrev pub machine_frame : Kind → List Block → Frame → Frame
machine_frame kind blocks f = if is_guest kind then slice_index_or (frames_of blocks) f.0 f else f

-- a line of the journal as the enclave that wrote it names frames
abbrev pub local_line : Kind → List Block → Line → Line
local_line kind blocks (lines.Alloc e p page frames) = lines.Alloc e p page (map (local_frame kind blocks) frames)
local_line kind blocks line = line
