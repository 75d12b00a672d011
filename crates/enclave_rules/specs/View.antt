-- What an enclave knows, and what a line of its own changes in it.
use Rattle.std.specs.Prelude.{◌≡◌, ℕ, List, [], ◌∷◌, ◌||◌, Bool, ◌==◌, false, if◌then◌else◌, Option, None, Some}
use Rattle.std.specs.List.{AllByRecursion}
use Rattle.std.specs.Option.{option_map_or}
use Rattle.xm_num.specs.declared.Enclave.{Enclave}
use Rattle.xemem_language.specs.declared.line.Line.{Line}
use Rattle.xemem_language.specs.declared.line.Line.TheVariants as lines
use Rattle.enclave_rules.specs.Core.{CoreView, unborn_core, core_line}
use Rattle.enclave_rules.specs.Ways.{WaysView, no_ways, ways_line}
use Rattle.attach_map.specs.Attaching.{AttacherState}
use Rattle.exporter_pins.specs.Holdings.{Export}
use Rattle.name_server.specs.Names.{NamesState, no_names}
use Rattle.enclave_rules.specs.Memory.{no_memory, memory_line}
use Rattle.enclave_rules.specs.Exports.{exports_line}
use Rattle.enclave_rules.specs.Grants.{Grants, grants_line}
use Rattle.enclave_rules.specs.Names.{names_line}
use Rattle.enclave_rules.specs.Host.{HostView, no_host, free_pool, host_line}
use Rattle.enclave_rules.specs.Hand.{Hand}

-- The view of an enclave: its number, and a part for each layer. The last are what it keeps as the holder of the name server, and
-- as the host.
pub record View : Type 0 where
  pub me : Enclave
  pub core : CoreView
  pub ways : WaysView
  pub memory : AttacherState
  pub exports : List (ℕ × Export)
  pub grants : Grants
  pub names : NamesState
  pub host : HostView

-- what the host keeps of a pool of so many blocks before it is born
abbrev pub unborn_host : ℕ → HostView
unborn_host pool = record { states = free_pool pool; parents = [] }

-- the view of an enclave that isn't born
abbrev pub unborn_view : ℕ → Enclave → View
unborn_view pool e = record {
  me = e;
  core = unborn_core;
  ways = no_ways;
  memory = no_memory;
  exports = [];
  grants = [];
  names = no_names;
  host = if e.0 == 0 then unborn_host pool else no_host;
}

-- what a birth changes: in the core of the child and of its parent, and at the host
abbrev pub born_line : View → Line → View
born_line v line =
    record v { core = core_line v.me.0 v.core line; host = if v.me.0 == 0 then host_line v.host line else v.host }

-- what a line at the enclave changes in its view, by what is at hand: each line is of one layer, but for a death that is heard and a
-- call that is issued
abbrev pub own_line : Hand → View → Line → View
own_line hand v (lines.Born child kind parent ns blocks) = born_line v (lines.Born child kind parent ns blocks)
own_line hand v (lines.Told e of) = record v { core = core_line v.me.0 v.core (lines.Told e of) }
own_line hand v (lines.Heard e of) =
    record v { core = core_line v.me.0 v.core (lines.Heard e of); ways = ways_line v.core.parent v.ways (lines.Heard e of) }
own_line hand v (lines.Admitted e) = record v { core = core_line v.me.0 v.core (lines.Admitted e) }
own_line hand v (lines.Asked e by) = record v { ways = ways_line v.core.parent v.ways (lines.Asked e by) }
own_line hand v (lines.Way e over) = record v { ways = ways_line v.core.parent v.ways (lines.Way e over) }
own_line hand v (lines.Back e of over) = record v { ways = ways_line v.core.parent v.ways (lines.Back e of over) }
own_line hand v (lines.Route e of over) = record v { ways = ways_line v.core.parent v.ways (lines.Route e of over) }
own_line hand v (lines.Proc e p uid gid) = record v { memory = memory_line v.memory (lines.Proc e p uid gid) }
own_line hand v (lines.Alloc e p page frames) = record v { memory = memory_line v.memory (lines.Alloc e p page frames) }
own_line hand v (lines.Issue e p call) = record v {
  memory = memory_line v.memory (lines.Issue e p call);
  exports = exports_line hand v.memory v.exports (lines.Issue e p call);
}
own_line hand v (lines.Drew e call segid) = record v { names = names_line v.names (lines.Drew e call segid) }
own_line hand v (lines.Named e call segid) = record v { exports = exports_line hand v.memory v.exports (lines.Named e call segid) }
own_line hand v (lines.Unnamed segid) = record v { names = names_line v.names (lines.Unnamed segid) }
own_line hand v (lines.Grant owner e call segid access) = record v { grants = grants_line v.grants (lines.Grant owner e call segid access) }
own_line hand v (lines.Ungrant owner e call) = record v { grants = grants_line v.grants (lines.Ungrant owner e call) }
own_line hand v (lines.Remove e segid) = record v { exports = exports_line hand v.memory v.exports (lines.Remove e segid) }
own_line hand v (lines.AnswerSegid e p call segid) = record v { memory = memory_line v.memory (lines.AnswerSegid e p call segid) }
own_line hand v (lines.AnswerApid e p call apid pages) = record v { memory = memory_line v.memory (lines.AnswerApid e p call apid pages) }
own_line hand v (lines.AnswerRefused e p call cause) = record v { memory = memory_line v.memory (lines.AnswerRefused e p call cause) }
own_line hand v (lines.Release e call) = record v { memory = memory_line v.memory (lines.Release e call) }
own_line hand v line = v

-- what the lines of one step change
abbrev pub own_lines : Hand → View → List Line → View
own_lines hand v [] = v
own_lines hand v (line ∷ journal) = own_lines hand (own_line hand v line) journal

-- whose line it is: the enclave whose step wrote it, where one did; `holder` is the one with the name server
abbrev pub writer_of : Enclave → Line → Option Enclave
writer_of holder (lines.Born child kind parent ns blocks) = Some child
writer_of holder (lines.Told of dead) = Some of
writer_of holder (lines.Heard of dead) = Some of
writer_of holder (lines.Admitted of) = Some of
writer_of holder (lines.Proc of p uid gid) = Some of
writer_of holder (lines.Alloc of p page frames) = Some of
writer_of holder (lines.Touched of p page frame) = Some of
writer_of holder (lines.Issue of p call) = Some of
writer_of holder (lines.Drew e call segid) = Some holder
writer_of holder (lines.Named of call segid) = Some of
writer_of holder (lines.Unnamed segid) = Some holder
writer_of holder (lines.Grant owner e call segid access) = Some owner
writer_of holder (lines.Ungrant owner e call) = Some owner
writer_of holder (lines.Remove of segid) = Some of
writer_of holder (lines.AnswerSegid of p call segid) = Some of
writer_of holder (lines.AnswerApid of p call apid pages) = Some of
writer_of holder (lines.AnswerRefused of p call cause) = Some of
writer_of holder (lines.Release of call) = Some of
writer_of holder (lines.Deny of e call cause) = Some of
writer_of holder (lines.Sent x y r) = Some x
writer_of holder (lines.Took x y count) = Some y
writer_of holder (lines.Got x y) = Some y
writer_of holder (lines.End x y torn) = Some y
writer_of holder (lines.Dropped of) = Some of
writer_of holder (lines.Asked of by) = Some of
writer_of holder (lines.Way of over) = Some of
writer_of holder (lines.Back of d over) = Some of
writer_of holder (lines.Route of d over) = Some of
writer_of holder line = None

abbrev pub is_writer : Enclave → ℕ → Line → Bool
is_writer holder e line = option_map_or (λ of. of.0 == e) (writer_of holder line) false

-- the line is at the enclave: it wrote it; a birth is also at the parent and at the host
abbrev pub is_at : Enclave → Enclave → Line → Bool
is_at holder e (lines.Born child kind parent ns blocks) = (child.0 == e.0) || (parent.0 == e.0) || (e.0 == 0)
is_at holder e line = is_writer holder e.0 line

-- the line is one that the enclave may write for a record; `holder` is the one with the name server
abbrev pub IsOf : Enclave → Enclave → Line → Type 0
IsOf holder y (lines.Admitted e) = e ≡ y
IsOf holder y (lines.Asked e by) = e ≡ y
IsOf holder y (lines.Way e over) = e ≡ y
IsOf holder y (lines.Drew e call segid) = holder ≡ y
IsOf holder y (lines.Named e call segid) = e ≡ y
IsOf holder y (lines.Unnamed segid) = holder ≡ y
IsOf holder y (lines.AnswerSegid e p call segid) = e ≡ y
IsOf holder y (lines.Sent a b r) = a ≡ y
IsOf holder y (lines.Got a b) = b ≡ y
IsOf holder y (lines.Dropped e) = e ≡ y
IsOf holder y (lines.Back e of over) = e ≡ y
IsOf holder y (lines.Route e of over) = e ≡ y
IsOf holder y line = ⊥

abbrev pub AreOf : Enclave → Enclave → List Line → Type 0
AreOf holder y journal = AllByRecursion (IsOf holder y) journal

-- the line changes no view but that of the enclave, and not what is at hand
abbrev pub IsAbout : Enclave → Enclave → Line → Type 0
IsAbout holder y (lines.Do command) = ⊥
IsAbout holder y (lines.Born child kind parent ns blocks) = ⊥
IsAbout holder y (lines.Took a b count) = ⊥
IsAbout holder y (lines.Got a b) = ⊥
IsAbout holder y (lines.End a b torn) = ⊥
IsAbout holder y (lines.Told e dead) = e ≡ y
IsAbout holder y (lines.Heard e dead) = e ≡ y
IsAbout holder y (lines.Admitted e) = e ≡ y
IsAbout holder y (lines.Proc e p uid gid) = e ≡ y
IsAbout holder y (lines.Alloc e p page frames) = e ≡ y
IsAbout holder y (lines.Issue e p call) = e ≡ y
IsAbout holder y (lines.Drew e call segid) = holder ≡ y
IsAbout holder y (lines.Named e call segid) = e ≡ y
IsAbout holder y (lines.Unnamed segid) = holder ≡ y
IsAbout holder y (lines.Grant owner e call segid access) = owner ≡ y
IsAbout holder y (lines.Ungrant owner e call) = owner ≡ y
IsAbout holder y (lines.Remove e segid) = e ≡ y
IsAbout holder y (lines.AnswerSegid e p call segid) = e ≡ y
IsAbout holder y (lines.AnswerApid e p call apid pages) = e ≡ y
IsAbout holder y (lines.AnswerRefused e p call cause) = e ≡ y
IsAbout holder y (lines.Release e call) = e ≡ y
IsAbout holder y (lines.Asked e by) = e ≡ y
IsAbout holder y (lines.Way e over) = e ≡ y
IsAbout holder y (lines.Back e of over) = e ≡ y
IsAbout holder y (lines.Route e of over) = e ≡ y
IsAbout holder y line = Unit {0}

abbrev pub AreAbout : Enclave → Enclave → List Line → Type 0
AreAbout holder y journal = AllByRecursion (IsAbout holder y) journal
