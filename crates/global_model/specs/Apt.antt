-- Apt lines: what a line must be like to come next, by the facts before it. It is on its turn, who writes it lives, it names
-- neighbours, and what it sends is valid.
use Rattle.std.specs.Prelude.{Some, ◌≡◌, ◌+◌, ◌/◌, ◌<◌, ◌≤◌, ℕ, List, [], ◌∷◌, length, take, Bool, ◌&&◌, true, false}
use Rattle.xm_num.specs.declared.Enclave.{Enclave}
use Rattle.xm_num.specs.declared.Pid.{Pid}
use Rattle.xm_num.specs.declared.Segid.{Segid}
use Rattle.xm_num.specs.declared.Frame.{Frame}
use Rattle.xm_num.specs.declared.Block.{Block}
use Rattle.xm_num.specs.declared.Kind.{Kind}
use Rattle.xemem_language.specs.declared.command.Command.{Command}
use Rattle.xemem_language.specs.declared.command.Command.TheVariants as commands
use Rattle.xemem_language.specs.declared.line.Line.{Line}
use Rattle.xemem_language.specs.declared.line.Line.TheVariants as lines
use Rattle.xemem_language.specs.declared.record.Record.{Record}
use Rattle.xemem_language.specs.Ranges.{IsName}
use Rattle.xemem_wire.specs.Spelling.{is_valid}
use Rattle.enclave_rules.specs.Core.{is_guest}
use Rattle.global_model.specs.Channels.{arriving, is_neighbour, waiting_in}
use Rattle.global_model.specs.Facts.{Facts, fact_of, after_line, facts_at, is_living_enclave, runs}
use Rattle.global_model.specs.Space.{frame_of, blocks_left, is_lent_to, unused_frames}
use Rattle.attach_map.specs.Attaching.{ProcessState}
use Rattle.xm_num.specs.declared.Page.{Page}
use Rattle.xm_num.specs.Rows.{at}

-- the next enclave is born with the lowest free blocks, under one that lives; the host's parent is written 0
pub record IsBirth (G : Facts) (e : Enclave) (kind : Kind) (parent : Enclave) (ns : Bool) (blocks : List Block) : Type 0 where
  pub room : G.born < 256
  pub next : e.0 ≡ G.born
  pub under : 0 < e.0 → is_living_enclave (G.enclave parent.0) ≡ true
  pub root : e.0 ≡ 0 → parent.0 ≡ 0
  pub plain : is_guest kind ≡ false
  pub one : (ns && G.server) ≡ false
  pub count : ℕ
  pub lowest : blocks ≡ take count (blocks_left G)

-- a process that lives gets the lowest unused frames of its enclave
pub record IsOwning (G : Facts) (e : Enclave) (p : Pid) (frames : List Frame) : Type 0 where
  pub living : is_living_enclave (G.enclave e.0) ≡ true
  pub running : runs G e.0 p.0 ≡ true
  pub count : ℕ
  pub lowest : frames ≡ take count (unused_frames G e.0)

-- the enclave lives, and that one is its neighbour
pub record IsNear (G : Facts) (e x : Enclave) : Type 0 where
  pub living : is_living_enclave (G.enclave e.0) ≡ true
  pub near : is_neighbour G e.0 x.0 ≡ true

-- no record that is whole waits to be got
abbrev pub NothingArrives : Facts → Type 0
NothingArrives G = (x y : ℕ) → arriving (G.channel x y) ≡ []

-- some of the bytes that wait at a living neighbour are taken
pub record IsTaking (G : Facts) (x y : Enclave) (count : ℕ) : Type 0 where
  pub between : IsNear G y x
  pub some : 1 ≤ count
  pub wait : count ≤ length (waiting_in G x.0 y.0)
  pub turn : NothingArrives G

-- a record that is whole at a living neighbour is got
pub record IsGetting (G : Facts) (x y : Enclave) : Type 0 where
  pub between : IsNear G y x
  pub rec : Record
  pub later : List Record
  pub arrives : arriving (G.channel x.0 y.0) ≡ rec ∷ later

pub record IsSending (G : Facts) (x y : Enclave) (r : Record) : Type 0 where
  pub between : IsNear G x y
  pub valid : is_valid r ≡ true

-- a segid's number is in its range, and the enclave that writes of it lives
pub record IsNaming (G : Facts) (e : Enclave) (segid : Segid) : Type 0 where
  pub living : is_living_enclave (G.enclave e.0) ≡ true
  pub range : IsName segid.0

-- the pool comes before all enclaves
abbrev pub IsAptCommand : Facts → Command → Type 0
IsAptCommand G (commands.Pool blocks) = G.born ≡ 0
IsAptCommand G command = Unit {0}

abbrev pub IsApt : Facts → Line → Type 0
IsApt G (lines.Do command) = IsAptCommand G command
IsApt G (lines.Born e kind parent ns blocks) = IsBirth G e kind parent ns blocks
IsApt G (lines.Told e dead) = ⊥
IsApt G (lines.Heard e dead) = ⊥
IsApt G (lines.Admitted e) = is_living_enclave (G.enclave e.0) ≡ true
IsApt G (lines.Proc e p uid gid) = (is_living_enclave (G.enclave e.0) ≡ true) × (p.0 ≡ (G.memory e.0).started + 1)
IsApt G (lines.Alloc e p page frames) = IsOwning G e p frames
IsApt G (lines.Issue e p call) = is_living_enclave (G.enclave e.0) ≡ true
IsApt G (lines.Drew e call segid) = IsNaming G G.holder segid
IsApt G (lines.Named e call segid) = IsNaming G e segid
IsApt G (lines.Unnamed segid) = IsNaming G G.holder segid
IsApt G (lines.Grant owner e call segid access) = IsNaming G owner segid
IsApt G (lines.Ungrant owner e call) = is_living_enclave (G.enclave owner.0) ≡ true
IsApt G (lines.Remove e segid) = IsNaming G e segid
IsApt G (lines.AnswerSegid e p call segid) = IsNaming G e segid
IsApt G (lines.AnswerApid e p call apid pages) = is_living_enclave (G.enclave e.0) ≡ true
IsApt G (lines.AnswerRefused e p call cause) = is_living_enclave (G.enclave e.0) ≡ true
IsApt G (lines.Release e call) = is_living_enclave (G.enclave e.0) ≡ true
IsApt G (lines.Name segid owner) = IsName segid.0
IsApt G (lines.Sent x y r) = IsSending G x y r
IsApt G (lines.Took x y count) = IsTaking G x y count
IsApt G (lines.Got x y) = IsGetting G x y
IsApt G (lines.Killed x cut) = ⊥
IsApt G (lines.End x y torn) = ⊥
IsApt G (lines.Asked e by) = IsNear G e by
IsApt G (lines.Way e over) = IsNear G e over
IsApt G (lines.Back e of over) = IsNear G e over
IsApt G (lines.Route e of over) = IsNear G e over
IsApt G line = Unit {0}

-- each line is apt by the facts after the lines before it
abbrev pub AreApt : Facts → List Line → Type 0
AreApt G [] = Unit {0}
AreApt G (line ∷ journal) = IsApt G line × AreApt (after_line G line) journal

abbrev pub AptAt : List Line → Line → Type 0
AptAt past line = IsApt (facts_at past) line

-- each page of a process is an own one, of a frame in a block that is lent to its enclave
pub record AreOwned (G : Facts) : Type 0 where
  pub own : (e p v : ℕ) (process : ProcessState) (page : Page) → at (G.memory e).processes p ≡ Some process → at process.pages v ≡ Some page → page.own ≡ true
  pub lent : (e p v : ℕ) (process : ProcessState) (page : Page) → at (G.memory e).processes p ≡ Some process → at process.pages v ≡ Some page
      → is_lent_to e (G.block ((frame_of (fact_of (G.enclave e)) page).0 / 64)) ≡ true

abbrev pub OwnedAt : List Line → Line → Type 0
OwnedAt past line = AreOwned (facts_at past)
