-- The facts that a journal leaves: who lives, which blocks are lent, which pages are whose.
use Rattle.std.specs.Prelude.{◌+◌, ℕ, List, [], ◌∷◌, ◌++◌, Bool, true, false, ◌&&◌, ◌==◌, ◌||◌, if◌then◌else◌, Option, None, Some, is_some, slice_get}
use Rattle.std.specs.Option.{option_map_or}
use Rattle.xm_num.specs.declared.Enclave.{Enclave}
use Rattle.xm_num.specs.declared.Block.{Block}
use Rattle.xm_num.specs.declared.Kind.{Kind}
use Rattle.xm_num.specs.declared.Kind.TheVariants as kinds
use Rattle.xm_num.specs.Rows.{at}
use Rattle.frame_pool.specs.declared.BlockState.{BlockState}
use Rattle.frame_pool.specs.declared.BlockState.TheVariants as states
use Rattle.frame_pool.specs.Blocks.{is_listed}
use Rattle.xemem_language.specs.declared.record.Record.{Record}
use Rattle.xemem_language.specs.declared.command.Command.{Command}
use Rattle.xemem_language.specs.declared.command.Command.TheVariants as commands
use Rattle.xemem_language.specs.declared.line.Line.{Line}
use Rattle.xemem_language.specs.declared.line.Line.TheVariants as lines
use Rattle.enclave_rules.specs.Core.{host, local_line, with_death}
use Rattle.enclave_rules.specs.Ways.{WaysView, no_ways, ways_line}
use Rattle.attach_map.specs.Attaching.{AttacherState}
use Rattle.exporter_pins.specs.Holdings.{Export}
use Rattle.name_server.specs.Names.{NamesState, no_names}
use Rattle.enclave_rules.specs.Memory.{no_memory, memory_line}
use Rattle.enclave_rules.specs.Grants.{Grants, grants_line}
use Rattle.enclave_rules.specs.Exports.{exports_line}
use Rattle.enclave_rules.specs.Names.{names_line}
use Rattle.enclave_rules.specs.Hand.{Hand, Nothing, Reads, hand_of}

pub record EnclaveFact : Type 0 where
  pub kind : Kind
  pub parent : Enclave
  pub blocks : List Block
  pub ns : Bool
  pub living : Bool
  pub admitted : Bool

-- What went over a channel: the records that were sent, oldest first; how many of their bytes were taken, and how many of the
-- records were got; how many bytes were cut off at the end, and whether the end mark was taken. Nothing is cut off so far.
pub record ChannelFact : Type 0 where
  pub sent : List Record
  pub taken : ℕ
  pub got : ℕ
  pub cut : ℕ
  pub end_taken : Bool

abbrev pub no_channel : ChannelFact
no_channel = record { sent = []; taken = 0; got = 0; cut = 0; end_taken = false }

-- All facts. What is asked by a number is a function of it; a block beyond the pool has no state that counts. `born` counts the
-- enclaves, `starts` the processes that were started. `server` says that an enclave was born with the name server, and `holder` which
-- one; that is the host where none was. A channel is named by its sender and its receiver. Of each enclave, `ways`, `memory`,
-- `exports`, `grants` and `names` are the parts of its view, and `heard` are the deaths that it knows of. `hand` is what a step has
-- at hand: the call for which the last `do` line asks, or the record of the last `got`.
pub record Facts : Type 0 where
  pub pool : ℕ
  pub block : ℕ → BlockState
  pub born : ℕ
  pub enclave : ℕ → Option EnclaveFact
  pub server : Bool
  pub holder : Enclave
  pub heard : ℕ → List Enclave
  pub ways : ℕ → WaysView
  pub starts : ℕ
  pub memory : ℕ → AttacherState
  pub exports : ℕ → List (ℕ × Export)
  pub grants : ℕ → Grants
  pub names : ℕ → NamesState
  pub channel : ℕ → ℕ → ChannelFact
  pub hand : Hand

abbrev pub no_facts : Facts
no_facts = record {
  pool = 0;
  block = λ b. states.Free;
  born = 0;
  enclave = λ e. None;
  server = false;
  holder = host;
  heard = λ e. [];
  ways = λ e. no_ways;
  starts = 0;
  memory = λ e. no_memory;
  exports = λ e. [];
  grants = λ e. [];
  names = λ e. no_names;
  channel = λ x y. no_channel;
  hand = Nothing;
}

-- an enclave that isn't born
abbrev pub unborn_fact : EnclaveFact
unborn_fact = record { kind = kinds.Host; parent = host; blocks = []; ns = false; living = false; admitted = false }

abbrev pub fact_of : Option EnclaveFact → EnclaveFact
fact_of None = unborn_fact
fact_of (Some fact) = fact

-- a function with another value at one number
abbrev pub at_number : {A : Type 0} → ℕ → A → (ℕ → A) → ℕ → A
at_number k v f j = if j == k then v else f j

-- a function of two numbers, changed at one pair of them
abbrev pub at_pair : {A : Type 0} → ℕ → ℕ → (A → A) → (ℕ → ℕ → A) → ℕ → ℕ → A
at_pair x y h f a b = if (a == x) && (b == y) then h (f a b) else f a b

-- ---- what a line changes

abbrev pub with_sent : Record → ChannelFact → ChannelFact
with_sent r channel = record channel { sent = channel.sent ++ r ∷ [] }

abbrev pub with_taken : ℕ → ChannelFact → ChannelFact
with_taken n channel = record channel { taken = channel.taken + n }

abbrev pub with_got : ChannelFact → ChannelFact
with_got channel = record channel { got = channel.got + 1 }

-- the record that is got next gives itself into the hand
abbrev pub hand_after : ChannelFact → Hand
hand_after channel = option_map_or (λ r. Reads r) (slice_get channel.sent channel.got) Nothing

-- the blocks are lent to the enclave
abbrev pub lent_to : List Block → Enclave → (ℕ → BlockState) → ℕ → BlockState
lent_to blocks e block b = if is_listed blocks b then states.Lent e else block b

abbrev pub as_admitted : Option EnclaveFact → Option EnclaveFact
as_admitted None = None
as_admitted (Some fact) = Some (record fact { admitted = true })

-- a pool of so many blocks, all of them free
abbrev pub pool_after : Command → ℕ → ℕ
pool_after (commands.Pool blocks) pool = blocks
pool_after command pool = pool

abbrev pub block_after : Command → (ℕ → BlockState) → ℕ → BlockState
block_after (commands.Pool blocks) block = λ b. states.Free
block_after command block = block

-- a line of the layer of ways at the enclave
abbrev pub with_ways : Enclave → Line → Facts → Facts
with_ways e line G = record G { ways = at_number e.0 (ways_line (fact_of (G.enclave e.0)).parent (G.ways e.0) line) G.ways }

-- a line of the layer of memory at the enclave, as that names frames
abbrev pub with_memory : Enclave → Line → Facts → Facts
with_memory e line G =
    let fact = fact_of (G.enclave e.0) in
    record G { memory = at_number e.0 (memory_line (G.memory e.0) (local_line fact.kind fact.blocks line)) G.memory }

-- a line of the layer of exports at the enclave, by what is at hand and by its processes
abbrev pub with_exports : Enclave → Line → Facts → Facts
with_exports e line G = record G { exports = at_number e.0 (exports_line G.hand (G.memory e.0) (G.exports e.0) line) G.exports }

-- a line of the layer of grants at the owner of the segment
abbrev pub with_grants : Enclave → Line → Facts → Facts
with_grants e line G = record G { grants = at_number e.0 (grants_line (G.grants e.0) line) G.grants }

-- a line of the layer of names at the name server's enclave
abbrev pub with_names : Line → Facts → Facts
with_names line G = record G { names = at_number G.holder.0 (names_line (G.names G.holder.0) line) G.names }

-- a call that is issued: it waits, and what it exports is asked
abbrev pub with_call : Enclave → Line → Facts → Facts
with_call e line G = record (with_memory e line G) { exports = at_number e.0 (exports_line G.hand (G.memory e.0) (G.exports e.0) line) G.exports }

abbrev pub after_line : Facts → Line → Facts
after_line G (lines.Do command) = record G { pool = pool_after command G.pool; block = block_after command G.block; hand = hand_of command }
after_line G (lines.Born e kind parent ns blocks) = record G {
  block = lent_to blocks e G.block;
  born = G.born + 1;
  server = G.server || ns;
  holder = if ns then e else G.holder;
  enclave = at_number e.0 (Some (record { kind = kind; parent = parent; blocks = blocks; ns = ns; living = true; admitted = false })) G.enclave;
}
after_line G (lines.Told e dead) = record G { heard = at_number e.0 (with_death dead (G.heard e.0)) G.heard }
after_line G (lines.Heard e dead) = record (with_ways e (lines.Heard e dead) G) { heard = at_number e.0 (with_death dead (G.heard e.0)) G.heard }
after_line G (lines.Admitted e) = record G { enclave = at_number e.0 (as_admitted (G.enclave e.0)) G.enclave }
after_line G (lines.Asked e by) = with_ways e (lines.Asked e by) G
after_line G (lines.Way e over) = with_ways e (lines.Way e over) G
after_line G (lines.Back e of over) = with_ways e (lines.Back e of over) G
after_line G (lines.Route e of over) = with_ways e (lines.Route e of over) G
after_line G (lines.Proc e p uid gid) = record (with_memory e (lines.Proc e p uid gid) G) { starts = G.starts + 1 }
after_line G (lines.Alloc e p page frames) = with_memory e (lines.Alloc e p page frames) G
after_line G (lines.Issue e p call) = with_call e (lines.Issue e p call) G
after_line G (lines.Drew e call segid) = with_names (lines.Drew e call segid) G
after_line G (lines.Named e call segid) = with_exports e (lines.Named e call segid) G
after_line G (lines.Unnamed segid) = with_names (lines.Unnamed segid) G
after_line G (lines.Grant owner e call segid access) = with_grants owner (lines.Grant owner e call segid access) G
after_line G (lines.Ungrant owner e call) = with_grants owner (lines.Ungrant owner e call) G
after_line G (lines.Remove e segid) = with_exports e (lines.Remove e segid) G
after_line G (lines.AnswerSegid e p call segid) = with_memory e (lines.AnswerSegid e p call segid) G
after_line G (lines.AnswerApid e p call apid pages) = with_memory e (lines.AnswerApid e p call apid pages) G
after_line G (lines.AnswerRefused e p call cause) = with_memory e (lines.AnswerRefused e p call cause) G
after_line G (lines.Release e call) = with_memory e (lines.Release e call) G
after_line G (lines.Sent x y r) = record G { channel = at_pair x.0 y.0 (with_sent r) G.channel }
after_line G (lines.Took x y count) = record G { channel = at_pair x.0 y.0 (with_taken count) G.channel; hand = Nothing }
after_line G (lines.Got x y) = record G { channel = at_pair x.0 y.0 with_got G.channel; hand = hand_after (G.channel x.0 y.0) }
after_line G line = G

-- the facts after these lines, from those before
abbrev pub after_lines : Facts → List Line → Facts
after_lines G [] = G
after_lines G (line ∷ journal) = after_lines (after_line G line) journal

-- the facts after a journal
abbrev pub facts_after : List Line → Facts
facts_after journal = after_lines no_facts journal

-- the facts after the lines of a past, the newest line first
abbrev pub facts_at : List Line → Facts
facts_at [] = no_facts
facts_at (line ∷ past) = after_line (facts_at past) line

-- ---- what is read off the facts

abbrev pub is_living_enclave : Option EnclaveFact → Bool
is_living_enclave None = false
is_living_enclave (Some fact) = fact.living

-- the enclave lives
abbrev pub lives_at : Facts → ℕ → Bool
lives_at G e = is_living_enclave (G.enclave e)

-- the process lives
abbrev pub runs : Facts → ℕ → ℕ → Bool
runs G e p = is_some (at (G.memory e).processes p)

-- the process lives in a living enclave
abbrev pub lives : Facts → ℕ → ℕ → Bool
lives G e p = lives_at G e && runs G e p

-- the enclave holds the name server
abbrev pub is_holder : Option EnclaveFact → Bool
is_holder None = false
is_holder (Some fact) = fact.ns

abbrev pub is_admitted : Option EnclaveFact → Bool
is_admitted None = false
is_admitted (Some fact) = fact.admitted

abbrev pub has_parent : ℕ → Option EnclaveFact → Bool
has_parent parent None = false
has_parent parent (Some fact) = fact.parent.0 == parent
