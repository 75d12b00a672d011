-- The enclaves and the channels between them, as they are seen, and what a command makes of them.
use Rattle.std.specs.Prelude.{◌≡◌, None, Some, ◌+◌, ◌-◌, ◌<◌, ℕ, min, List, [], ◌∷◌, ◌++◌, length, take, Bool, false, not, ◌&&◌, ◌||◌, ◌==◌, nat_le, nat_lt, if◌then◌else◌, Option, is_some, slice_get, slice_set, slice_index_or}
use Rattle.std.specs.Option.{option_map, option_map_or}
use Rattle.xm_num.specs.declared.Enclave.{Enclave}
use Rattle.xm_num.specs.declared.Pid.{Pid}
use Rattle.xm_num.specs.declared.Want.{Want}
use Rattle.xm_num.specs.Rows.{at}
use Rattle.xm_num.specs.declared.Block.{Block}
use Rattle.xm_num.specs.declared.Kind.{Kind}
use Rattle.xm_num.specs.declared.Cause.TheVariants as causes
use Rattle.byte_link.specs.Channel.{Channel, fresh, sent, taken, waiting_bytes, boundary_of}
use Rattle.xemem_language.specs.declared.record.Record.{Record}
use Rattle.xemem_wire.specs.Spelling.{spelling_of}
use Rattle.xemem_language.specs.declared.command.Command.{Command}
use Rattle.xemem_language.specs.declared.command.Command.TheVariants as commands
use Rattle.xemem_language.specs.declared.line.Line.{Line}
use Rattle.xemem_language.specs.declared.line.Line.TheVariants as lines
use Rattle.frame_pool.specs.Blocks.{free_blocks}
use Rattle.enclave_rules.specs.Core.{host}
use Rattle.enclave_rules.specs.Hand.{Nothing, Calls}
use Rattle.xemem_language.specs.declared.call.ProcessCall.{ProcessCall}
use Rattle.xemem_language.specs.declared.call.NodeShow.{NodeShow}
use Rattle.xemem_language.specs.declared.call.Show.TheVariants as shows
use Rattle.xemem_language.specs.Calls.{call_of, show_of}
use Rattle.enclave_rules.specs.Calls.{call_lines, show_lines}
use Rattle.enclave_rules.specs.Steps.{refusal, birth_lines, adopt_lines, host_lines, first_blocks, start_lines, touch_answer, answer_lines, bytes_lines}
use Rattle.enclave_node.specs.Nodes.{NodeView, unborn_node, wrote, new_host, new_node, lent, adopted, fed_lines, after_feed}
use Rattle.node_machine.specs.declared.pair.Pair.{Pair}
use Rattle.node_machine.specs.declared.pair.Hop.{Hop}
use Rattle.node_machine.specs.declared.pair.Hop.TheVariants as hops

-- How many blocks there are; whether an enclave was born with the name server, and which: the host, where none was; how many
-- processes were started; the nodes of the enclaves that were born, by their numbers; and for each child its parent and the two
-- channels between them, the first for enclave 1.
pub record MachineView : Type 0 where
  pub pool : ℕ
  pub server : Bool
  pub holder : Enclave
  pub starts : ℕ
  pub nodes : List NodeView
  pub pairs : List Pair

abbrev pub no_machine : MachineView
no_machine = record { pool = 0; server = false; holder = host; starts = 0; nodes = []; pairs = [] }

-- The node of the enclave of that number, where it has one. Each enclave that was born has its node so far; none is gone.
abbrev pub node_of : List NodeView → ℕ → Option NodeView
node_of nodes e = slice_get nodes e

-- the enclave lives: it has a node
abbrev pub has_node : List NodeView → ℕ → Bool
has_node nodes e = is_some (node_of nodes e)

-- what the node of an enclave has; nothing, where it has none
abbrev pub node_at : List NodeView → ℕ → NodeView
node_at nodes e = slice_index_or nodes e (unborn_node 0 host [])

-- the enclave of that number
abbrev pub enclave_numbered : ℕ → Enclave
enclave_numbered e = record { 0 = e }

abbrev pub no_pair : Pair
no_pair = record { parent = host; up = fresh; down = fresh }

abbrev pub pair_at : List Pair → ℕ → Pair
pair_at pairs i = slice_index_or pairs i no_pair

abbrev pub with_node : MachineView → ℕ → NodeView → MachineView
with_node m e node = record m { nodes = slice_set m.nodes e node }

-- ---- channels

-- the enclave has that parent; the host has none
abbrev pub is_parent : List Pair → ℕ → ℕ → Bool
is_parent pairs child parent = nat_le 1 child && option_map_or (λ pair. pair.parent.0 == parent) (slice_get pairs (child - 1)) false

-- each parent was born before its child
abbrev pub AreAbove : List Pair → Type 0
AreAbove pairs = (i : ℕ) → i < length pairs → (pair_at pairs i).parent.0 < i + 1

-- the pair at this place is of that child and that parent
pub record IsPairAt (pairs : List Pair) (i child parent : ℕ) : Type 0 where
  pub within : i < length pairs
  pub child_is : child ≡ i + 1
  pub parent_is : (pair_at pairs i).parent.0 ≡ parent

-- which channel goes from x to y, where the ends are known: y lives, and x was born
abbrev pub hop_of : List Pair → Bool → Enclave → Enclave → Hop
hop_of pairs known x y =
    if not known then hops.NoEnclave
    else (if is_parent pairs x.0 y.0 then hops.Up (x.0 - 1)
    else (if is_parent pairs y.0 x.0 then hops.Down (y.0 - 1)
    else hops.NoLink))

abbrev pub are_known : List NodeView → Enclave → Enclave → Bool
are_known nodes x y = has_node nodes y.0 && nat_lt x.0 (length nodes)

abbrev pub hop_in : MachineView → Enclave → Enclave → Hop
hop_in m x y = hop_of m.pairs (are_known m.nodes x y) x y

abbrev pub link_of : List Pair → Hop → Channel
link_of pairs hops.NoEnclave = fresh
link_of pairs hops.NoLink = fresh
link_of pairs (hops.Up i) = (pair_at pairs i).up
link_of pairs (hops.Down i) = (pair_at pairs i).down

-- there is such a channel, where the hop names one
abbrev pub IsIn : List Pair → Hop → Type 0
IsIn pairs (hops.Up i) = i < length pairs
IsIn pairs (hops.Down i) = i < length pairs
IsIn pairs hop = Unit {0}

-- the channel from x to y
abbrev pub link_by : List Pair → Hop → Option Channel
link_by pairs hops.NoEnclave = None
link_by pairs hops.NoLink = None
link_by pairs hop = Some (link_of pairs hop)

abbrev pub link_between : MachineView → Enclave → Enclave → Option Channel
link_between m x y = link_by m.pairs (hop_in m x y)

abbrev pub with_link : List Pair → Hop → Channel → List Pair
with_link pairs hops.NoEnclave link = pairs
with_link pairs hops.NoLink link = pairs
with_link pairs (hops.Up i) link = slice_set pairs i (record (pair_at pairs i) { up = link })
with_link pairs (hops.Down i) link = slice_set pairs i (record (pair_at pairs i) { down = link })

-- a record goes over a channel, where that hasn't ended
abbrev pub carried_over : List Pair → Hop → Record → List Pair
carried_over pairs hop r = if (link_of pairs hop).ended then pairs else with_link pairs hop (sent (link_of pairs hop) (spelling_of r))

-- what the lines send goes over the channels; what is sent to an enclave that doesn't live is lost
abbrev pub carried : List NodeView → List Pair → List Line → List Pair
carried nodes pairs [] = pairs
carried nodes pairs (lines.Sent x y r ∷ journal) = carried nodes (carried_over pairs (hop_of pairs (are_known nodes x y) x y) r) journal
carried nodes pairs (line ∷ journal) = carried nodes pairs journal

-- ---- births

-- who holds the name server once an enclave is born, with it or not
abbrev pub holder_after : MachineView → Enclave → Bool → Enclave
holder_after m child ns = if ns then child else m.holder

abbrev pub host_by : MachineView → ℕ → Bool → List Line
host_by m blocks ns = if nat_lt m.pool blocks then refusal causes.NoBlocks else host_lines (first_blocks blocks) ns

abbrev pub after_host : MachineView → ℕ → Bool → MachineView
after_host m blocks ns = if nat_lt m.pool blocks then m else record m { server = ns; holder = holder_after m host ns; nodes = new_host m.pool blocks ns ∷ [] }

-- the lines of a command at an enclave, where it lives
abbrev pub at_node : MachineView → Enclave → List Line → List Line
at_node m e journal = if has_node m.nodes e.0 then journal else refusal causes.NoEnclave

-- the number of the next enclave
abbrev pub next_born : MachineView → Enclave
next_born m = record { 0 = length m.nodes }

-- the free blocks, by what the host keeps
abbrev pub free_of : MachineView → List Block
free_of m = free_blocks (node_at m.nodes 0).view.host.states

abbrev pub is_full : MachineView → Bool
is_full m = nat_le 256 (length m.nodes)

abbrev pub is_short : MachineView → ℕ → Bool
is_short m blocks = nat_lt (length (free_of m)) blocks

abbrev pub booted_lines : MachineView → Kind → Enclave → ℕ → Bool → List Line
booted_lines m kind parent blocks ns =
    birth_lines (next_born m) kind parent (take blocks (free_of m)) ns (node_at m.nodes parent.0).view.core.heard ++ adopt_lines (node_at m.nodes parent.0).view (next_born m)

abbrev pub boot_by : MachineView → Kind → Enclave → ℕ → Bool → List Line
boot_by m kind parent blocks ns =
    if is_full m then refusal causes.TooMany
    else (if ns && m.server then refusal causes.NameServerTaken
    else (if is_short m blocks then refusal causes.NoBlocks
    else booted_lines m kind parent blocks ns))

-- the child is new to the node
pub record IsStranger (node : NodeView) (child : Enclave) : Type 0 where
  pub feed : at node.feeds child.0 ≡ None
  pub kin : at node.view.core.children child.0 ≡ None

-- what is written when a child of the parent is born with these blocks
abbrev pub borne_lines : MachineView → Enclave → Kind → Enclave → List Block → Bool → List Line
borne_lines m child kind parent blocks ns =
    birth_lines child kind parent blocks ns (node_at m.nodes parent.0).view.core.heard ++ adopt_lines (node_at m.nodes parent.0).view child

-- the parent takes the child, and the child is born
abbrev pub after_birth : MachineView → Enclave → Kind → Enclave → List Block → Bool → MachineView
after_birth m child kind parent blocks ns =
    let node = node_at m.nodes parent.0 in
    record m {
      server = m.server || ns;
      holder = holder_after m child ns;
      nodes = slice_set m.nodes parent.0 (wrote Nothing (adopted node child kind) (adopt_lines node.view child)) ++ new_node child kind parent blocks ns node.view.core.heard ∷ [];
      pairs = m.pairs ++ record { parent = parent; up = fresh; down = fresh } ∷ [];
    }

-- the nodes once the host lent these blocks, the parent took the child, and the child is born
abbrev pub booted_nodes : MachineView → Kind → Enclave → ℕ → Bool → List NodeView
booted_nodes m kind parent blocks ns =
    let child = next_born m in
    let lending = slice_set m.nodes 0 (lent (node_at m.nodes 0) child parent (take blocks (free_of m))) in
    let taking = adopted (node_at lending parent.0) child kind in
    slice_set lending parent.0 (wrote Nothing taking (adopt_lines (node_at m.nodes parent.0).view child))
    ++ new_node child kind parent (take blocks (free_of m)) ns (node_at m.nodes parent.0).view.core.heard ∷ []

abbrev pub after_boot : MachineView → Kind → Enclave → ℕ → Bool → MachineView
after_boot m kind parent blocks ns =
    if not (has_node m.nodes parent.0) then m
    else (if is_full m then m
    else (if ns && m.server then m
    else (if is_short m blocks then m
    else record m {
      server = m.server || ns;
      holder = holder_after m (next_born m) ns;
      nodes = booted_nodes m kind parent blocks ns;
      pairs = m.pairs ++ record { parent = parent; up = fresh; down = fresh } ∷ [];
    })))

-- ---- processes, their calls, and what is shown

abbrev pub start_by : MachineView → Enclave → ℕ → ℕ → List Line
start_by m e uid gid = if nat_le 1024 m.starts then refusal causes.TooMany else start_lines (node_at m.nodes e.0).view uid gid

abbrev pub after_start : MachineView → Enclave → ℕ → ℕ → MachineView
after_start m e uid gid =
    if not (has_node m.nodes e.0) then m
    else (if nat_le 1024 m.starts then m
    else record (with_node m e.0 (wrote Nothing (node_at m.nodes e.0) (start_lines (node_at m.nodes e.0).view uid gid))) { starts = m.starts + 1 })

abbrev pub touch_by : MachineView → Enclave → Pid → ℕ → Want → List Line
touch_by m e p addr want = answer_lines e p (touch_answer (node_at m.nodes e.0).view p addr want)

-- what the node of the enclave writes for a call
abbrev pub call_by : MachineView → ProcessCall → List Line
call_by m k = call_lines (node_at m.nodes k.enclave.0).view k.pid k.call

abbrev pub after_call : MachineView → ProcessCall → MachineView
after_call m k = if has_node m.nodes k.enclave.0 then with_node m k.enclave.0 (wrote (Calls k) (node_at m.nodes k.enclave.0) (call_by m k)) else m

-- what is shown of the node of the enclave
abbrev pub node_shown : MachineView → NodeShow → List Line
node_shown m s = show_lines (node_at m.nodes s.enclave.0).view s.show

-- the names are shown of the enclave that was born with the name server
abbrev pub names_shown : MachineView → List Line
names_shown m = if m.server then show_lines (node_at m.nodes m.holder.0).view shows.Names else refusal causes.NotReady

-- ---- deliveries

-- how many bytes a delivery takes
abbrev pub taken_by : Channel → ℕ → ℕ
taken_by link count = min count (length (waiting_bytes link))

abbrev pub is_idle : Channel → Bool
is_idle link = length (waiting_bytes link) == 0

-- a delivery over a channel: its lines, and the machine after it
abbrev pub lines_over : MachineView → Enclave → Enclave → ℕ → Hop → List Line
lines_over m x y count hop =
    let link = link_of m.pairs hop in
    if is_idle link then lines.Idle x y ∷ []
    else lines.Took x y (taken_by link count) ∷ fed_lines (node_at m.nodes y.0) x (take (taken_by link count) (waiting_bytes link))

abbrev pub over_machine : MachineView → Enclave → Enclave → ℕ → Hop → MachineView
over_machine m x y count hop =
    let link = link_of m.pairs hop in
    if is_idle link then m
    else record (with_node m y.0 (after_feed (node_at m.nodes y.0) x (take (taken_by link count) (waiting_bytes link)))) {
      pairs = with_link m.pairs hop (taken link (taken_by link count));
    }

abbrev pub deliver_by : MachineView → Enclave → Enclave → ℕ → Hop → List Line
deliver_by m x y count hops.NoEnclave = refusal causes.NoEnclave
deliver_by m x y count hops.NoLink = refusal causes.NoLink
deliver_by m x y count hop = lines_over m x y count hop

abbrev pub after_deliver : MachineView → Enclave → Enclave → ℕ → Hop → MachineView
after_deliver m x y count hops.NoEnclave = m
after_deliver m x y count hops.NoLink = m
after_deliver m x y count hop = over_machine m x y count hop

abbrev pub shown_by : MachineView → Enclave → Enclave → Hop → List Line
shown_by m x y hops.NoEnclave = refusal causes.NoEnclave
shown_by m x y hops.NoLink = refusal causes.NoLink
shown_by m x y hop = let waiting = waiting_bytes (link_of m.pairs hop) in bytes_lines x y (length waiting) 0 waiting

-- ---- settling

-- the channels between a child and its parent in which something waits, up before down
abbrev pub waiting_hops_of : ℕ → Pair → List Hop
waiting_hops_of i pair = (if is_idle pair.up then [] else hops.Up i ∷ []) ++ (if is_idle pair.down then [] else hops.Down i ∷ [])

-- the channels in which something waits, those of the child at that place first
abbrev pub waiting_hops : ℕ → List Pair → List Hop
waiting_hops i [] = []
waiting_hops i (pair ∷ pairs) = waiting_hops_of i pair ++ waiting_hops (i + 1) pairs

abbrev pub first_hop : List Pair → Option Hop
first_hop pairs = slice_get (waiting_hops 0 pairs) 0

abbrev pub sender_of : List Pair → Hop → Enclave
sender_of pairs hops.NoEnclave = host
sender_of pairs hops.NoLink = host
sender_of pairs (hops.Up i) = record { 0 = i + 1 }
sender_of pairs (hops.Down i) = (pair_at pairs i).parent

abbrev pub receiver_of : List Pair → Hop → Enclave
receiver_of pairs hops.NoEnclave = host
receiver_of pairs hops.NoLink = host
receiver_of pairs (hops.Up i) = (pair_at pairs i).parent
receiver_of pairs (hops.Down i) = record { 0 = i + 1 }

-- the next delivery of a settle: the rest of the first record in the first channel in which something waits
abbrev pub delivery_over : List Pair → Hop → Command
delivery_over pairs hop = commands.Deliver (sender_of pairs hop) (receiver_of pairs hop) (boundary_of (link_of pairs hop))

abbrev pub next_delivery : MachineView → Option Command
next_delivery m = option_map (delivery_over m.pairs) (first_hop m.pairs)

-- ---- a step

-- what a command writes after its `do` line, where it is no call and names no node to be shown
abbrev pub other_lines : MachineView → Command → List Line
other_lines m (commands.Pool blocks) = []
other_lines m (commands.Host blocks ns) = host_by m blocks ns
other_lines m (commands.Boot kind parent blocks ns) = at_node m parent (boot_by m kind parent blocks ns)
other_lines m (commands.Proc e uid gid) = at_node m e (start_by m e uid gid)
other_lines m (commands.Touch e p addr want) = at_node m e (touch_by m e p addr want)
other_lines m (commands.Deliver x y count) = deliver_by m x y count (hop_in m x y)
other_lines m (commands.ShowLink x y) = shown_by m x y (hop_in m x y)
other_lines m commands.ShowNames = names_shown m
other_lines m command = []

-- What any command writes after its `do` line. A settle isn't one step of the machine: each of its deliveries is.
abbrev pub lines_by : MachineView → Command → List Line
lines_by m command =
    option_map_or (λ k. at_node m k.enclave (call_by m k)) (call_of command)
    (option_map_or (λ s. at_node m s.enclave (node_shown m s)) (show_of command) (other_lines m command))

-- the machine before what the lines send is carried
abbrev pub other_acted : MachineView → Command → MachineView
other_acted m (commands.Pool blocks) = record m { pool = blocks }
other_acted m (commands.Host blocks ns) = after_host m blocks ns
other_acted m (commands.Boot kind parent blocks ns) = after_boot m kind parent blocks ns
other_acted m (commands.Proc e uid gid) = after_start m e uid gid
other_acted m (commands.Deliver x y count) = after_deliver m x y count (hop_in m x y)
other_acted m command = m

abbrev pub acted : MachineView → Command → MachineView
acted m command = option_map_or (λ k. after_call m k) (call_of command) (other_acted m command)

abbrev pub with_carried : MachineView → List Line → MachineView
with_carried m journal = record m { pairs = carried m.nodes m.pairs journal }

-- the machine after a command
abbrev pub after_command : MachineView → Command → MachineView
after_command m command = with_carried (acted m command) (lines_by m command)
