-- What the machine keeps between commands, and what a step asks of its command, so that each call of a node may be made.
use Rattle.std.specs.Prelude.{◌≡◌, ◌+◌, ◌-◌, ◌≤◌, ◌<◌, ℕ, length, true, false, None, IsSome}
use Rattle.xm_num.specs.declared.Kind.TheVariants as kinds
use Rattle.xm_num.specs.declared.Enclave.{Enclave}
use Rattle.xm_num.specs.Rows.{at}
use Rattle.byte_link.specs.Channel.{Channel}
use Rattle.xemem_language.specs.declared.command.Command.{Command}
use Rattle.xemem_language.specs.declared.command.Command.TheVariants as commands
use Rattle.xemem_language.specs.Ranges.{IsInRange}
use Rattle.enclave_rules.specs.Built.{is_built}
use Rattle.enclave_node.specs.Nodes.{NodeView, feed_at}
use Rattle.node_machine.specs.declared.pair.Pair.{Pair}
use Rattle.node_machine.specs.Links.{IsLinkFlowing}
use Rattle.node_machine.specs.Machine.{MachineView, enclave_numbered, has_node, node_at, pair_at}

pub record IsNodeReady (e : ℕ) (node : NodeView) : Type 0 where
  pub me : node.view.me ≡ enclave_numbered e
  pub going : node.failed ≡ false

-- the node may take what waits in the link from x: it flows into a decoder of the node
pub record CanTake (link : Channel) (node : NodeView) (x : Enclave) : Type 0 where
  pub flows : IsLinkFlowing link (feed_at node.feeds x)
  pub open_end : IsSome (at node.feeds x.0)

-- child c lies below its parent, and each of the two that lives may take what the other sent
pub record IsPairReady (m : MachineView) (c : ℕ) (pair : Pair) : Type 0 where
  pub above : pair.parent.0 < c
  pub parent : has_node m.nodes c ≡ true → (node_at m.nodes c).view.core.parent ≡ pair.parent
  pub up : has_node m.nodes pair.parent.0 ≡ true → CanTake pair.up (node_at m.nodes pair.parent.0) (enclave_numbered c)
  pub down : has_node m.nodes c ≡ true → CanTake pair.down (node_at m.nodes c) pair.parent

pub record IsReady (m : MachineView) : Type 0 where
  pub most : length m.nodes ≤ 256
  pub pairs : length m.pairs ≡ length m.nodes - 1
  pub root : 0 < length m.nodes → has_node m.nodes 0 ≡ true
  pub nodes : (e : ℕ) → has_node m.nodes e ≡ true → IsNodeReady e (node_at m.nodes e)
  pub links : (i : ℕ) → i < length m.pairs → IsPairReady m (i + 1) (pair_at m.pairs i)
  -- the enclave that was born with the name server has its node, which holds it
  pub seated : m.server ≡ true → has_node m.nodes m.holder.0 ≡ true
  pub holds : m.server ≡ true → (node_at m.nodes m.holder.0).view.core.holder ≡ true
  pub recorded : 1 ≤ length m.nodes → length (node_at m.nodes 0).view.host.parents ≡ length m.nodes
  pub strangers : (e c : ℕ) → length m.nodes ≤ c → at (node_at m.nodes e).feeds c ≡ None
  pub unborn : (e c : ℕ) → length m.nodes ≤ c → at (node_at m.nodes e).view.core.children c ≡ None

-- a settle is no step of the machine
abbrev pub IsNoSettle : Command → Type 0
IsNoSettle (commands.Settle most) = ⊥
IsNoSettle command = Unit {0}

-- what a step asks of its command beside the ranges of its numbers
abbrev pub Stands : MachineView → Command → Type 0
Stands m (commands.Pool blocks) = length m.nodes ≡ 0
Stands m (commands.Host blocks ns) = (length m.nodes ≡ 0) × (1 ≤ m.pool) × (m.pool ≤ 4096)
Stands m (commands.Boot kind parent blocks ns) = kind ≡ kinds.Cokernel
Stands m (commands.Settle most) = ⊥
Stands m command = Unit {0}

pub record CanStep (m : MachineView) (command : Command) : Type 0 where
  pub built : is_built command ≡ true
  pub stands : Stands m command
  pub ranges : IsInRange command
