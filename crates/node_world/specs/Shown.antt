-- The machine shows the facts of the journal so far.
use Rattle.std.specs.Prelude.{◌≡◌, ◌+◌, ◌-◌, ◌<◌, ◌≤◌, ℕ, length, true, false, not, None, Some}
use Rattle.xm_num.specs.Rows.{at}
use Rattle.global_model.specs.Facts.{Facts, fact_of, lives_at}
use Rattle.global_model.specs.Channels.{is_neighbour}
use Rattle.global_model.specs.Feeds.{feed_of}
use Rattle.global_model.specs.Views.{view_of}
use Rattle.enclave_node.specs.Nodes.{NodeView}
use Rattle.byte_link.specs.Channel.{Channel}
use Rattle.node_machine.specs.declared.pair.Pair.{Pair}
use Rattle.node_world.specs.Links.{IsLinkOf}
use Rattle.node_machine.specs.Machine.{MachineView, enclave_numbered, has_node, node_at, pair_at}

-- the node is seen as the view of its enclave, and hasn't failed
pub record IsNodeOf (G : Facts) (e : ℕ) (node : NodeView) : Type 0 where
  pub view : node.view ≡ view_of G (enclave_numbered e)
  pub going : node.failed ≡ false

-- the decoder of the node for the channel from x has what the facts say
abbrev pub Feeds : Facts → ℕ → ℕ → NodeView → Type 0
Feeds G x e node = at node.feeds x ≡ Some (feed_of (G.channel x e))

-- the link and the decoder at its end show the channel from x to y
pub record IsLinkFrom (G : Facts) (m : MachineView) (x y : ℕ) (link : Channel) : Type 0 where
  pub bytes : IsLinkOf (not (lives_at G x)) (G.channel x y) link
  pub feed : Feeds G x y (node_at m.nodes y)

-- the channels between child c and its parent, each where its receiver lives
pub record IsPairOf (G : Facts) (m : MachineView) (c : ℕ) (pair : Pair) : Type 0 where
  pub parent : pair.parent ≡ (fact_of (G.enclave c)).parent
  pub above : pair.parent.0 < c
  pub up : lives_at G pair.parent.0 ≡ true → IsLinkFrom G m c pair.parent.0 pair.up
  pub down : lives_at G c ≡ true → IsLinkFrom G m pair.parent.0 c pair.down

-- the nodes, the channels and what is counted show the facts
pub record IsShown (G : Facts) (m : MachineView) : Type 0 where
  pub pool : m.pool ≡ G.pool
  pub server : m.server ≡ G.server
  pub holder : m.holder ≡ G.holder
  pub starts : m.starts ≡ G.starts
  pub born : length m.nodes ≡ G.born
  pub pairs : length m.pairs ≡ G.born - 1
  pub living : (e : ℕ) → has_node m.nodes e ≡ lives_at G e
  pub nodes : (e : ℕ) → lives_at G e ≡ true → IsNodeOf G e (node_at m.nodes e)
  pub links : (i : ℕ) → i < length m.pairs → IsPairOf G m (i + 1) (pair_at m.pairs i)
  pub strangers : (e c : ℕ) → G.born ≤ c → at (node_at m.nodes e).feeds c ≡ None

-- the decoder of each channel to the node has what the facts say
abbrev pub IsFedBy : Facts → ℕ → NodeView → Type 0
IsFedBy G e node = (x : ℕ) → is_neighbour G x e ≡ true → Feeds G x e node
