-- The machine shows the facts, once what the lines of a command send is carried.
use Rattle.std.proofs.Common.{◌≡◌, ◌+◌, ◌-◌, ◌<◌, ◌≤◌, ℕ, List, length, None, Some, true, sym, ap, ◌∙◌, subst, arith}
use Rattle.xm_num.specs.declared.Enclave.{Enclave}
use Rattle.xm_num.specs.Rows.{at}
use Rattle.xemem_language.specs.declared.line.Line.{Line}
use Rattle.global_model.specs.Facts.{Facts, ChannelFact, after_lines, lives_at}
use Rattle.global_model.specs.Feeds.{feed_of}
use Rattle.global_model.specs.Flow.{IsFlowing}
use Rattle.enclave_node.specs.Nodes.{NodeView}
use Rattle.node_machine.specs.declared.pair.Pair.{Pair}
use Rattle.node_machine.specs.Machine.{MachineView, has_node, node_at, pair_at, with_carried, carried}
use Rattle.node_world.specs.Shown.{IsNodeOf, IsPairOf, IsShown}
use Rattle.node_world.proofs.Flows.{feed_is}
use Rattle.node_world.proofs.Carriage.{IsLinked, LinksFollow, AreUncounted, TakenWithin, feed_by, carried-parent, carried-length, linked_lines, fed_lines, counted_lines}
use Rattle.node_world.specs.Laws.{WorldLaws}

-- the decoder of the node for the channel from enclave a to enclave b has what was sent and taken
abbrev pub HasFeed : (ℕ → ℕ → ChannelFact) → List NodeView → ℕ → ℕ → Type 0
HasFeed channels nodes a b = at (node_at nodes b).feeds a ≡ Some (feed_by (channels a b))

-- the decoders of the two channels of enclave i + 1, each where its receiver lives
pub record IsFedPair (G : Facts) (nodes : List NodeView) (i : ℕ) (pair : Pair) : Type 0 where
  pub up : lives_at G pair.parent.0 ≡ true → HasFeed G.channel nodes (i + 1) pair.parent.0
  pub down : lives_at G (i + 1) ≡ true → HasFeed G.channel nodes pair.parent.0 (i + 1)

-- The machine shows by its counts, links and decoders the facts G, behind which only uncounted lines come, and by its nodes the
-- facts H after these.
pub record IsActed (G H : Facts) (m : MachineView) : Type 0 where
  pub pool : m.pool ≡ G.pool
  pub server : m.server ≡ G.server
  pub holder : m.holder ≡ G.holder
  pub starts : m.starts ≡ G.starts
  pub born : length m.nodes ≡ G.born
  pub pairs : length m.pairs ≡ G.born - 1
  pub living : (e : ℕ) → has_node m.nodes e ≡ lives_at G e
  pub nodes : (e : ℕ) → lives_at G e ≡ true → IsNodeOf H e (node_at m.nodes e)
  pub links : LinksFollow G.enclave G.channel m.pairs
  pub within : TakenWithin G.channel
  pub feeds : (i : ℕ) → i < length m.pairs → IsFedPair G m.nodes i (pair_at m.pairs i)
  pub strangers : (e c : ℕ) → G.born ≤ c → at (node_at m.nodes e).feeds c ≡ None

pub shown_of : WorldLaws → (G : Facts) (ls : List Line) (m : MachineView) → AreUncounted ls → IsFlowing (after_lines G ls) → IsActed G (after_lines G ls) m → IsShown (after_lines G ls) (with_carried m ls)
shown_of laws G ls m plain flowing h =
    let H = after_lines G ls in
    let count = counted_lines ls G plain in
    let size = carried-length m.nodes ls m.pairs in
    let now : length m.pairs ≡ length m.nodes - 1 = h.pairs ∙ ap (λ n. n - 1) (sym h.born) in
    -- all that were born live so far
    let alive : (e : ℕ) → e < length m.nodes → lives_at G e ≡ true = λ e within. sym (count.living e) ∙ flowing.tree.all_live e (let mine = h.born in let same = count.born in omega (arith, mine, same, within)) in
    let linked = linked_lines laws m.nodes ls G m.pairs now h.living alive plain h.links in
    let born = count.born in
    record {
      pool = h.pool ∙ sym count.pool;
      server = h.server ∙ sym count.server;
      holder = h.holder ∙ sym count.holder;
      starts = h.starts ∙ sym count.starts;
      born = h.born ∙ sym count.born;
      pairs = size ∙ h.pairs ∙ ap (λ n. n - 1) (sym count.born);
      living = λ e. h.living e ∙ sym (count.living e);
      nodes = λ e lives. h.nodes e (sym (count.living e) ∙ lives);
      links = λ i within. pair i (linked i within) (omega (arith, size, within));
      strangers = λ e c far. h.strangers e c (omega (arith, born, far));
    }
  where
    -- the decoder for a channel, by the facts after the lines
    feed : (a b : ℕ) → HasFeed G.channel m.nodes a b → at (node_at m.nodes b).feeds a ≡ Some (feed_of ((after_lines G ls).channel a b))
    feed a b is = is ∙ ap Some (sym (feed_is ((after_lines G ls).channel a b) (flowing.flows a b) (flowing.arrived a b) ∙ fed_lines laws.wire ls G plain h.within a b))

    pair : (i : ℕ) → IsLinked (after_lines G ls).enclave (after_lines G ls).channel i (pair_at (carried m.nodes m.pairs ls) i) → i < length m.pairs
        → IsPairOf (after_lines G ls) (with_carried m ls) (i + 1) (pair_at (carried m.nodes m.pairs ls) i)
    pair i k within =
        let p = (pair_at (carried m.nodes m.pairs ls) i).parent in
        let same : (pair_at m.pairs i).parent ≡ p = sym (carried-parent m.nodes ls m.pairs i) in
        let feeds = h.feeds i within in
        let before = (counted_lines ls G plain).living in
        record {
          parent = k.parent;
          above = k.above;
          up = λ lives. record {
            bytes = k.up lives;
            feed = feed (i + 1) p.0 (subst (λ (e : Enclave). lives_at G e.0 ≡ true → HasFeed G.channel m.nodes (i + 1) e.0) same feeds.up (sym (before p.0) ∙ lives));
          };
          down = λ lives. record {
            bytes = k.down lives;
            feed = feed p.0 (i + 1) (subst (λ (e : Enclave). HasFeed G.channel m.nodes e.0 (i + 1)) same (feeds.down (sym (before (i + 1)) ∙ lives)));
          };
        }

-- the same, with the facts after the lines by a name of their own
pub shown_by : WorldLaws → (G H : Facts) (ls : List Line) (m : MachineView) → H ≡ after_lines G ls → AreUncounted ls → IsFlowing H → IsActed G H m → IsShown H (with_carried m ls)
shown_by laws G H ls m is plain = subst (λ F. IsFlowing F → IsActed G F m → IsShown F (with_carried m ls)) (sym is) (shown_of laws G ls m plain)

-- ---- before a command

module _ (G : Facts) (m : MachineView) (flowing : IsFlowing G) (h : IsShown G m) where
  pub linked_of : LinksFollow G.enclave G.channel m.pairs
  linked_of i within =
      let k = h.links i within in
      let p = (pair_at m.pairs i).parent.0 in
      record { parent = k.parent; above = k.above; up = λ lives. (k.up lives).bytes; down = λ lives. (k.down lives).bytes }

  pub within_of : TakenWithin G.channel
  within_of a b = let few = (flowing.flows a b).taken in omega (arith, few)

  pub fed_of : (i : ℕ) → i < length m.pairs → IsFedPair G m.nodes i (pair_at m.pairs i)
  fed_of i within =
      let k = h.links i within in
      let p = (pair_at m.pairs i).parent.0 in
      record {
        up = λ lives. (k.up lives).feed ∙ ap Some (feed_is (G.channel (i + 1) p) (flowing.flows (i + 1) p) (flowing.arrived (i + 1) p));
        down = λ lives. (k.down lives).feed ∙ ap Some (feed_is (G.channel p (i + 1)) (flowing.flows p (i + 1)) (flowing.arrived p (i + 1)));
      }
