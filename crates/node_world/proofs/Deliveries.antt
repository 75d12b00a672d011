-- What is delivered by the facts is what the machine delivers.
use Rattle.std.proofs.Common.{min, ◌≡◌, ◌+◌, ◌-◌, ◌<◌, ◌≤◌, ℕ, List, [], ◌∷◌, length, take, drop, Bool, true, false, cond, not, ◌&&◌, ◌||◌, eqb, Option, None, Some, refl, sym, ap, ◌∙◌, subst, arith}
use Rattle.std.specs.Option.{option_map_or}
use Rattle.std.proofs.lemmas.Bool.{eqb-true, eqb-false, ne_eqb}
use Rattle.std.proofs.lemmas.List.{length-set}
use Rattle.xm_num.specs.declared.Enclave.{Enclave}
use Rattle.xm_num.specs.declared.Cause.TheVariants as causes
use Rattle.xm_num.specs.Rows.{at}
use Rattle.byte_link.specs.Channel.{Channel, taken, waiting_bytes}
use Rattle.xemem_wire.specs.Spelling.{spellings_of}
use Rattle.xemem_wire.specs.Decoding.{Decoding, nothing_taken, after_piece}
use Rattle.xemem_language.specs.declared.command.Command.{Command}
use Rattle.xemem_language.specs.declared.command.Command.TheVariants as commands
use Rattle.xemem_language.specs.declared.line.Line.{Line}
use Rattle.xemem_language.specs.declared.line.Line.TheVariants as lines
use Rattle.global_model.specs.Facts.{Facts, ChannelFact, with_taken, after_line, after_lines, is_living_enclave, lives_at}
use Rattle.enclave_rules.specs.Core.{host}
use Rattle.enclave_rules.specs.View.{View, IsOf, AreOf}
use Rattle.global_model.specs.Apt.{IsTaking}
use Rattle.global_model.specs.Channels.{whole_records, arriving, is_child_of, is_neighbour, was_born}
use Rattle.global_model.specs.Handled.{AreHandled}
use Rattle.global_model.specs.Views.{view_of, seen_lines}
use Rattle.enclave_rules.specs.Steps.{refusal, lines_of_records, after_records}
use Rattle.global_model.specs.Refusals.{when, link_conditions, first_cause}
use Rattle.global_model.specs.Due.{command_lines, got_lines, took_lines, deliver_lines}
use Rattle.enclave_node.specs.Nodes.{NodeView, unborn_node, feed_at, fed, fed_lines, after_feed}
use Rattle.node_machine.specs.declared.pair.Hop.{Hop}
use Rattle.node_machine.specs.declared.pair.Hop.TheVariants as hops
use Rattle.node_machine.specs.Machine.{MachineView, node_at, pair_at, with_node, hop_in, link_of, with_link, taken_by, is_idle, lines_over, over_machine, deliver_by, after_deliver, lines_by, acted, with_carried, after_command}
use Rattle.node_machine.specs.Machine.{enclave_numbered}
use Rattle.node_world.specs.Shown.{IsNodeOf, IsShown}
use Rattle.node_world.specs.Laws.{WireLaws, ViewLaws}
use Rattle.node_world.proofs.Lists.{has-set, node_within, same_either, set_case}
use Rattle.node_world.proofs.Flows.{waiting-length, link_taken, uncut_waiting, got_is, IsFedOn, feed_from, feed_fed}
use Rattle.node_world.proofs.Carriage.{TakenWithin, IsUncounted, AreUncounted, feed_by, pair_here, pair_other, pair_case, over, with_link-parent, with_link-length, counted_lines}
use Rattle.node_world.proofs.Acted.{IsActed, HasFeed, IsFedPair, shown_by, linked_of, fed_of}
use Rattle.node_world.proofs.Stills.{IsStep, IsTied, AreStill, holder_is, tied_still}
use Rattle.node_world.proofs.Neighbours.{IsOver, cause_of, refused_is, over_up, over_down, over_waits}

-- ---- the lines of records are uncounted

uncounted_of : (holder y : Enclave) (ls : List Line) → AreOf holder y ls → AreUncounted ls
uncounted_of holder y [] of = tt
uncounted_of holder y (line ∷ ls) of = (one line of.0, uncounted_of holder y ls of.1)
  where
    one : (line : Line) → IsOf holder y line → IsUncounted line
    one (lines.Do command) of = absurd of
    one (lines.Born child kind parent ns blocks) of = absurd of
    one (lines.Proc e p uid gid) of = absurd of
    one (lines.Took a b count) of = absurd of
    one _ of = tt

-- ---- a delivery over a channel

abbrev piece_of : MachineView → ℕ → Hop → List ℕ
piece_of m count hop = take (taken_by (link_of m.pairs hop) count) (waiting_bytes (link_of m.pairs hop))

abbrev busy_lines : MachineView → Enclave → Enclave → ℕ → Hop → List Line
busy_lines m x y count hop = fed_lines (node_at m.nodes y.0) x (piece_of m count hop)

abbrev busy_machine : MachineView → Enclave → Enclave → ℕ → Hop → MachineView
busy_machine m x y count hop =
    record (with_node m y.0 (after_feed (node_at m.nodes y.0) x (piece_of m count hop))) { pairs = with_link m.pairs hop (taken (link_of m.pairs hop) (taken_by (link_of m.pairs hop) count)) }

module _ (wire : WireLaws) (views : ViewLaws) (G H : Facts) (m : MachineView) (x y : Enclave) (count : ℕ) (step : IsStep G H (commands.Deliver x y count)) (h : IsShown G m) (some : 1 ≤ count) (near : is_neighbour G y.0 x.0 ≡ true) (hop : Hop) (k : IsOver G m x y hop) where
  abbrev link : Channel
  link = link_of m.pairs hop

  abbrev n : ℕ
  n = taken_by link count

  abbrev f : ChannelFact
  f = G.channel x.0 y.0

  abbrev node : NodeView
  node = node_at m.nodes y.0

  -- the decoder after the piece
  abbrev d : Decoding
  d = fed node x (piece_of m count hop)

  fits : n ≤ length (waiting_bytes link)
  fits = omega arith

  is_fed : IsFedOn f.sent f.taken n d
  is_fed =
      let size = waiting-length _ f link k.link in
      let feed : feed_at node.feeds x ≡ feed_from f.sent f.taken = ap (λ (o : Option Decoding). option_map_or (λ d. d) o nothing_taken) k.feed in
      let piece : piece_of m count hop ≡ take n (drop f.taken (spellings_of f.sent)) = ap (take n) (k.link.waiting ∙ uncut_waiting f k.link.uncut) in
      let same : after_piece (feed_from f.sent f.taken) (take n (drop f.taken (spellings_of f.sent))) ≡ d = sym (ap (λ d. after_piece d (piece_of m count hop)) feed ∙ ap (after_piece (feed_from f.sent f.taken)) piece) in
      subst (IsFedOn f.sent f.taken n) same (feed_fed wire f.sent f.taken n (step.before.flows x.0 y.0).valid (omega (arith, size, fits)))

  -- the facts once the bytes are taken
  abbrev T : Facts
  T = after_line G (lines.Took x y n)

  came : arriving (T.channel x.0 y.0) ≡ d.records
  came =
      let taken_is : T.channel x.0 y.0 ≡ with_taken n f = pair_here x.0 y.0 (with_taken n) G.channel x.0 y.0 refl refl in
      ap arriving taken_is ∙ ap (λ got. drop got (whole_records (f.taken + n) f.sent)) (got_is f (step.before.flows x.0 y.0) (step.before.arrived x.0 y.0)) ∙ sym is_fed.came

  is_view : view_of G y ≡ node.view
  is_view = sym (h.nodes y.0 k.yours).view

  -- where something waits, some of it is taken
  taking : is_idle link ≡ false → IsTaking G x y n
  taking busy =
      let more = eqb-false (length (waiting_bytes link)) 0 busy in
      let size = ap length (over_waits G m x y hop k) in
      record { between = record { living = k.yours; near = near }; some = omega (arith, some, more); wait = omega (arith, size); turn = step.before.arrived }

  -- what the enclave makes of the records that arrive then
  handled : is_idle link ≡ false → AreHandled T x y
  handled busy = step.handled x y n (taking busy)

  got_are : is_idle link ≡ false → got_lines T x y (arriving (T.channel x.0 y.0)) ≡ busy_lines m x y count hop
  got_are busy = (handled busy).lines ∙ ap (lines_of_records (view_of G y) x) came ∙ ap (λ v. lines_of_records v x d.records) is_view

  lines_are : deliver_lines G x y count ≡ lines_over m x y count hop
  lines_are = ap (λ bytes. cond (eqb (length bytes) 0) (lines.Idle x y ∷ []) (took_lines G x y (min count (length bytes)))) (over_waits G m x y hop k) ∙ by (is_idle link) refl
    where
      by : (b : Bool) → is_idle link ≡ b → cond b (lines.Idle x y ∷ []) (took_lines G x y n) ≡ cond b (lines.Idle x y ∷ []) (lines.Took x y n ∷ busy_lines m x y count hop)
      by true is = refl
      by false is = ap (λ ls. lines.Took x y n ∷ ls) (got_are is)

  -- the node after it, and what it writes
  abbrev after : NodeView
  after = after_feed node x (piece_of m count hop)

  abbrev ls : List Line
  ls = busy_lines m x y count hop

  abbrev w : MachineView
  w = busy_machine m x y count hop

  inside : y.0 < length m.nodes
  inside = node_within m.nodes y.0 (h.living y.0 ∙ k.yours)

  node_after : is_idle link ≡ false → command_lines G (commands.Deliver x y count) ≡ lines.Took x y n ∷ ls → ((e : ℕ) → lives_at H e ≡ lives_at G e) → (e : ℕ) → lives_at G e ≡ true → IsNodeOf H e (node_at w.nodes e)
  node_after busy is living e lives =
      let B = after_line G (lines.Do (commands.Deliver x y count)) in
      let v = view_of G (enclave_numbered e) in
      let all = handled busy in
      let view : view_of H (enclave_numbered e) ≡ seen_lines T v ls
      = step.views e (living e ∙ lives) ∙ ap (seen_lines B v) is ∙ ap (λ u. seen_lines T u ls) (same_either (eqb y.0 e) v) in
      let old = h.nodes e lives in
      set_case m.nodes y.0 e after (unborn_node 0 host []) (IsNodeOf H e) inside
      (λ same.
      let mine : v ≡ view_of G y = ap (λ k. view_of G (enclave_numbered k)) same in
      let here : view_of H (enclave_numbered e) ≡ after_records node.view x d.records
      = view ∙ ap (λ u. seen_lines T u ls) mine ∙ ap (seen_lines T (view_of G y)) (sym (got_are busy)) ∙ all.own ∙ ap (after_records (view_of G y) x) came ∙ ap (λ u. after_records u x d.records) is_view in
      record { view = sym here; going = (h.nodes y.0 k.yours).going })
      (λ apart.
      let there : view_of H (enclave_numbered e) ≡ v = view ∙ ap (seen_lines T v) (sym (got_are busy)) ∙ all.others v apart in
      record { view = old.view ∙ sym there; going = old.going })

  feed_after : (a b : ℕ) → HasFeed G.channel m.nodes a b → HasFeed T.channel w.nodes a b
  feed_after a b old = set_case m.nodes y.0 b after (unborn_node 0 host []) (λ node. at node.feeds a ≡ Some (feed_by (T.channel a b))) inside
      (λ same. by same (eqb x.0 a) refl)
      (λ apart. old ∙ ap (λ f. Some (feed_by f)) (sym (pair_other x.0 y.0 (with_taken n) G.channel a b (λ one two. apart two))))
    where
      by : b ≡ y.0 → (t : Bool) → eqb x.0 a ≡ t → at after.feeds a ≡ Some (feed_by (T.channel a b))
      by same true is =
          let one : a ≡ x.0 = sym (eqb-true x.0 a is) in
          step.laws.put node.feeds x.0 a (record d { records = [] }) ∙ ap (λ b. cond b (Some (record d { records = [] })) (at node.feeds a)) is ∙ ap Some is_fed.feed ∙ ap (λ f. Some (feed_by f)) (sym (pair_here x.0 y.0 (with_taken n) G.channel a b one same))
      by same false is =
          let apart = eqb-false x.0 a is in
          step.laws.put node.feeds x.0 a (record d { records = [] }) ∙ ap (λ b. cond b (Some (record d { records = [] })) (at node.feeds a)) is ∙ ap (λ e. at (node_at m.nodes e).feeds a) (sym same) ∙ old
          ∙ ap (λ f. Some (feed_by f)) (sym (pair_other x.0 y.0 (with_taken n) G.channel a b (λ one two. apart (sym one))))

  stranger_after : (e c : ℕ) → G.born ≤ c → at (node_at w.nodes e).feeds c ≡ None
  stranger_after e c far = set_case m.nodes y.0 e after (unborn_node 0 host []) (λ node. at node.feeds c ≡ None) inside
      (λ same.
      let mine = k.mine in
      let apart : eqb x.0 c ≡ false = ne_eqb x.0 c (λ one. omega (arith, one, far, mine)) in
      step.laws.put node.feeds x.0 c (record d { records = [] }) ∙ ap (λ b. cond b (Some (record d { records = [] })) (at node.feeds c)) apart ∙ h.strangers y.0 c far)
      (λ apart. h.strangers e c far)

  within_after : TakenWithin T.channel
  within_after a b =
      let size = waiting-length _ f link k.link in
      let few = (step.before.flows a b).taken in
      pair_case (λ (g : ChannelFact). g.taken ≤ length (spellings_of g.sent)) x.0 y.0 (with_taken n) G.channel a b (omega (arith, size, fits)) (omega (arith, few))

  busy_acted : is_idle link ≡ false → command_lines G (commands.Deliver x y count) ≡ lines.Took x y n ∷ ls → ((e : ℕ) → lives_at H e ≡ lives_at G e) → IsActed T H w
  busy_acted busy is living =
      let count = h.pairs ∙ ap (λ k. k - 1) (sym h.born) in
      record {
        pool = h.pool;
        server = h.server;
        holder = h.holder;
        starts = h.starts;
        born = length-set m.nodes y.0 after ∙ h.born;
        pairs = with_link-length m.pairs hop (taken link n) ∙ h.pairs;
        living = λ e. has-set m.nodes y.0 e after ∙ h.living e;
        nodes = node_after busy is living;
        links = over step.laws G.enclave G.channel m.pairs (linked_of G m step.before h) m.nodes count h.living x y (with_taken n) (taken link n) hop k.hop_is (λ dead old. link_taken step.laws.links dead f link n fits old);
        within = within_after;
        feeds = pair_after;
        strangers = stranger_after;
      }
    where
      pair_after : (i : ℕ) → i < length w.pairs → IsFedPair T w.nodes i (pair_at w.pairs i)
      pair_after i within =
          let size = with_link-length m.pairs hop (taken link n) in
          let old = fed_of G m step.before h i (omega (arith, size, within)) in
          let same : (pair_at m.pairs i).parent ≡ (pair_at w.pairs i).parent = sym (with_link-parent m.pairs hop (taken link n) i) in
          record {
            up = subst (λ (e : Enclave). lives_at G e.0 ≡ true → HasFeed T.channel w.nodes (i + 1) e.0) same (λ lives. feed_after (i + 1) (pair_at m.pairs i).parent.0 (old.up lives));
            down = subst (λ (e : Enclave). lives_at G (i + 1) ≡ true → HasFeed T.channel w.nodes e.0 (i + 1)) same (λ lives. feed_after (pair_at m.pairs i).parent.0 (i + 1) (old.down lives));
          }

  -- the node knows that it holds the name server where it does
  holds : node.view.core.holder ≡ true → G.holder ≡ node.view.me
  holds = subst (λ (v : View). v.core.holder ≡ true → G.holder ≡ v.me) is_view (holder_is G step.before y)

  -- so the delivery is tied, where the machine makes this of it
  pub tied_over : command_lines G (commands.Deliver x y count) ≡ deliver_lines G x y count → lines_by m (commands.Deliver x y count) ≡ lines_over m x y count hop → acted m (commands.Deliver x y count) ≡ over_machine m x y count hop
      → IsTied G H (commands.Deliver x y count) m
  tied_over fine made machine = by (is_idle link) refl
    where
      all : command_lines G (commands.Deliver x y count) ≡ lines_over m x y count hop
      all = fine ∙ lines_are

      by : (b : Bool) → is_idle link ≡ b → IsTied G H (commands.Deliver x y count) m
      by true is =
          let idle : command_lines G (commands.Deliver x y count) ≡ lines.Idle x y ∷ [] = all ∙ ap (λ b. cond b (lines.Idle x y ∷ []) (lines.Took x y n ∷ ls)) is in
          tied_still G H (commands.Deliver x y count) m step h tt (machine ∙ ap (λ b. cond b m w) is) (made ∙ sym all) (subst AreStill (sym idle) (tt, tt))
      by false is =
          let busy : command_lines G (commands.Deliver x y count) ≡ lines.Took x y n ∷ ls = all ∙ ap (λ b. cond b (lines.Idle x y ∷ []) (lines.Took x y n ∷ ls)) is in
          let plain : AreUncounted ls = uncounted_of G.holder node.view.me ls (views.of G.holder node.view x d.records holds) in
          let facts : H ≡ after_lines T ls = step.after ∙ ap (after_lines (after_line G (lines.Do (commands.Deliver x y count)))) busy in
          let living : (e : ℕ) → lives_at H e ≡ lives_at G e = λ e. ap (λ F. lives_at F e) facts ∙ (counted_lines ls T plain).living e in
          let shown = shown_by step.laws T H ls w facts plain step.flowing (busy_acted is busy living) in
          let end : after_command m (commands.Deliver x y count) ≡ with_carried w ls = ap (λ n. with_carried n (lines_by m (commands.Deliver x y count))) (machine ∙ ap (λ b. cond b m w) is) ∙ ap (with_carried w) (made ∙ sym all ∙ busy) in
          (made ∙ sym all, subst (IsShown H) (sym end) shown)

-- ---- any delivery

-- where nothing stands against it, the two are neighbours
near_by : (G : Facts) (x y : Enclave) → first_cause (link_conditions G x y) ≡ None → is_neighbour G y.0 x.0 ≡ true
near_by G x y none = by (is_living_enclave (G.enclave y.0) && was_born G x.0) (is_child_of G x.0 y.0) (is_child_of G y.0 x.0) none
  where
    by : (known up down : Bool) → first_cause (when causes.NoEnclave (not known) ∷ when causes.NoLink (not (up || down)) ∷ []) ≡ None → (down || up) ≡ true
    by false up down none = cc
    by true true true none = refl
    by true true false none = refl
    by true false true none = refl
    by true false false none = cc

pub tied_deliver : WireLaws → ViewLaws → (G H : Facts) (m : MachineView) (x y : Enclave) (count : ℕ) → 1 ≤ count → IsStep G H (commands.Deliver x y count) → IsShown G m → IsTied G H (commands.Deliver x y count) m
tied_deliver wire views G H m x y count some step h = by (hop_in m x y) refl
  where
    c : Command
    c = commands.Deliver x y count

    refused : (hop : Hop) → hop_in m x y ≡ hop → first_cause (link_conditions G x y) ≡ cause_of hop
    refused hop is = refused_is G m step.before h x y ∙ ap cause_of is

    still : (ls : List Line) → command_lines G c ≡ ls → AreStill ls → lines_by m c ≡ ls → acted m c ≡ m → IsTied G H c m
    still ls is fixed made same = tied_still G H c m step h tt same (made ∙ sym is) (subst AreStill (sym is) fixed)

    by : (hop : Hop) → hop_in m x y ≡ hop → IsTied G H c m
    by hops.NoEnclave is = let cause = refused hops.NoEnclave is in still (refusal causes.NoEnclave) (rw cause refl) (tt, tt) (ap (deliver_by m x y count) is) (ap (after_deliver m x y count) is)
    by hops.NoLink is = let cause = refused hops.NoLink is in still (refusal causes.NoLink) (rw cause refl) (tt, tt) (ap (deliver_by m x y count) is) (ap (after_deliver m x y count) is)
    by (hops.Up i) is = let cause = refused (hops.Up i) is in tied_over wire views G H m x y count step h some (near_by G x y cause) (hops.Up i) (over_up G m step.before h step.laws x y i is) (rw cause refl) (ap (deliver_by m x y count) is) (ap (after_deliver m x y count) is)
    by (hops.Down i) is = let cause = refused (hops.Down i) is in tied_over wire views G H m x y count step h some (near_by G x y cause) (hops.Down i) (over_down G m step.before h step.laws x y i is) (rw cause refl) (ap (deliver_by m x y count) is) (ap (after_deliver m x y count) is)
