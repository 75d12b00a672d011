-- What the world lends: nodes that are seen as views, and links whose bytes wait by the facts.
use Rattle.std.proofs.Common.{◌≡◌, ◌<◌, ℕ, List, Bool, true, false, eqb, not, ◌&&◌, ◌||◌, [], Option, None, Some, Bor, refl, sym, ap, ◌∙◌, subst, arith}
use Rattle.std.specs.Prelude.{option_copied, IfSome, is_some, ◌↔◌}
use Rattle.std.proofs.lemmas.Bool.{and_parts, ltb-true, lt-ltb, eqb-false}
use Rattle.std.proofs.lemmas.Option.{get_or_from_slice_get}
use Rattle.xm_num.specs.declared.Enclave.{Enclave}
use Rattle.byte_link.specs.Channel.{Channel, waiting_bytes}
use Rattle.xemem_language.specs.declared.line.Line.{Line}
use Rattle.global_model.specs.Facts.{Facts, EnclaveFact, facts_after, is_living_enclave, has_parent, lives_at}
use Rattle.global_model.specs.Channels.{is_child_of, is_neighbour, waiting_in}
use Rattle.global_model.specs.Flow.{IsFlowing}
use Rattle.global_model.specs.Refusals.{link_conditions, first_cause}
use Rattle.enclave_node.specs.Nodes.{NodeView, unborn_node}
use Rattle.enclave_rules.specs.Core.{host}
use Rattle.node_machine.specs.declared.pair.Hop.{Hop}
use Rattle.node_machine.specs.declared.pair.Hop.TheVariants as hops
use Rattle.node_world.specs.Appended.{words_by}
use Rattle.node_world.specs.Laws.{WorldLaws}
use Rattle.node_machine.specs.Machine.{MachineView, has_node, node_at, node_of, pair_at, hop_in, link_by, link_between}
use Rattle.node_world.specs.Shown.{IsNodeOf, Feeds, IsFedBy, IsShown}
use Rattle.node_world.specs.World.{IsHistoryOf}
use Rattle.node_world.proofs.Flows.{feed_is}
use Rattle.node_world.proofs.Neighbours.{cause_of, refused_is, over_up, over_down, over_waits}
use Rattle.global_model.specs.Journals.{do_commands, onto}

-- ---- what is lent

pub none_lent : {T : Type 0} (r : Option (Bor T)) → option_copied r ≡ None → r ≡ None
none_lent None is = refl
none_lent (Some b) is = cc

pub lent_none : {T : Type 0} (r : Option (Bor T)) → r ≡ None → option_copied r ≡ None
lent_none None is = refl
lent_none (Some b) is = cc

pub some_lent : {T : Type 0} (r : Option (Bor T)) (P : T → Type 0) → ((v : T) → option_copied r ≡ Some v → P v) → IfSome r (λ b. P b.now)
some_lent None P has = tt
some_lent (Some b) P has = has b.now refl

-- ---- the facts of a history

pub flowing_in : WorldLaws → (m : MachineView) (journal : List Line) → IsHistoryOf m journal → IsFlowing (facts_after journal)
flowing_in laws m journal h = subst (λ j. IsFlowing (facts_after j)) (sym h.told) (laws.flowing (do_commands journal) h.placed)

-- neighbours were born
child_born : (G : Facts) → IsFlowing G → (c p : ℕ) → is_child_of G c p ≡ true → (c < G.born) × (p < G.born)
child_born G flowing c p is =
    let tests = and_parts (not (eqb c 0)) (has_parent p (G.enclave c)) is in
    let within = ltb-true c G.born (sym (flowing.tree.enclaves c).known ∙ is_known (G.enclave c) tests.1) in
    let above = (flowing.tree.enclaves c).above p tests.1 (let apart = eqb-false c 0 (not-true (eqb c 0) tests.0) in omega (arith, apart)) in
    (within, omega (arith, within, above))
  where
    is_known : (fact : Option EnclaveFact) → has_parent p fact ≡ true → is_some fact ≡ true
    is_known None is = cc
    is_known (Some fact) is = refl

    not-true : (b : Bool) → not b ≡ true → b ≡ false
    not-true true is = cc
    not-true false is = refl

pub near_born : (G : Facts) → IsFlowing G → (x y : ℕ) → is_neighbour G x y ≡ true → (x < G.born) × (y < G.born)
near_born G flowing x y is = by (is_child_of G x y) refl is
  where
    by : (b : Bool) → is_child_of G x y ≡ b → (b || is_child_of G y x) ≡ true → (x < G.born) × (y < G.born)
    by true child either = child_born G flowing x y child
    by false other child = let both = child_born G flowing y x child in (both.1, both.0)

-- nothing is refused between neighbours, and something between others
near_fine : (G : Facts) → IsFlowing G → (x y : Enclave) → is_neighbour G x.0 y.0 ≡ true → first_cause (link_conditions G x y) ≡ None
near_fine G flowing x y near =
    let born = near_born G flowing x.0 y.0 near in
    let living = flowing.tree.all_live y.0 born.1 in
    let known = (flowing.tree.enclaves x.0).known ∙ lt-ltb x.0 G.born born.0 in
    rw (living, known, near) refl

far_refused : (G : Facts) (x y : Enclave) → is_neighbour G x.0 y.0 ≡ false → is_some (first_cause (link_conditions G x y)) ≡ true
far_refused G x y far = by (is_living_enclave (G.enclave y.0) && is_some (G.enclave x.0)) refl
  where
    by : (b : Bool) → (is_living_enclave (G.enclave y.0) && is_some (G.enclave x.0)) ≡ b → is_some (first_cause (link_conditions G x y)) ≡ true
    by true is = rw (is, far) refl
    by false is = rw is refl

-- ---- links

-- a link is lent between neighbours, and its bytes are those that wait
pub link_waits : WorldLaws → (G : Facts) (m : MachineView) → IsFlowing G → IsShown G m → (x y : Enclave) (link : Channel) → link_between m x y ≡ Some link → waiting_bytes link ≡ waiting_in G x.0 y.0
link_waits laws G m flowing h x y link is = by (hop_in m x y) refl is
  where
    by : (hop : Hop) → hop_in m x y ≡ hop → link_by m.pairs hop ≡ Some link → waiting_bytes link ≡ waiting_in G x.0 y.0
    by hops.NoEnclave is none = cc
    by hops.NoLink is none = cc
    by (hops.Up i) is some = let same : (pair_at m.pairs i).up ≡ link = cc in ap waiting_bytes (sym same) ∙ sym (over_waits G m x y (hops.Up i) (over_up G m flowing h laws x y i is))
    by (hops.Down i) is some = let same : (pair_at m.pairs i).down ≡ link = cc in ap waiting_bytes (sym same) ∙ sym (over_waits G m x y (hops.Down i) (over_down G m flowing h laws x y i is))

pub link_none : (G : Facts) (m : MachineView) → IsFlowing G → IsShown G m → (x y : Enclave) → link_between m x y ≡ None → is_neighbour G x.0 y.0 ≡ false
link_none G m flowing h x y none = by (is_neighbour G x.0 y.0) refl (hop_in m x y) refl none
  where
    by : (b : Bool) → is_neighbour G x.0 y.0 ≡ b → (hop : Hop) → hop_in m x y ≡ hop → link_by m.pairs hop ≡ None → b ≡ false
    by false far hop is none = refl
    by true near hops.NoEnclave is none = let clash : cause_of hops.NoEnclave ≡ None = ap cause_of (sym is) ∙ sym (refused_is G m flowing h x y) ∙ near_fine G flowing x y near in cc
    by true near hops.NoLink is none = let clash : cause_of hops.NoLink ≡ None = ap cause_of (sym is) ∙ sym (refused_is G m flowing h x y) ∙ near_fine G flowing x y near in cc
    by true near (hops.Up i) is none = cc
    by true near (hops.Down i) is none = cc

pub none_link : (G : Facts) (m : MachineView) → IsFlowing G → IsShown G m → (x y : Enclave) → is_neighbour G x.0 y.0 ≡ false → link_between m x y ≡ None
none_link G m flowing h x y far = by (hop_in m x y) refl
  where
    by : (hop : Hop) → hop_in m x y ≡ hop → link_by m.pairs hop ≡ None
    by hops.NoEnclave is = refl
    by hops.NoLink is = refl
    by (hops.Up i) is = let clash : is_some (cause_of (hops.Up i)) ≡ true = ap (λ k. is_some (cause_of k)) (sym is) ∙ ap is_some (sym (refused_is G m flowing h x y)) ∙ far_refused G x y far in cc
    by (hops.Down i) is = let clash : is_some (cause_of (hops.Down i)) ≡ true = ap (λ k. is_some (cause_of k)) (sym is) ∙ ap is_some (sym (refused_is G m flowing h x y)) ∙ far_refused G x y far in cc

-- ---- nodes

-- the node of that number is the enclave's, which lives
node_found : (nodes : List NodeView) (e : ℕ) (node : NodeView) → node_of nodes e ≡ Some node → (has_node nodes e ≡ true) × (node_at nodes e ≡ node)
node_found nodes e node is = (ap is_some is, get_or_from_slice_get nodes e node (unborn_node 0 host []) is)

pub lent_node : (G : Facts) (m : MachineView) → IsShown G m → (e : ℕ) (node : NodeView) → node_of m.nodes e ≡ Some node → IsNodeOf G e node
lent_node G m h e node is =
    let found = node_found m.nodes e node is in
    subst (IsNodeOf G e) found.1 (h.nodes e (sym (h.living e) ∙ found.0))

-- and its count is the one of its enclave
pub lent_appended : (m : MachineView) (journal : List Line) → IsHistoryOf m journal → (e : ℕ) (node : NodeView) → node_of m.nodes e ≡ Some node → node.appended ≡ words_by e (onto journal [])
lent_appended m journal h e node is = ap (λ n. n.appended) (sym (node_found m.nodes e node is).1) ∙ h.appended e

pub lent_feeds : WorldLaws → (G : Facts) (m : MachineView) → IsFlowing G → IsShown G m → (e : ℕ) (node : NodeView) → node_of m.nodes e ≡ Some node → IsFedBy G e node
lent_feeds laws G m flowing h e node is x near = subst (Feeds G x e) (node_found m.nodes e node is).1 (by (hop_in m from to) refl)
  where
    from : Enclave
    from = record { 0 = x }

    to : Enclave
    to = record { 0 = e }

    by : (hop : Hop) → hop_in m from to ≡ hop → Feeds G x e (node_at m.nodes e)
    by hops.NoEnclave is = let clash : cause_of hops.NoEnclave ≡ None = ap cause_of (sym is) ∙ sym (refused_is G m flowing h from to) ∙ near_fine G flowing from to near in cc
    by hops.NoLink is = let clash : cause_of hops.NoLink ≡ None = ap cause_of (sym is) ∙ sym (refused_is G m flowing h from to) ∙ near_fine G flowing from to near in cc
    by (hops.Up i) is = (over_up G m flowing h laws from to i is).feed ∙ ap Some (sym (feed_is (G.channel x e) (flowing.flows x e) (flowing.arrived x e)))
    by (hops.Down i) is = (over_down G m flowing h laws from to i is).feed ∙ ap Some (sym (feed_is (G.channel x e) (flowing.flows x e) (flowing.arrived x e)))

-- no node is lent exactly where the enclave doesn't live
pub no_node : (G : Facts) (m : MachineView) → IsShown G m → (e : ℕ) → (node_of m.nodes e ≡ None) ↔ (lives_at G e ≡ false)
no_node G m h e = (λ none. sym (h.living e) ∙ ap is_some none, λ dead. by (node_of m.nodes e) refl (h.living e ∙ dead))
  where
    by : (o : Option NodeView) → node_of m.nodes e ≡ o → is_some o ≡ false → node_of m.nodes e ≡ None
    by None is gone = is
    by (Some node) is gone = cc
