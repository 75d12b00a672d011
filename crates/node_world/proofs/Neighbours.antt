-- The machine's channels go between the neighbours that the facts have, and a link is shown as by the facts.
use Rattle.std.proofs.Common.{◌≡◌, ◌+◌, ◌-◌, ◌<◌, ℕ, List, [], ◌∷◌, length, Bool, true, false, cond, eqb, ltb, leb, not, ◌&&◌, ◌||◌, Option, None, Some, refl, sym, ap, ◌∙◌, subst, arith}
use Rattle.std.specs.Prelude.{if◌then◌else◌, slice_get, is_some}
use Rattle.std.proofs.lemmas.Bool.{leb-true, leb-false, ltb-true, lt-ltb, ne_eqb, and_parts}
use Rattle.std.proofs.lemmas.Option.{slice_get-get_or}
use Rattle.xm_num.specs.declared.Enclave.{Enclave}
use Rattle.xm_num.specs.declared.Cause.{Cause}
use Rattle.xm_num.specs.declared.Cause.TheVariants as causes
use Rattle.xemem_language.specs.declared.command.Command.TheVariants as commands
use Rattle.xemem_language.specs.declared.line.Line.{Line}
use Rattle.global_model.specs.Facts.{Facts, EnclaveFact, has_parent, fact_of, lives_at}
use Rattle.global_model.specs.Channels.{is_child_of, is_neighbour, waiting_in, waiting_of}
use Rattle.global_model.specs.Flow.{IsFlowing}
use Rattle.global_model.specs.Refusals.{when, link_conditions, first_cause}
use Rattle.enclave_rules.specs.Steps.{refusal, bytes_lines}
use Rattle.global_model.specs.Due.{command_lines, link_lines}
use Rattle.byte_link.specs.Channel.{waiting_bytes}
use Rattle.node_machine.specs.declared.pair.Hop.{Hop}
use Rattle.node_machine.specs.declared.pair.Hop.TheVariants as hops
use Rattle.node_machine.specs.Machine.{MachineView, are_known, has_node, no_pair, pair_at, is_parent, hop_in, hop_of, link_of, lines_by, shown_by}
use Rattle.node_world.specs.Shown.{IsShown}
use Rattle.node_world.proofs.Lists.{node_within}
use Rattle.node_world.specs.Links.{IsLinkOf}
use Rattle.node_world.proofs.Acted.{HasFeed, linked_of, fed_of}
use Rattle.node_world.proofs.Stills.{IsStep, IsTied, AreStill, tied_still, still_bytes}
use Rattle.node_world.specs.Laws.{WorldLaws}

-- the cause for which nothing goes over a channel
abbrev pub cause_of : Hop → Option Cause
cause_of hops.NoEnclave = Some causes.NoEnclave
cause_of hops.NoLink = Some causes.NoLink
cause_of (hops.Up i) = None
cause_of (hops.Down i) = None

tests_are : (a b c : Bool) (m n : ℕ) → first_cause (when causes.NoEnclave (not a) ∷ when causes.NoLink (not (b || c)) ∷ []) ≡ cause_of (if not a then hops.NoEnclave else (if b then hops.Up m else (if c then hops.Down n else hops.NoLink)))
tests_are false b c m n = refl
tests_are true true c m n = refl
tests_are true false true m n = refl
tests_are true false false m n = refl

-- a channel of the machine from x to y, with its link and decoder
pub record IsOver (G : Facts) (m : MachineView) (x y : Enclave) (hop : Hop) : Type 0 where
  pub hop_is : hop_in m x y ≡ hop
  pub mine : x.0 < G.born
  pub yours : lives_at G y.0 ≡ true
  pub link : IsLinkOf (not (lives_at G x.0)) (G.channel x.0 y.0) (link_of m.pairs hop)
  pub feed : HasFeed G.channel m.nodes x.0 y.0

-- what waits in its link waits by the facts
pub over_waits : (G : Facts) (m : MachineView) (x y : Enclave) (hop : Hop) → IsOver G m x y hop → waiting_in G x.0 y.0 ≡ waiting_bytes (link_of m.pairs hop)
over_waits G m x y hop k = ap (λ b. cond b (waiting_of (G.channel x.0 y.0)) []) k.yours ∙ sym k.link.waiting

module _ (G : Facts) (m : MachineView) (flowing : IsFlowing G) (h : IsShown G m) where
  pub child_same : (c p : ℕ) → c < G.born → is_parent m.pairs c p ≡ is_child_of G c p
  child_same c p within = by (leb 1 c) refl
    where
      known : (i : ℕ) → i + 1 ≡ c → i < length m.pairs → (o : Option EnclaveFact) → G.enclave c ≡ o → eqb (pair_at m.pairs i).parent.0 p ≡ has_parent p o
      known i is lt None found = let no : false ≡ true = ap is_some (sym found) ∙ (flowing.tree.enclaves c).known ∙ lt-ltb c G.born within in cc
      known i is lt (Some fact) found = ap (λ (e : Enclave). eqb e.0 p) ((h.links i lt).parent ∙ ap (λ k. (fact_of (G.enclave k)).parent) is ∙ ap (λ o. (fact_of o).parent) found)

      by : (b : Bool) → leb 1 c ≡ b → is_parent m.pairs c p ≡ is_child_of G c p
      by false is = let low = leb-false 1 c is in let none : c ≡ 0 = omega (arith, low) in rw none refl
      by true is =
          let some = leb-true 1 c is in
          let pairs = h.pairs in
          let lt : c - 1 < length m.pairs = omega (arith, pairs, within, some) in
          let found : slice_get m.pairs (c - 1) ≡ Some (pair_at m.pairs (c - 1)) = slice_get-get_or m.pairs (c - 1) no_pair lt in
          let nonzero : eqb c 0 ≡ false = ne_eqb c 0 (λ same. omega (arith, same, some)) in
          rw (is, found, nonzero) (known (c - 1) (omega (arith, some)) lt (G.enclave c) refl)

  -- nothing goes from x to y for the same cause
  pub refused_is : (x y : Enclave) → first_cause (link_conditions G x y) ≡ cause_of (hop_in m x y)
  refused_is x y =
      let count = h.born in
      let known = (flowing.tree.enclaves x.0).known in
      let ends : are_known m.nodes x y ≡ (lives_at G y.0 && ltb x.0 G.born) = ap (λ b. b && ltb x.0 (length m.nodes)) (h.living y.0) ∙ ap (λ n. lives_at G y.0 && ltb x.0 n) count in
      rw (ends, known) (by (lives_at G y.0 && ltb x.0 G.born) refl)
    where
      conditions : Bool → Option Cause
      conditions a = first_cause (when causes.NoEnclave (not a) ∷ when causes.NoLink (not (is_neighbour G x.0 y.0)) ∷ [])

      hop : Bool → Hop
      hop a = if not a then hops.NoEnclave else (if is_parent m.pairs x.0 y.0 then hops.Up (x.0 - 1) else (if is_parent m.pairs y.0 x.0 then hops.Down (y.0 - 1) else hops.NoLink))

      by : (a : Bool) → (lives_at G y.0 && ltb x.0 G.born) ≡ a → conditions a ≡ cause_of (hop a)
      by false is = refl
      by true is =
          let both = and_parts (lives_at G y.0) (ltb x.0 G.born) is in
          let count = h.born in let within = node_within m.nodes y.0 (h.living y.0 ∙ both.0) in
          let up = child_same x.0 y.0 (ltb-true x.0 G.born both.1) in
          let down = child_same y.0 x.0 (omega (arith, count, within)) in
          rw (← up, ← down) (tests_are true (is_parent m.pairs x.0 y.0) (is_parent m.pairs y.0 x.0) (x.0 - 1) (y.0 - 1))

  -- the receiver of a channel lives
  to_living : (x y : Enclave) → (hop_in m x y ≡ hops.NoEnclave → ⊥) → lives_at G y.0 ≡ true
  to_living x y some = sym (h.living y.0) ∙ (and_parts (has_node m.nodes y.0) _ (by (are_known m.nodes x y) some)).0
    where
      by : (known : Bool) → (hop_of m.pairs known x y ≡ hops.NoEnclave → ⊥) → known ≡ true
      by true some = refl
      by false some = absurd (some refl)

  pub over_up : WorldLaws → (x y : Enclave) (i : ℕ) → hop_in m x y ≡ hops.Up i → IsOver G m x y (hops.Up i)
  over_up laws x y i is =
      let k = laws.hops.up m.pairs (are_known m.nodes x y) x y i is in
      let lives = to_living x y (λ none. let no : hops.Up i ≡ hops.NoEnclave = sym is ∙ none in cc) in
      let child = k.child_is in let parent = k.parent_is in
      let linked = linked_of G m flowing h i k.within in
      let fed = fed_of G m flowing h i k.within in
      let pairs = h.pairs in let lt = k.within in let low = linked.above in
      record {
        hop_is = is;
        mine = omega (arith, child, pairs, lt);
        yours = lives;
        link = subst (λ a. IsLinkOf (not (lives_at G a)) (G.channel a y.0) (pair_at m.pairs i).up) (sym child) (subst (λ b. IsLinkOf (not (lives_at G (i + 1))) (G.channel (i + 1) b) (pair_at m.pairs i).up) parent (linked.up (ap (lives_at G) parent ∙ lives)));
        feed = subst (λ a. HasFeed G.channel m.nodes a y.0) (sym child) (subst (HasFeed G.channel m.nodes (i + 1)) parent (fed.up (ap (lives_at G) parent ∙ lives)));
      }

  pub over_down : WorldLaws → (x y : Enclave) (i : ℕ) → hop_in m x y ≡ hops.Down i → IsOver G m x y (hops.Down i)
  over_down laws x y i is =
      let k = laws.hops.down m.pairs (are_known m.nodes x y) x y i is in
      let lives = to_living x y (λ none. let no : hops.Down i ≡ hops.NoEnclave = sym is ∙ none in cc) in
      let child = k.child_is in let parent = k.parent_is in
      let linked = linked_of G m flowing h i k.within in
      let fed = fed_of G m flowing h i k.within in
      let pairs = h.pairs in let lt = k.within in let low = linked.above in
      record {
        hop_is = is;
        mine = omega (arith, parent, pairs, lt, low);
        yours = lives;
        link = subst (λ a. IsLinkOf (not (lives_at G x.0)) (G.channel x.0 a) (pair_at m.pairs i).down) (sym child) (subst (λ b. IsLinkOf (not (lives_at G b)) (G.channel b (i + 1)) (pair_at m.pairs i).down) parent (linked.down (ap (lives_at G) (sym child) ∙ lives)));
        feed = subst (λ a. HasFeed G.channel m.nodes x.0 a) (sym child) (subst (λ b. HasFeed G.channel m.nodes b (i + 1)) parent (fed.down (ap (lives_at G) (sym child) ∙ lives)));
      }

-- ---- a link is shown

show_over : (G : Facts) (m : MachineView) (x y : Enclave) (hop : Hop) → IsOver G m x y hop → link_lines G x y ≡ bytes_lines x y (length (waiting_bytes (link_of m.pairs hop))) 0 (waiting_bytes (link_of m.pairs hop))
show_over G m x y hop k = ap (λ bytes. bytes_lines x y (length bytes) 0 bytes) (over_waits G m x y hop k)

pub tied_show_link : (G H : Facts) (m : MachineView) (x y : Enclave) → IsStep G H (commands.ShowLink x y) → IsShown G m → IsTied G H (commands.ShowLink x y) m
tied_show_link G H m x y step h = by (hop_in m x y) refl
  where
    refused : (hop : Hop) → hop_in m x y ≡ hop → first_cause (link_conditions G x y) ≡ cause_of hop
    refused hop is = refused_is G m step.before h x y ∙ ap cause_of is

    still : (ls : List Line) → command_lines G (commands.ShowLink x y) ≡ ls → AreStill ls → lines_by m (commands.ShowLink x y) ≡ ls → IsTied G H (commands.ShowLink x y) m
    still ls is fixed made = tied_still G H (commands.ShowLink x y) m step h tt refl (made ∙ sym is) (subst AreStill (sym is) fixed)

    bytes : (hop : Hop) → List Line
    bytes hop = bytes_lines x y (length (waiting_bytes (link_of m.pairs hop))) 0 (waiting_bytes (link_of m.pairs hop))

    by : (hop : Hop) → hop_in m x y ≡ hop → IsTied G H (commands.ShowLink x y) m
    by hops.NoEnclave is = let cause = refused hops.NoEnclave is in still (refusal causes.NoEnclave) (rw cause refl) (tt, tt) (ap (shown_by m x y) is)
    by hops.NoLink is = let cause = refused hops.NoLink is in still (refusal causes.NoLink) (rw cause refl) (tt, tt) (ap (shown_by m x y) is)
    by (hops.Up i) is =
        let cause = refused (hops.Up i) is in
        still (bytes (hops.Up i)) (rw cause (show_over G m x y (hops.Up i) (over_up G m step.before h step.laws x y i is))) (still_bytes x y _ 0 _) (ap (shown_by m x y) is)
    by (hops.Down i) is =
        let cause = refused (hops.Down i) is in
        still (bytes (hops.Down i)) (rw cause (show_over G m x y (hops.Down i) (over_down G m step.before h step.laws x y i is))) (still_bytes x y _ 0 _) (ap (shown_by m x y) is)
