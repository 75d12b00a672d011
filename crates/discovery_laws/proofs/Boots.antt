-- A birth with all that follows it: the child asks its parent for the way, unless it has the name server, and the parent asks the
-- child, unless it knows the way.
use Rattle.std.proofs.Common.{◌≡◌, ◌≢◌, ◌+◌, ◌<◌, ◌≤◌, ℕ, List, [], ◌∷◌, Bool, true, false, cond, not, ◌&&◌, eqb, refl, sym, ap, ◌∙◌, subst, arith}
use Rattle.std.specs.Prelude.{◌++◌}
use Rattle.std.proofs.lemmas.Bool.{eqb-true, ne_eqb}
use Rattle.xm_num.specs.declared.Enclave.{Enclave}
use Rattle.xm_num.specs.declared.Kind.{Kind}
use Rattle.xm_num.specs.declared.Kind.TheVariants as kinds
use Rattle.xm_num.specs.declared.Block.{Block}
use Rattle.xemem_language.specs.declared.line.Line.TheVariants as lines
use Rattle.enclave_rules.specs.Core.{host}
use Rattle.enclave_rules.specs.Steps.{query_of, child_lines, adopt_lines, birth_lines, host_lines}
use Rattle.global_model.specs.Facts.{Facts, after_line, after_lines}
use Rattle.global_model.specs.Pauses.{IsPause}
use Rattle.global_model.specs.Apt.{IsBirth}
use Rattle.global_model.specs.Tree.{IsRooted, parent_of}
use Rattle.global_model.specs.Views.{view_of}
use Rattle.discovery_laws.specs.Known.{knows}
use Rattle.discovery_laws.specs.Laws.{DiscoveryLaws}
use Rattle.discovery_laws.proofs.Flights.{one_if, count, add, add-here, sent_more}
use Rattle.discovery_laws.proofs.Asking.{is_query, queries_sent, counted_sent}
use Rattle.discovery_laws.proofs.Knowing.{known_sent}
use Rattle.discovery_laws.proofs.Newborn.{born, far_down, far_up, known_born, counted_born}
use Rattle.discovery_laws.proofs.Each.{each_either}
use Rattle.discovery_laws.proofs.Calm.{counted_owed, IsAsking, IsCalm, calm_line, calm_lines}
use Rattle.discovery_laws.proofs.Answered.{none_owed, holder_born, knows_way_is, living_born}

-- two that aren't the same owe each other at most one answer
add_apart : (s t : Bool) (p c a b : ℕ) → p ≢ c → add s p c a b + add t c p a b ≤ 1
add_apart s t p c a b apart = by (eqb a p) refl
  where
    most : (t : Bool) → one_if t ≤ 1
    most true = omega arith
    most false = omega arith

    by : (at_p : Bool) → eqb a p ≡ at_p → one_if (s && (at_p && eqb b c)) + one_if (t && (eqb a c && eqb b p)) ≤ 1
    by true is =
        let other : eqb a c ≡ false = ne_eqb a c (λ same. apart (sym (eqb-true a p is) ∙ same)) in
        rw other (none t (s && eqb b c))
      where
        none : (t here : Bool) → one_if here + one_if (t && false) ≤ 1
        none true here = omega (arith, most here)
        none false here = omega (arith, most here)
    by false is = none s (t && (eqb a c && eqb b p))
      where
        none : (s there : Bool) → one_if (s && false) + one_if there ≤ 1
        none true there = omega (arith, most there)
        none false there = omega (arith, most there)

add_most : (t : Bool) (x y a b : ℕ) → add t x y a b ≤ add true x y a b
add_most true x y a b = omega arith
add_most false x y a b = omega arith

-- who doesn't know is owed
add_unless : (t : Bool) (x y : ℕ) → 1 ≤ one_if t + add (not t) x y x y
add_unless true x y = omega arith
add_unless false x y = let one = add-here x y in omega (arith, one)

-- the name server is taken once
not_taken : (ns server : Bool) → (ns && server) ≡ false → ns ≡ true → server ≡ false
not_taken true server none has = none
not_taken false server none has = absurd (cc)

module _ (laws : DiscoveryLaws) (G : Facts) (pause : IsPause G) (old : IsAsking none_owed G) where
  rooted_born : (child parent : Enclave) (kind : Kind) (ns : Bool) (blocks : List Block) → (0 < child.0 → parent.0 < child.0)
      → IsRooted (parent_of (after_line G (lines.Born child kind parent ns blocks)))
  rooted_born child parent kind ns blocks above = record { lower = λ e some. by e some (eqb e child.0) refl }
    where
      by : (e : ℕ) → 0 < e → (t : Bool) → eqb e child.0 ≡ t → parent_of (after_line G (lines.Born child kind parent ns blocks)) e < e
      by e some true is =
          let same : e ≡ child.0 = eqb-true e child.0 is in
          let higher = above (omega (arith, same, some)) in
          rw (parent_of, is) (omega (arith, same, higher))
      by e some false is = rw (parent_of, is) (old.rooted.lower e some)

  -- ---- the host

  none_served : G.born ≡ 0 → G.server ≡ false
  none_served first = by G.server refl
    where
      by : (t : Bool) → G.server ≡ t → t ≡ false
      by true is =
          let held = old.known.held is in
          let low = holder_born G held.holder pause.tree held.holds in
          absurd (omega (arith, low, first))
      by false is = refl

  pub asked_host : (ns : Bool) (blocks : List Block) → IsBirth G host kinds.Host host ns blocks → IsAsking none_owed (after_lines G (host_lines blocks ns))
  asked_host ns blocks may =
      let next : host.0 ≡ G.born = may.next in
      let H = born G host host kinds.Host ns blocks pause.tree pause.ways next in
      calm_lines laws.tree none_owed (cond ns (lines.Admitted host ∷ []) []) H (each_either IsCalm ns (lines.Admitted host ∷ []) [] (tt, tt) tt) (record {
        counted = counted_born G host host kinds.Host ns blocks pause.tree pause.ways next none_owed pause.apart (λ a b. omega arith)
            (λ a b. omega arith) (λ near. absurd (cc)) (λ near. absurd (cc)) old.counted;
        known = known_born G host host kinds.Host ns blocks pause.tree pause.ways next laws.tree old.rooted (λ is. none_served (sym may.next)) old.known;
        rooted = rooted_born host host kinds.Host ns blocks (λ some. some);
      })

  -- ---- a child

  module _ (child parent : Enclave) (kind : Kind) (ns : Bool) (blocks : List Block) (may : IsBirth G child kind parent ns blocks) (some : 0 < child.0) where
    abbrev H : Facts
    H = born G child parent kind ns blocks pause.tree pause.ways may.next

    -- what the parent owes the child, and what both owe each other
    abbrev down_owed : ℕ → ℕ → ℕ
    down_owed a b = add (not (knows G parent.0)) child.0 parent.0 a b

    abbrev both_owed : ℕ → ℕ → ℕ
    both_owed a b = add (not ns) parent.0 child.0 a b + down_owed a b

    above : parent.0 < child.0
    above =
        let low : parent.0 < G.born = living_born G parent.0 pause.tree (may.under some) in
        omega (arith, low, may.next)

    asking_born : IsAsking both_owed H
    asking_born = record {
      counted = counted_born G child parent kind ns blocks pause.tree pause.ways may.next both_owed pause.apart
          (λ a b. add_apart (not ns) (not (knows G parent.0)) parent.0 child.0 a b (λ same. omega (arith, same, above)))
          (λ a b. omega (arith, add_most (not ns) parent.0 child.0 a b, add_most (not (knows G parent.0)) child.0 parent.0 a b))
          (λ near. omega (arith, add_unless ns parent.0 child.0))
          (λ near. omega (arith, add_unless (knows G parent.0) child.0 parent.0))
          old.counted;
      known = known_born G child parent kind ns blocks pause.tree pause.ways may.next laws.tree old.rooted (not_taken ns G.server may.one) old.known;
      rooted = rooted_born child parent kind ns blocks (λ some. above);
    }

    no_channel_up : queries_sent G child.0 parent.0 ≡ 0
    no_channel_up = ap (λ c. count is_query c.sent)
        (pause.apart child.0 parent.0 (far_up G child parent kind ns blocks pause.tree pause.ways may.next parent.0))

    no_channel_down : queries_sent G parent.0 child.0 ≡ 0
    no_channel_down = ap (λ c. count is_query c.sent)
        (pause.apart parent.0 child.0 (far_down G child parent kind ns blocks pause.tree pause.ways may.next parent.0))

    -- after the child's own lines
    record IsUp (K : Facts) : Type 0 where
      asking : IsAsking down_owed K
      queries : queries_sent K parent.0 child.0 ≡ 0

    child_asks : (t : Bool) → ns ≡ t → IsUp (after_lines H (child_lines child parent t))
    child_asks true is = record {
      asking = calm_line laws.tree down_owed H (lines.Admitted child) tt (record {
        counted = counted_owed both_owed down_owed (knows H) H
            (λ a b. let none : add (not ns) parent.0 child.0 a b ≡ 0 = ap (λ t. add (not t) parent.0 child.0 a b) is in omega (arith, none))
            asking_born.counted;
        known = asking_born.known;
        rooted = asking_born.rooted;
      });
      queries = no_channel_down;
    }
    child_asks false is = record {
      asking = record {
        counted = counted_sent both_owed down_owed (knows H) H child parent (query_of child)
            (λ a b. let one : add (not ns) parent.0 child.0 a b ≡ add true parent.0 child.0 a b = ap (λ t. add (not t) parent.0 child.0 a b) is in omega (arith, one))
            (λ query. no_channel_up) asking_born.counted;
        known = known_sent H child parent (query_of child) asking_born.counted.within (λ kind. refl) (λ here. absurd (cc)) asking_born.known;
        rooted = asking_born.rooted;
      };
      queries =
          let more = sent_more is_query H child parent (query_of child) parent.0 child.0 in
          let apart : add true child.0 parent.0 parent.0 child.0 ≡ 0
          = ap (λ t. one_if (t && eqb child.0 parent.0)) (ne_eqb parent.0 child.0 (λ same. omega (arith, same, above))) in
          omega (arith, more, apart, no_channel_down);
    }

    parent_asks : (K : Facts) → IsUp K → (t : Bool) → knows G parent.0 ≡ t
        → IsAsking none_owed (after_lines K (cond t [] (lines.Sent parent child (query_of parent) ∷ [])))
    parent_asks K up true is = record {
      counted = counted_owed down_owed none_owed (knows K) K (λ a b. ap (λ t. add (not t) child.0 parent.0 a b) is) up.asking.counted;
      known = up.asking.known;
      rooted = up.asking.rooted;
    }
    parent_asks K up false is = record {
      counted = counted_sent down_owed none_owed (knows K) K parent child (query_of parent)
          (λ a b. let one : down_owed a b ≡ add true child.0 parent.0 a b = ap (λ t. add (not t) child.0 parent.0 a b) is in omega (arith, one))
          (λ query. up.queries) up.asking.counted;
      known = known_sent K parent child (query_of parent) up.asking.counted.within (λ kind. refl) (λ here. absurd (cc)) up.asking.known;
      rooted = up.asking.rooted;
    }

    pub asked_boot : IsAsking none_owed (after_lines G (birth_lines child kind parent blocks ns (G.heard parent.0) ++ adopt_lines (view_of G parent) child))
    asked_boot =
        let K = after_lines H (child_lines child parent ns) in
        let last : IsAsking none_owed (after_lines K (adopt_lines (view_of G parent) child))
        = subst (λ t. IsAsking none_owed (after_lines K (cond t [] (lines.Sent parent child (query_of parent) ∷ []))))
        (sym (knows_way_is G parent)) (parent_asks K (child_asks ns refl) (knows G parent.0) refl) in
        let whole : IsAsking none_owed (after_lines H (child_lines child parent ns ++ adopt_lines (view_of G parent) child))
        = subst (IsAsking none_owed) (sym (laws.past.after H (child_lines child parent ns) (adopt_lines (view_of G parent) child))) last in
        subst (λ heard. IsAsking none_owed (after_lines G (birth_lines child kind parent blocks ns heard ++ adopt_lines (view_of G parent) child)))
        (sym (old.known.quiet parent.0)) whole
