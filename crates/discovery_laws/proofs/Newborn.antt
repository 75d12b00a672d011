-- What a birth leaves of who knows the way and who asks.
use Rattle.std.proofs.Common.{◌≡◌, ◌≢◌, ◌+◌, ◌<◌, ◌≤◌, ℕ, List, Bool, true, false, not, ◌&&◌, ◌||◌, eqb, drop, inl, inr, is_some, Option, None, Some, refl, sym, ap, ◌∙◌, subst, arith}
use Rattle.std.specs.Prelude.{◌⊎◌}
use Rattle.std.proofs.lemmas.Bool.{eqb-true, eqb-false, eq-eqb, ne_eqb, le-ltb, ltb-true, and_parts, or_cases, or_left, or_right}
use Rattle.xm_num.specs.declared.Enclave.{Enclave}
use Rattle.xm_num.specs.declared.Kind.{Kind}
use Rattle.xm_num.specs.declared.Block.{Block}
use Rattle.xm_num.specs.Rows.{at}
use Rattle.xemem_language.specs.declared.line.Line.TheVariants as lines
use Rattle.global_model.specs.Facts.{Facts, EnclaveFact, after_line, has_parent, is_holder, no_channel}
use Rattle.global_model.specs.Channels.{is_child_of, is_neighbour}
use Rattle.global_model.specs.Flow.{AreWays, IsTree}
use Rattle.global_model.specs.Tree.{IsRooted, IsToward, parent_of}
use Rattle.discovery_laws.specs.Known.{askers_of, holds, knows, way_at}
use Rattle.discovery_laws.specs.Laws.{TreeLaws}
use Rattle.discovery_laws.proofs.Flights.{one_if, count, add}
use Rattle.discovery_laws.proofs.Asking.{is_query, is_here, place, one_place, remembers, queries_flying, heres_sent, heres_flying, number_has, IsCounted}
use Rattle.discovery_laws.proofs.Knowing.{IsKnown}
use Rattle.discovery_laws.proofs.Led.{IsHeld}

-- a child was born
some_fact : (p : ℕ) (fact : Option EnclaveFact) → has_parent p fact ≡ true → is_some fact ≡ true
some_fact p None is = cc
some_fact p (Some fact) is = refl

pub child_born : (G : Facts) (c p : ℕ) → IsTree G → is_child_of G c p ≡ true → c < G.born
child_born G c p tree is =
    let parts = and_parts (not (eqb c 0)) (has_parent p (G.enclave c)) is in
    ltb-true c G.born (sym (tree.enclaves c).known ∙ some_fact p (G.enclave c) parts.1)

not_zero : (b : Bool) → not b ≡ true → b ≡ false
not_zero true is = cc
not_zero false is = refl

-- and so was its parent, before it
pub parent_born : (G : Facts) (c p : ℕ) → IsTree G → is_child_of G c p ≡ true → p < c
parent_born G c p tree is =
    let parts = and_parts (not (eqb c 0)) (has_parent p (G.enclave c)) is in
    let apart : c ≡ 0 → ⊥ = eqb-false c 0 (not_zero (eqb c 0) parts.0) in
    (tree.enclaves c).above p parts.1 (omega (arith, apart))

pub near_born : (G : Facts) (a b : ℕ) → IsTree G → is_neighbour G a b ≡ true → a < G.born
near_born G a b tree near = elim (or_cases (is_child_of G a b) (is_child_of G b a) near) [
  | inl up ↦ child_born G a b tree up
  | inr down ↦ let child = child_born G b a tree down in let above = parent_born G b a tree down in omega (arith, child, above)
]

pub near_turned : (G : Facts) (a b : ℕ) → is_neighbour G a b ≡ true → is_neighbour G b a ≡ true
near_turned G a b near = elim (or_cases (is_child_of G a b) (is_child_of G b a) near) [
  | inl up ↦ or_right (is_child_of G b a) (is_child_of G a b) up
  | inr down ↦ or_left (is_child_of G b a) (is_child_of G a b) down
]

pub near_apart : (G : Facts) (a b : ℕ) → IsTree G → is_neighbour G a b ≡ true → a ≢ b
near_apart G a b tree near = elim (or_cases (is_child_of G a b) (is_child_of G b a) near) [
  | inl up ↦ let above = parent_born G a b tree up in λ same. omega (arith, above, same)
  | inr down ↦ let above = parent_born G b a tree down in λ same. omega (arith, above, same)
]

-- two neighbours after the birth: they were so before, or are the new enclave and its parent
pub data Near (G : Facts) (c p a b : ℕ) : Type 0 where
  Before : is_neighbour G a b ≡ true → Near G c p a b
  Up : a ≡ c → b ≡ p → Near G c p a b
  Down : a ≡ p → b ≡ c → Near G c p a b

module _ (G : Facts) (child parent : Enclave) (kind : Kind) (ns : Bool) (blocks : List Block) (tree : IsTree G) (ways : AreWays G) (next : child.0 ≡ G.born) where
  abbrev pub born : Facts
  born = after_line G (lines.Born child kind parent ns blocks)

  far : (x : ℕ) → is_neighbour G child.0 x ≡ true → ⊥
  far x near = let low = near_born G child.0 x tree near in omega (arith, low, next)

  pub no_way : way_at G child.0 ≡ None
  no_way = by (way_at G child.0) refl
    where
      by : (o : Option Enclave) → way_at G child.0 ≡ o → o ≡ None
      by None is = refl
      by (Some x) is = absurd (far x.0 (ways.way child.0 x is))

  pub no_asker : (k : ℕ) → at (askers_of G child.0) k ≡ None
  no_asker k = by (at (askers_of G child.0) k) refl
    where
      by : (o : Option Enclave) → at (askers_of G child.0) k ≡ o → o ≡ None
      by None is = refl
      by (Some x) is = absurd (far x.0 (ways.askers child.0 k x is))

  no_holder : (fact : Option EnclaveFact) → is_some fact ≡ false → is_holder fact ≡ false
  no_holder None is = refl
  no_holder (Some fact) is = cc

  unborn_holds : holds G child.0 ≡ false
  unborn_holds = no_holder (G.enclave child.0) ((tree.enclaves child.0).known ∙ le-ltb child.0 G.born (omega (arith, next)))

  pub born_holds : holds born child.0 ≡ ns
  born_holds = rw (eq-eqb child.0 child.0 refl) refl

  pub born_knows : knows born child.0 ≡ ns
  born_knows = λ i. by i
    where
      or_false : (b : Bool) → (b || false) ≡ b
      or_false true = refl
      or_false false = refl

      by : knows born child.0 ≡ ns
      by = ap (λ b. b || is_some (way_at G child.0)) born_holds ∙ ap (λ o. ns || is_some o) no_way ∙ or_false ns

  pub other_holds : (e : ℕ) → eqb e child.0 ≡ false → holds born e ≡ holds G e
  other_holds e other = rw other refl

  pub other_knows : (e : ℕ) → eqb e child.0 ≡ false → knows born e ≡ knows G e
  other_knows e other = rw other refl

  unborn_knows : knows G child.0 ≡ false
  unborn_knows = ap (λ b. b || is_some (way_at G child.0)) unborn_holds ∙ ap (λ o. is_some o) no_way

  pub still_knows : (e : ℕ) → knows G e ≡ true → knows born e ≡ true
  still_knows e is = by (eqb e child.0) refl
    where
      by : (t : Bool) → eqb e child.0 ≡ t → knows born e ≡ true
      by true same = let clash : true ≡ false = sym is ∙ ap (knows G) (eqb-true e child.0 same) ∙ unborn_knows in absurd (cc)
      by false other = other_knows e other ∙ is

  pub other_parent : (e : ℕ) → e < G.born → parent_of born e ≡ parent_of G e
  other_parent e below = rw (parent_of, ne_eqb e child.0 (λ same. omega (arith, same, next, below))) refl

  -- ---- neighbours

  child_split : (a b : ℕ) → is_child_of born a b ≡ true → (is_child_of G a b ≡ true) ⊎ ((a ≡ child.0) × (b ≡ parent.0))
  child_split a b = number_has (λ a fact. (not (eqb a 0) && has_parent b fact) ≡ true → (is_child_of G a b ≡ true) ⊎ ((a ≡ child.0) × (b ≡ parent.0)))
      child.0 (Some (record { kind = kind; parent = parent; blocks = blocks; ns = ns; living = true; admitted = false })) G.enclave a
      (λ is. inr (refl, sym (eqb-true parent.0 b (and_parts (not (eqb child.0 0)) (eqb parent.0 b) is).1)))
      (λ other is. inl is)

  pub near_split : (a b : ℕ) → is_neighbour born a b ≡ true → Near G child.0 parent.0 a b
  near_split a b near = elim (or_cases (is_child_of born a b) (is_child_of born b a) near) [
    | inl up ↦ elim (child_split a b up) [
      | inl old ↦ Before (or_left (is_child_of G a b) (is_child_of G b a) old)
      | inr new ↦ Up new.0 new.1
    ]
    | inr down ↦ elim (child_split b a down) [
      | inl old ↦ Before (or_right (is_child_of G a b) (is_child_of G b a) old)
      | inr new ↦ Down new.1 new.0
    ]
  ]

  -- ---- who knows the way

  pub known_born : TreeLaws → IsRooted (parent_of G) → (ns ≡ true → G.server ≡ false) → IsKnown G → IsKnown born
  known_born laws rooted free old = record {
    quiet = old.quiet;
    uncut = old.uncut;
    own = old.own;
    told = λ a b some. still_knows a (old.told a b some);
    over = λ e x is. still_knows x.0 (old.over e x is);
    server = λ e is. served e (eqb e child.0) refl is;
    held = λ is. who is;
    one = λ a b first second. only ns refl a b (eqb a child.0) (eqb b child.0) refl refl first second;
    leads = λ h e x is way. toward h e x way (eqb h child.0) refl is;
  }
    where
      served : (e : ℕ) (t : Bool) → eqb e child.0 ≡ t → knows born e ≡ true → (G.server || ns) ≡ true
      served e true same is = or_right G.server ns (sym born_knows ∙ ap (knows born) (sym (eqb-true e child.0 same)) ∙ is)
      served e false other is = or_left G.server ns (old.server e (sym (other_knows e other) ∙ is))

      -- an enclave that held the name server isn't the new one
      apart : (h : ℕ) → holds G h ≡ true → eqb h child.0 ≡ false
      apart h is = by (eqb h child.0) refl
        where
          by : (t : Bool) → eqb h child.0 ≡ t → eqb h child.0 ≡ false
          by true same = let clash : true ≡ false = sym is ∙ ap (holds G) (eqb-true h child.0 same) ∙ unborn_holds in absurd (cc)
          by false other = other

      who : (G.server || ns) ≡ true → IsHeld born
      who is = elim (or_cases G.server ns is) [
        | inl old_one ↦ record { holder = (old.held old_one).holder; holds = other_holds (old.held old_one).holder (apart (old.held old_one).holder (old.held old_one).holds) ∙ (old.held old_one).holds }
        | inr new ↦ record { holder = child.0; holds = born_holds ∙ new }
      ]

      holds_knows : (e : ℕ) → holds G e ≡ true → knows G e ≡ true
      holds_knows e is = or_left (holds G e) (is_some (way_at G e)) is

      -- where the new one holds the name server none knew the way
      none_knew : ns ≡ true → (e : ℕ) → knows G e ≡ true → ⊥
      none_knew is e knew = let clash : true ≡ false = sym (old.server e knew) ∙ free is in cc

      only : (t : Bool) → ns ≡ t → (a b : ℕ) (s u : Bool) → eqb a child.0 ≡ s → eqb b child.0 ≡ u → holds born a ≡ true → holds born b ≡ true → a ≡ b
      only t is a b true true a_is b_is first second = eqb-true a child.0 a_is ∙ sym (eqb-true b child.0 b_is)
      only t is a b false false a_is b_is first second = old.one a b (sym (other_holds a a_is) ∙ first) (sym (other_holds b b_is) ∙ second)
      only t is a b true false a_is b_is first second =
          let has : ns ≡ true = sym born_holds ∙ ap (holds born) (sym (eqb-true a child.0 a_is)) ∙ first in
          absurd (none_knew has b (holds_knows b (sym (other_holds b b_is) ∙ second)))
      only t is a b false true a_is b_is first second =
          let has : ns ≡ true = sym born_holds ∙ ap (holds born) (sym (eqb-true b child.0 b_is)) ∙ second in
          absurd (none_knew has a (holds_knows a (sym (other_holds a a_is) ∙ first)))

      toward : (h e : ℕ) (x : Enclave) → way_at G e ≡ Some x → (t : Bool) → eqb h child.0 ≡ t → holds born h ≡ true
          → IsToward (parent_of born) (G.born + 1) e h x.0
      toward h e x way true same is =
          let has : ns ≡ true = sym born_holds ∙ ap (holds born) (sym (eqb-true h child.0 same)) ∙ is in
          absurd (none_knew has e (or_right (holds G e) (is_some (way_at G e)) (ap (λ o. is_some o) way)))
      toward h e x way false other is = laws.stays (parent_of G) (parent_of born) G.born (G.born + 1) e h x.0 rooted
          (λ e some below. other_parent e below) (omega arith) (old.leads h e x (sym (other_holds h other) ∙ is) way)

  -- ---- who asks

  -- a row of a new child's can't stand in any table yet
  unasked : IsCounted (λ a b. 0) (knows G) G → (e : ℕ) → remembers G e child.0 ≡ false
  unasked old e = by (at (askers_of G e) (place (parent_of G e) child.0)) refl
    where
      by : (o : Option Enclave) → at (askers_of G e) (place (parent_of G e) child.0) ≡ o → is_some o ≡ false
      by None is = refl
      by (Some x) is =
          let same : child.0 ≡ x.0 = one_place (parent_of G e) child.0 x.0 (old.keyed e (place (parent_of G e) child.0) x is) in
          let near = near_turned G e x.0 (ways.askers e (place (parent_of G e) child.0) x is) in
          absurd (far e (subst (λ n. is_neighbour G n e ≡ true) (sym same) near))

  same_remembers : (a b : ℕ) → remembers born a b ≡ remembers G a b
  same_remembers a b = by (eqb a child.0) refl
    where
      empty : eqb a child.0 ≡ true → (k : ℕ) → at (askers_of G a) k ≡ None
      empty same k = ap (λ n. at (askers_of G n) k) (eqb-true a child.0 same) ∙ no_asker k

      by : (t : Bool) → eqb a child.0 ≡ t → remembers born a b ≡ remembers G a b
      by true same = ap is_some (empty same (place (parent_of born a) b)) ∙ sym (ap is_some (empty same (place (parent_of G a) b)))
      by false other = rw (parent_of, other) refl

  more_know : (e : ℕ) → one_if (knows G e) ≤ one_if (knows born e)
  more_know e = by (knows G e) refl
    where
      by : (t : Bool) → knows G e ≡ t → one_if t ≤ one_if (knows born e)
      by true is = let one : one_if (knows born e) ≡ 1 = ap one_if (still_knows e is) in omega (arith, one)
      by false is = omega arith

  pub far_up : (x : ℕ) → is_neighbour G child.0 x ≡ false
  far_up x = by (is_neighbour G child.0 x) refl
    where
      by : (t : Bool) → is_neighbour G child.0 x ≡ t → t ≡ false
      by true is = absurd (far x is)
      by false is = refl

  pub far_down : (x : ℕ) → is_neighbour G x child.0 ≡ false
  far_down x = by (is_neighbour G x child.0) refl
    where
      by : (t : Bool) → is_neighbour G x child.0 ≡ t → t ≡ false
      by true is = absurd (far x (near_turned G x child.0 is))
      by false is = refl

  -- where the two are to ask each other for the way, if they don't know it
  pub counted_born : (owed : ℕ → ℕ → ℕ) → ((x y : ℕ) → is_neighbour G x y ≡ false → G.channel x y ≡ no_channel)
      → ((a b : ℕ) → owed a b ≤ 1)
      → ((a b : ℕ) → owed a b ≤ add true parent.0 child.0 a b + add true child.0 parent.0 a b)
      → (is_neighbour born child.0 parent.0 ≡ true → 1 ≤ one_if ns + owed parent.0 child.0)
      → (is_neighbour born parent.0 child.0 ≡ true → 1 ≤ one_if (knows G parent.0) + owed child.0 parent.0)
      → IsCounted (λ a b. 0) (knows G) G → IsCounted owed (knows born) born
  counted_born owed apart one most up down old = record {
    within = old.within;
    ascends = old.ascends;
    keyed = λ e k x is. by_key e k x is (eqb e child.0) refl;
    still = λ e k is. by_still e k is (eqb e child.0) refl;
    asks = old.asks;
    once = λ a b. by_pair a b (eqb a parent.0 && eqb b child.0) (eqb a child.0 && eqb b parent.0) refl refl;
    asked = λ a b near. by_near a b near (near_split a b near);
  }
    where
      by_pair : (a b : ℕ) (s t : Bool) → (eqb a parent.0 && eqb b child.0) ≡ s → (eqb a child.0 && eqb b parent.0) ≡ t
          → heres_sent G a b + one_if (remembers born a b) + owed a b + queries_flying G b a ≤ 1
      by_pair a b true t first second =
          let both = and_parts (eqb a parent.0) (eqb b child.0) first in
          let a_is = eqb-true a parent.0 both.0 in
          let b_is = eqb-true b child.0 both.1 in
          let heres : heres_sent G a b ≡ 0 = (λ i. heres_sent G a (b_is i)) ∙ ap (λ c. count is_here c.sent) (apart a child.0 (far_down a)) in
          let queries : queries_flying G b a ≡ 0 = (λ i. queries_flying G (b_is i) a) ∙ ap (λ c. count is_query (drop c.got c.sent)) (apart child.0 a (far_up a)) in
          let kept : one_if (remembers born a b) ≡ 0 = ap one_if (same_remembers a b ∙ ap (remembers G a) b_is ∙ unasked old a) in
          omega (arith, heres, queries, kept, one a b)
      by_pair a b false true first second =
          let both = and_parts (eqb a child.0) (eqb b parent.0) second in
          let a_is = eqb-true a child.0 both.0 in
          let heres : heres_sent G a b ≡ 0 = (λ i. heres_sent G (a_is i) b) ∙ ap (λ c. count is_here c.sent) (apart child.0 b (far_up b)) in
          let queries : queries_flying G b a ≡ 0 = (λ i. queries_flying G b (a_is i)) ∙ ap (λ c. count is_query (drop c.got c.sent)) (apart b child.0 (far_down b)) in
          let kept : one_if (remembers born a b) ≡ 0 = ap one_if (same_remembers a b ∙ ap (λ n. remembers G n b) a_is ∙ ap is_some (no_asker (place (parent_of G child.0) b))) in
          omega (arith, heres, queries, kept, one a b)
      by_pair a b false false first second =
          let none : add true parent.0 child.0 a b ≡ 0 = ap one_if first in
          let away : add true child.0 parent.0 a b ≡ 0 = ap one_if second in
          let kept : one_if (remembers born a b) ≡ one_if (remembers G a b) = ap one_if (same_remembers a b) in
          omega (arith, none, away, kept, most a b, old.once a b)

      by_near : (a b : ℕ) → is_neighbour born a b ≡ true → Near G child.0 parent.0 a b
          → 1 ≤ one_if (knows born a) + one_if (remembers born b a) + owed b a + queries_flying G a b + heres_flying G b a
      by_near a b is (Before near) =
          let kept : one_if (remembers born b a) ≡ one_if (remembers G b a) = ap one_if (same_remembers b a) in
          omega (arith, kept, more_know a, old.asked a b near)
      by_near a b is (Up a_is b_is) =
          let knowing : one_if (knows born a) ≡ one_if ns = ap one_if (ap (knows born) a_is ∙ born_knows) in
          let owes : owed b a ≡ owed parent.0 child.0 = λ i. owed (b_is i) (a_is i) in
          omega (arith, knowing, owes, up ((λ i. is_neighbour born (sym a_is i) (sym b_is i)) ∙ is))
      by_near a b is (Down a_is b_is) =
          let knowing : one_if (knows G a) ≡ one_if (knows G parent.0) = ap (λ n. one_if (knows G n)) a_is in
          let owes : owed b a ≡ owed child.0 parent.0 = λ i. owed (b_is i) (a_is i) in
          omega (arith, knowing, more_know a, owes, down ((λ i. is_neighbour born (sym a_is i) (sym b_is i)) ∙ is))

      by_key : (e k : ℕ) (x : Enclave) → at (askers_of G e) k ≡ Some x → (t : Bool) → eqb e child.0 ≡ t → k ≡ place (parent_of born e) x.0
      by_key e k x is true same =
          let none : at (askers_of G e) k ≡ None = ap (λ n. at (askers_of G n) k) (eqb-true e child.0 same) ∙ no_asker k in
          let clash = sym none ∙ is in
          absurd (cc)
      by_key e k x is false other = rw (parent_of, other) (old.keyed e k x is)

      by_still : (e k : ℕ) → knows born e ≡ true → (t : Bool) → eqb e child.0 ≡ t → at (askers_of G e) k ≡ None
      by_still e k is true same = ap (λ n. at (askers_of G n) k) (eqb-true e child.0 same) ∙ no_asker k
      by_still e k is false other = old.still e k (sym (other_knows e other) ∙ is)
