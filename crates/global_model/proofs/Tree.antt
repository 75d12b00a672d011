-- The tree of enclaves: who are neighbours, and what a birth and an admission leave.
use Rattle.std.proofs.Common.{◌≡◌, ◌≢◌, ◌+◌, ◌<◌, ◌≤◌, ℕ, List, [], ◌∷◌, Bool, true, false, cond, not, ◌&&◌, ◌||◌, eqb, ltb, is_some, Option, None, Some, inl, inr, refl, sym, ap, ◌∙◌, subst, arith}
use Rattle.std.proofs.lemmas.Bool.{eqb-true, eqb-false, eq-eqb, ne_eqb, lt-ltb, le-ltb, ltb-true, ltb-false, and_parts, and_from, or_cases, or_left, or_right, not-true, not_from_false, false_from_ne_true, both_ways}
use Rattle.xm_num.specs.declared.Enclave.{Enclave}
use Rattle.xm_num.specs.declared.Block.{Block}
use Rattle.xm_num.specs.declared.Kind.{Kind}
use Rattle.xemem_language.specs.declared.command.Command.TheVariants as commands
use Rattle.xemem_language.specs.declared.line.Line.{Line}
use Rattle.xemem_language.specs.declared.line.Line.TheVariants as lines
use Rattle.global_model.specs.Facts.{Facts, EnclaveFact, after_line, after_lines, as_admitted, has_parent, is_living_enclave, lives_at}
use Rattle.global_model.specs.Channels.{end_waits, is_child_of, is_neighbour}
use Rattle.global_model.specs.Flow.{IsBornBelow, IsTree}

-- ---- children and neighbours

-- a child isn't the host, was born, and has a parent with a lower number
pub record IsUnder (born c p : ℕ) : Type 0 where
  pub some : 0 < c
  pub below : c < born
  pub above : p < c

has_some : (p : ℕ) (fact : Option EnclaveFact) → has_parent p fact ≡ true → is_some fact ≡ true
has_some p None is = cc
has_some p (Some fact) is = refl

under_by : (G : Facts) (c p : ℕ) → IsBornBelow G.born c (G.enclave c) → is_child_of G c p ≡ true → IsUnder G.born c p
under_by G c p below is =
    let parts = and_parts (not (eqb c 0)) (has_parent p (G.enclave c)) is in
    let apart : c ≡ 0 → ⊥ = eqb-false c 0 (not-true (eqb c 0) parts.0) in
    let some : 0 < c = omega (arith, apart) in
    record {
      some = some;
      below = ltb-true c G.born (sym below.known ∙ has_some p (G.enclave c) parts.1);
      above = below.above p parts.1 some;
    }

pub child_under : (G : Facts) (c p : ℕ) → IsTree G → is_child_of G c p ≡ true → IsUnder G.born c p
child_under G c p tree is = under_by G c p (tree.enclaves c) is

pub is_child : (G : Facts) (c p : ℕ) → 0 < c → has_parent p (G.enclave c) ≡ true → is_child_of G c p ≡ true
is_child G c p some has = and_from _ _ (not_from_false (eqb c 0) (ne_eqb c 0 (λ is. omega (arith, is, some)))) has

or_turned : (a b : Bool) → (a || b) ≡ (b || a)
or_turned true true = refl
or_turned true false = refl
or_turned false true = refl
or_turned false false = refl

pub near-turned : (G : Facts) (x y : ℕ) → is_neighbour G x y ≡ is_neighbour G y x
near-turned G x y = or_turned (is_child_of G x y) (is_child_of G y x)

-- a child and its parent are neighbours
pub child_near : (G : Facts) (c p : ℕ) → is_child_of G c p ≡ true → is_neighbour G c p ≡ true
child_near G c p is = or_left _ _ is

pub parent_near : (G : Facts) (c p : ℕ) → is_child_of G c p ≡ true → is_neighbour G p c ≡ true
parent_near G c p is = or_right (is_child_of G p c) _ is

-- neighbours were born
pub near_born : (G : Facts) (x y : ℕ) → IsTree G → is_neighbour G x y ≡ true → x < G.born
near_born G x y tree is = elim (or_cases (is_child_of G x y) (is_child_of G y x) is) [
  | inl up ↦ (child_under G x y tree up).below
  | inr down ↦ let under = child_under G y x tree down in omega (arith, under.below, under.above)
]

-- what lives was born
living_some : (fact : Option EnclaveFact) → is_living_enclave fact ≡ true → is_some fact ≡ true
living_some None is = cc
living_some (Some fact) is = refl

pub living_born : (G : Facts) (e : ℕ) → IsTree G → lives_at G e ≡ true → e < G.born
living_born G e tree is = ltb-true e G.born (sym (tree.enclaves e).known ∙ living_some (G.enclave e) is)

-- the host lives where it was born
pub root_lives : (G : Facts) → IsTree G → is_some (G.enclave 0) ≡ lives_at G 0
root_lives G tree = (tree.enclaves 0).known ∙ by (ltb 0 G.born) refl
  where
    by : (b : Bool) → ltb 0 G.born ≡ b → b ≡ lives_at G 0
    by true is = sym (tree.root (ltb-true 0 G.born is))
    by false is = sym (false_from_ne_true (lives_at G 0) (λ lives. both_ways (ltb 0 G.born) is (lt-ltb 0 G.born (living_born G 0 tree lives))))

-- all that were born live so far, and so do all neighbours
pub near_living : (G : Facts) (x y : ℕ) → IsTree G → is_neighbour G x y ≡ true → lives_at G x ≡ true
near_living G x y tree is = tree.all_live x (near_born G x y tree is)

-- a tree of which all live
pub living_tree : (G : Facts) → G.born ≤ 256 → ((e : ℕ) → IsBornBelow G.born e (G.enclave e)) → ((e : ℕ) → e < G.born → lives_at G e ≡ true) → IsTree G
living_tree G most enclaves all = record {
  most = most;
  enclaves = enclaves;
  root = all 0;
  upward = λ c p is lives. let under = under_by G c p (enclaves c) is in all p (omega (arith, under.above, under.below));
  all_live = all;
}

-- facts of the same enclaves are the same tree
pub same_tree : (G H : Facts) → H.born ≡ G.born → ((e : ℕ) → H.enclave e ≡ G.enclave e) → IsTree G → IsTree H
same_tree G H born same tree = record {
  most = rw born tree.most;
  enclaves = λ e. rw (born, same e) (tree.enclaves e);
  root = λ some. ap is_living_enclave (same 0) ∙ tree.root (omega (arith, some, born));
  upward = λ c p is lives. ap is_living_enclave (same p) ∙ tree.upward c p (sym (ap (λ o. not (eqb c 0) && has_parent p o) (same c)) ∙ is) (sym (ap is_living_enclave (same c)) ∙ lives);
  all_live = λ e lt. ap is_living_enclave (same e) ∙ tree.all_live e (omega (arith, lt, born));
}

-- who aren't neighbours where there are more neighbours aren't where there are fewer
pub far_before : (G H : Facts) → ((x y : ℕ) → is_neighbour G x y ≡ true → is_neighbour H x y ≡ true) → (x y : ℕ)
    → is_neighbour H x y ≡ false → is_neighbour G x y ≡ false
far_before G H grows x y far = false_from_ne_true (is_neighbour G x y) (λ near. both_ways (is_neighbour H x y) far (grows x y near))

-- ---- an admission

below_admitted : (born e : ℕ) (fact : Option EnclaveFact) → IsBornBelow born e fact → IsBornBelow born e (as_admitted fact)
below_admitted born e None is = is
below_admitted born e (Some fact) is = record { known = is.known; above = is.above }

pub tree_admitted : (G : Facts) (e : Enclave) → IsTree G → IsTree (after_line G (lines.Admitted e))
tree_admitted G e tree = living_tree (after_line G (lines.Admitted e)) tree.most (λ j. by j (eqb j e.0) refl) (λ j lt. lives j lt (eqb j e.0) refl)
  where
    same : (fact : Option EnclaveFact) → is_living_enclave (as_admitted fact) ≡ is_living_enclave fact
    same None = refl
    same (Some fact) = refl

    lives : (j : ℕ) → j < G.born → (b : Bool) → eqb j e.0 ≡ b → is_living_enclave (cond b (as_admitted (G.enclave e.0)) (G.enclave j)) ≡ true
    lives j lt true is = same (G.enclave e.0) ∙ ap (λ k. is_living_enclave (G.enclave k)) (sym (eqb-true j e.0 is)) ∙ tree.all_live j lt
    lives j lt false is = tree.all_live j lt

    by : (j : ℕ) (b : Bool) → eqb j e.0 ≡ b → IsBornBelow G.born j (cond b (as_admitted (G.enclave e.0)) (G.enclave j))
    by j true is = subst (λ k. IsBornBelow G.born k (as_admitted (G.enclave e.0))) (sym (eqb-true j e.0 is))
        (below_admitted G.born e.0 (G.enclave e.0) (tree.enclaves e.0))
    by j false is = tree.enclaves j

parent_admitted : (p : ℕ) (fact : Option EnclaveFact) → has_parent p (as_admitted fact) ≡ has_parent p fact
parent_admitted p None = refl
parent_admitted p (Some fact) = refl

child_admitted : (G : Facts) (e : Enclave) (c p : ℕ) → is_child_of (after_line G (lines.Admitted e)) c p ≡ is_child_of G c p
child_admitted G e c p = by (eqb c e.0) refl
  where
    by : (b : Bool) → eqb c e.0 ≡ b
        → (not (eqb c 0) && has_parent p (cond b (as_admitted (G.enclave e.0)) (G.enclave c)))
        ≡ (not (eqb c 0) && has_parent p (G.enclave c))
    by true is = ap (λ has. not (eqb c 0) && has)
        (parent_admitted p (G.enclave e.0) ∙ ap (λ k. has_parent p (G.enclave k)) (sym (eqb-true c e.0 is)))
    by false is = refl

pub near_admitted : (G : Facts) (e : Enclave) (x y : ℕ) → is_neighbour (after_line G (lines.Admitted e)) x y ≡ is_neighbour G x y
near_admitted G e x y = rw (child_admitted G e x y, child_admitted G e y x) refl

-- ---- a birth

other_below : (born j : ℕ) (fact : Option EnclaveFact) → eqb j born ≡ false → IsBornBelow born j fact → IsBornBelow (born + 1) j fact
other_below born j fact other below =
    let same : ltb j born ≡ ltb j (born + 1) = by (ltb j born) refl in
    record { known = below.known ∙ same; above = below.above }
  where
    by : (b : Bool) → ltb j born ≡ b → b ≡ ltb j (born + 1)
    by true is = let lt : j < born = ltb-true j born is in sym (lt-ltb j (born + 1) (omega (arith, lt)))
    by false is =
        let le : born ≤ j = ltb-false j born is in
        let apart : j ≢ born = eqb-false j born other in
        sym (le-ltb j (born + 1) (omega (arith, le, apart)))

pub tree_born : (G : Facts) (e : Enclave) (kind : Kind) (parent : Enclave) (ns : Bool) (blocks : List Block) → IsTree G → G.born < 256
    → e.0 ≡ G.born → (0 < e.0 → parent.0 < e.0)
    → IsTree (after_line G (lines.Born e kind parent ns blocks))
tree_born G e kind parent ns blocks tree room next above = living_tree (after_line G (lines.Born e kind parent ns blocks)) (omega (arith, room)) (λ j. by j (eqb j e.0) refl) (λ j lt. lives j lt (eqb j e.0) refl)
  where
    lives : (j : ℕ) → j < G.born + 1 → (b : Bool) → eqb j e.0 ≡ b
        → is_living_enclave (cond b (Some (record { kind = kind; parent = parent; blocks = blocks; ns = ns; living = true; admitted = false })) (G.enclave j)) ≡ true
    lives j lt true is = refl
    lives j lt false is = let apart = eqb-false j e.0 is in tree.all_live j (omega (arith, lt, next, apart))

    by : (j : ℕ) (b : Bool) → eqb j e.0 ≡ b
        → IsBornBelow (G.born + 1) j (cond b
        (Some (record { kind = kind; parent = parent; blocks = blocks; ns = ns; living = true; admitted = false }))
        (G.enclave j))
    by j true is =
        let same : j ≡ e.0 = eqb-true j e.0 is in
        let lt : ltb j (G.born + 1) ≡ true = lt-ltb j (G.born + 1) (omega (arith, same, next)) in
        record {
          known = sym lt;
          above = λ p has some. let number : parent.0 ≡ p
              = eqb-true parent.0 p has in let lower : parent.0 < e.0 = above (omega (arith, same, some)) in omega
              (arith, number, lower, same);
        }
    by j false is = other_below G.born j (G.enclave j) (rw next at is) (tree.enclaves j)

child_grows : (G : Facts) (e : Enclave) (kind : Kind) (parent : Enclave) (ns : Bool) (blocks : List Block) → IsTree G → e.0 ≡ G.born
    → (c p : ℕ) → is_child_of G c p ≡ true → is_child_of (after_line G (lines.Born e kind parent ns blocks)) c p ≡ true
child_grows G e kind parent ns blocks tree next c p is =
    let under = child_under G c p tree is in
    let other : eqb c e.0 ≡ false = ne_eqb c e.0 (λ same. omega (arith, same, next, under.below)) in
    rw other is

-- neighbours stay neighbours when another enclave is born
pub near_grows : (G : Facts) (e : Enclave) (kind : Kind) (parent : Enclave) (ns : Bool) (blocks : List Block) → IsTree G → e.0 ≡ G.born
    → (x y : ℕ) → is_neighbour G x y ≡ true → is_neighbour (after_line G (lines.Born e kind parent ns blocks)) x y ≡ true
near_grows G e kind parent ns blocks tree next x y is = elim (or_cases (is_child_of G x y) (is_child_of G y x) is) [
  | inl up ↦ or_left _ _ (child_grows G e kind parent ns blocks tree next x y up)
  | inr down ↦ or_right _ _ (child_grows G e kind parent ns blocks tree next y x down)
]

-- and it is its parent's
pub near_newborn : (G : Facts) (e : Enclave) (kind : Kind) (parent : Enclave) (ns : Bool) (blocks : List Block) → 0 < e.0
    → is_neighbour (after_line G (lines.Born e kind parent ns blocks)) e.0 parent.0 ≡ true
near_newborn G e kind parent ns blocks some =
    let here : eqb e.0 e.0 ≡ true = eq-eqb e.0 e.0 refl in
    let mine : eqb parent.0 parent.0 ≡ true = eq-eqb parent.0 parent.0 refl in
    let H = after_line G (lines.Born e kind parent ns blocks) in
    child_near H e.0 parent.0 (is_child H e.0 parent.0 some (rw here (rw mine refl)))

-- ---- who lives

-- Whoever was born lives so far: no line ends an enclave. This goes with `all_live`.
abbrev pub AllLive : Facts → Type 0
AllLive G = (e : ℕ) → is_some (G.enclave e) ≡ true → lives_at G e ≡ true

pub tree_lives : (G : Facts) → IsTree G → AllLive G
tree_lives G tree e some = tree.all_live e (ltb-true e G.born (sym (tree.enclaves e).known ∙ some))

live_line : (line : Line) (G : Facts) → AllLive G → AllLive (after_line G line)
live_line (lines.Born e kind parent ns blocks) G all j some = by (eqb j e.0) some
  where
    by : (b : Bool) → is_some (cond b (Some (record { kind = kind; parent = parent; blocks = blocks; ns = ns; living = true; admitted = false })) (G.enclave j)) ≡ true
        → is_living_enclave (cond b (Some (record { kind = kind; parent = parent; blocks = blocks; ns = ns; living = true; admitted = false })) (G.enclave j)) ≡ true
    by true some = refl
    by false some = all j some
live_line (lines.Admitted e) G all j some = by (eqb j e.0) some
  where
    same : (fact : Option EnclaveFact) → (is_some fact ≡ true → is_living_enclave fact ≡ true) → is_some (as_admitted fact) ≡ true → is_living_enclave (as_admitted fact) ≡ true
    same None lives some = cc
    same (Some fact) lives some = lives refl

    by : (b : Bool) → is_some (cond b (as_admitted (G.enclave e.0)) (G.enclave j)) ≡ true → is_living_enclave (cond b (as_admitted (G.enclave e.0)) (G.enclave j)) ≡ true
    by true some = same (G.enclave e.0) (all e.0) some
    by false some = all j some
live_line (lines.Do (commands.Pool blocks)) G all j some = all j some
live_line _ G all j some = all j some

pub live_lines : (ls : List Line) (G : Facts) → AllLive G → AllLive (after_lines G ls)
live_lines [] G all = all
live_lines (line ∷ ls) G all = live_lines ls (after_line G line) (live_line line G all)

-- so no end mark waits
pub no_end : (G : Facts) (x y : ℕ) → AllLive G → end_waits G x y ≡ false
no_end G x y all = by (lives_at G y) (is_child_of G x y) (lives_at G x) refl refl
  where
    dead : is_child_of G x y ≡ true → lives_at G x ≡ false → ⊥
    dead is gone = both_ways (lives_at G x) gone (all x (has_some y (G.enclave x) (and_parts (not (eqb x 0)) (has_parent y (G.enclave x)) is).1))

    by : (a b c : Bool) → is_child_of G x y ≡ b → lives_at G x ≡ c → (a && (b && (not c && not (G.channel x y).end_taken))) ≡ false
    by false b c is lives = refl
    by true false c is lives = refl
    by true true true is lives = refl
    by true true false is lives = absurd (dead is lives)
