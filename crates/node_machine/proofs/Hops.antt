-- Which channel goes from one enclave to another.
use Rattle.std.proofs.Common.{◌≡◌, ◌-◌, ℕ, List, Bool, true, false, eqb, leb, not, Option, None, Some, refl, ap, ◌∙◌, subst, arith}
use Rattle.std.specs.Prelude.{if◌then◌else◌, slice_get}
use Rattle.std.specs.Option.{option_map_or}
use Rattle.std.proofs.lemmas.Bool.{eqb-true, eq-eqb, leb-true, le-leb, and_parts, false_from_ne_true}
use Rattle.std.proofs.lemmas.Option.{slice_get_within, get_or_from_slice_get, slice_get-get_or}
use Rattle.xm_num.specs.declared.Enclave.{Enclave}
use Rattle.node_machine.specs.declared.pair.Pair.{Pair}
use Rattle.node_machine.specs.declared.pair.Hop.TheVariants as hops
use Rattle.node_machine.specs.Machine.{no_pair, pair_at, is_parent, hop_of, AreAbove, IsPairAt}

parent_found : (pairs : List Pair) (child parent : ℕ) → is_parent pairs child parent ≡ true → IsPairAt pairs (child - 1) child parent
parent_found pairs child parent is = by (slice_get pairs (child - 1)) refl (and_parts (leb 1 child) _ is)
  where
    by : (o : Option Pair) → slice_get pairs (child - 1) ≡ o → (leb 1 child ≡ true) × (option_map_or (λ (pair : Pair). eqb pair.parent.0 parent) o false ≡ true) → IsPairAt pairs (child - 1) child parent
    by None found tests = let no : false ≡ true = tests.1 in cc
    by (Some pair) found tests = record {
      within = slice_get_within pairs (child - 1) pair found;
      child_is = let some = leb-true 1 child tests.0 in omega (arith, some);
      parent_is = ap (λ (p : Pair). p.parent.0) (get_or_from_slice_get pairs (child - 1) pair no_pair found) ∙ eqb-true pair.parent.0 parent tests.1;
    }

pub parent_is : (pairs : List Pair) (i child parent : ℕ) → IsPairAt pairs i child parent → is_parent pairs child parent ≡ true
parent_is pairs i child parent h =
    let some : leb 1 child ≡ true = let is = h.child_is in le-leb 1 child (omega (arith, is)) in
    let place : child - 1 ≡ i = let is = h.child_is in omega (arith, is) in
    let found : slice_get pairs (child - 1) ≡ Some (pair_at pairs i) = ap (slice_get pairs) place ∙ slice_get-get_or pairs i no_pair h.within in
    rw (some, found) (eq-eqb _ parent h.parent_is)

up_tests : (a b c : Bool) (m n i : ℕ) → (if not a then hops.NoEnclave else (if b then hops.Up m else (if c then hops.Down n else hops.NoLink))) ≡ hops.Up i → (b ≡ true) × (m ≡ i)
up_tests false b c m n i is = cc
up_tests true true c m n i is = let same : m ≡ i = cc in (refl, same)
up_tests true false true m n i is = cc
up_tests true false false m n i is = cc

down_tests : (a b c : Bool) (m n i : ℕ) → (if not a then hops.NoEnclave else (if b then hops.Up m else (if c then hops.Down n else hops.NoLink))) ≡ hops.Down i → (c ≡ true) × (n ≡ i)
down_tests false b c m n i is = cc
down_tests true true c m n i is = cc
down_tests true false true m n i is = let same : n ≡ i = cc in (refl, same)
down_tests true false false m n i is = cc

pub up_is : (pairs : List Pair) (known : Bool) (x y : Enclave) (i : ℕ) → hop_of pairs known x y ≡ hops.Up i → IsPairAt pairs i x.0 y.0
up_is pairs known x y i is =
    let tests = up_tests _ _ _ (x.0 - 1) (y.0 - 1) i is in
    subst (λ k. IsPairAt pairs k x.0 y.0) tests.1 (parent_found pairs x.0 y.0 tests.0)

pub down_is : (pairs : List Pair) (known : Bool) (x y : Enclave) (i : ℕ) → hop_of pairs known x y ≡ hops.Down i → IsPairAt pairs i y.0 x.0
down_is pairs known x y i is =
    let tests = down_tests _ _ _ (x.0 - 1) (y.0 - 1) i is in
    subst (λ k. IsPairAt pairs k y.0 x.0) tests.1 (parent_found pairs y.0 x.0 tests.0)

pub is_up : (pairs : List Pair) (x y : Enclave) (i : ℕ) → IsPairAt pairs i x.0 y.0 → hop_of pairs true x y ≡ hops.Up i
is_up pairs x y i h =
    let place : x.0 - 1 ≡ i = let is = h.child_is in omega (arith, is) in
    rw (parent_is pairs i x.0 y.0 h) (ap hops.Up place)

pub is_down : (pairs : List Pair) (x y : Enclave) (i : ℕ) → AreAbove pairs → IsPairAt pairs i y.0 x.0 → hop_of pairs true x y ≡ hops.Down i
is_down pairs x y i above h =
    let place : y.0 - 1 ≡ i = let is = h.child_is in omega (arith, is) in
    let not_up : is_parent pairs x.0 y.0 ≡ false = false_from_ne_true (is_parent pairs x.0 y.0) (λ up.
    let k = parent_found pairs x.0 y.0 up in
    let one = above i h.within in let two = above (x.0 - 1) k.within in
    let a = h.child_is in let b = h.parent_is in let c = k.child_is in let d = k.parent_is in
    omega (arith, one, two, a, b, c, d)) in
    rw (not_up, parent_is pairs i y.0 x.0 h) (ap hops.Down place)

-- a channel goes between ends that are known
pub is_known : (pairs : List Pair) (known : Bool) (x y : Enclave) → (hop_of pairs known x y ≡ hops.NoEnclave → ⊥) → known ≡ true
is_known pairs true x y some = refl
is_known pairs false x y some = absurd (some refl)
