-- Pairs in order.
use Rattle.std.proofs.Common.{◌≡◌, ◌<◌, ℕ, Bool, true, false, cond, not, ◌&&◌, ◌||◌, List, [], ◌∷◌, refl, sym, ◌∙◌, ◌⊎◌, inl, inr, arith, eqb, filter, Option, None, Some}
use Rattle.std.specs.Prelude.{◌==◌}
use Rattle.std.specs.Cmp.{unsigned_tied}
use Rattle.std.specs.List.{list_any, AllByRecursion}
use Rattle.std.specs.Ordering.{is_eq, nat_cmp, ordering_then}
use Rattle.std.specs.declared.cmp.Ordering.{Ordering}
use Rattle.std.specs.declared.cmp.Ordering.TheVariants.{Less, Equal, Greater}
use Rattle.std.specs.BTreeMap.{is_at}
use Rattle.std.specs.BTreeMap.Range.{is_from_start}
use Rattle.std.specs.List.Sorted.{IsStrictlySortedBy}
use Rattle.std.proofs.lemmas.Bool.{and_parts, and_from, or_from, or_left, or_right, eqb-true, ltb-true, ne_eqb, eq-eqb, lt-ltb, le-ltb, cases_order, false_from_ne_true}
use Rattle.std.proofs.lemmas.Bool.Decides.{nat_tests}
use Rattle.std.proofs.lemmas.Map.Keys.{sorted_head, sorted_tail}
use Rattle.number_pairs.specs.Pairs.{has_pair, is_after_last, start_of}

abbrev pub order : ℕ × ℕ → ℕ × ℕ → Ordering
order x y = ordering_then (nat_cmp x.0 y.0) (nat_cmp x.1 y.1)

then_eq : (p q : Ordering) → is_eq (ordering_then p q) ≡ (is_eq p && is_eq q)
then_eq Less q = refl
then_eq Equal q = refl
then_eq Greater q = refl

flip : (a b : ℕ) → eqb a b ≡ eqb b a
flip a b = grind (arith, nat_tests)

test_is : (a b : ℕ) (x : ℕ × ℕ) → is_at (order (a, b)) x ≡ (eqb a x.0 && eqb b x.1)
test_is a b x = then_eq (nat_cmp a x.0) (nat_cmp b x.1) ∙ rw (unsigned_tied a x.0, unsigned_tied b x.1) refl

-- the set's test, and the pair's
contains_is : (a b : ℕ) (xs : List (ℕ × ℕ)) → list_any (is_at (order (a, b))) xs ≡ has_pair xs a b
contains_is a b [] = refl
contains_is a b (x ∷ xs) = rw (test_is a b x, flip a x.0, flip b x.1, contains_is a b xs) refl

pub inserted : (f s a b : ℕ) (xs ys : List (ℕ × ℕ)) → list_any (is_at (order (a, b))) ys ≡ cond (is_at (order (f, s)) (a, b)) true (list_any (is_at (order (a, b))) xs)
    → has_pair ys a b ≡ ((f == a) && (s == b) || has_pair xs a b)
inserted f s a b xs ys h = sym (contains_is a b ys) ∙ h ∙ rw (test_is f s (a, b), contains_is a b xs) (by (eqb f a && eqb s b) (has_pair xs a b))
  where
    by : (t u : Bool) → cond t true u ≡ (t || u)
    by true u = refl
    by false u = refl

pub removed : (f s a b : ℕ) (xs ys : List (ℕ × ℕ)) → list_any (is_at (order (a, b))) ys ≡ cond (is_at (order (f, s)) (a, b)) false (list_any (is_at (order (a, b))) xs)
    → has_pair ys a b ≡ (not ((f == a) && (s == b)) && has_pair xs a b)
removed f s a b xs ys h = sym (contains_is a b ys) ∙ h ∙ rw (test_is f s (a, b), contains_is a b xs) (by (eqb f a && eqb s b) (has_pair xs a b))
  where
    by : (t u : Bool) → cond t false u ≡ (not t && u)
    by true u = refl
    by false u = refl

cmp_less : (a b : ℕ) → a < b → nat_cmp a b ≡ Less
cmp_less a b h = rw (lt-ltb a b h) refl

cmp_same : (a b : ℕ) → a ≡ b → nat_cmp a b ≡ Equal
cmp_same a b h = rw (le-ltb a b (omega arith), eq-eqb a b h) refl

cmp_more : (a b : ℕ) → b < a → nat_cmp a b ≡ Greater
cmp_more a b h = rw (le-ltb a b (omega arith), ne_eqb a b (λ e. omega arith)) refl

order_less : (x y : ℕ × ℕ) → order x y ≡ Less → (x.0 < y.0) ⊎ ((x.0 ≡ y.0) × (x.1 < y.1))
order_less x y h = elim (cases_order x.0 y.0) [
  | inl same ↦ inr (
    same,
    elim (cases_order x.1 y.1) [
      | inl also ↦ absurd (let bad : Equal ≡ Less = sym (rw (cmp_same x.0 y.0 same, cmp_same x.1 y.1 also) refl) ∙ h in (cc))
      | inr (inl less) ↦ less
      | inr (inr more) ↦ absurd (let bad : Greater ≡ Less = sym (rw (cmp_same x.0 y.0 same, cmp_more x.1 y.1 more) refl) ∙ h in (cc))
    ],
  )
  | inr (inl less) ↦ inl less
  | inr (inr more) ↦ absurd (let bad : Greater ≡ Less = sym (rw (cmp_more x.0 y.0 more) refl) ∙ h in (cc))
]

module _ {X : Type 0} (p q : X → Bool) (inside : (x : X) → q x ≡ true → p x ≡ true) where
  outside : (x : X) → p x ≡ false → q x ≡ false
  outside x fails = false_from_ne_true (q x) (λ here. let bad : true ≡ false = sym (inside x here) ∙ fails in cc)

  pub none_within : (xs : List X) → filter p xs ≡ [] → list_any q xs ≡ false
  none_within [] h = refl
  none_within (x ∷ xs) h = by (none_within xs) (p x) refl h
    where
      by : (filter p xs ≡ [] → list_any q xs ≡ false) → (t : Bool) → p x ≡ t → cond t (x ∷ filter p xs) (filter p xs) ≡ [] → (q x || list_any q xs) ≡ false
      by more true is h = cc
      by more false is h = or_from (q x) (list_any q xs) (outside x is) (more h)

  pub none_behind : (R : X → X → Ordering) (xs : List X) (y : X) (ys : List X) → IsStrictlySortedBy R xs → filter p xs ≡ y ∷ ys → q y ≡ false → ((x : X) → R y x ≡ Less → q x ≡ false) → list_any q xs ≡ false
  none_behind R [] y ys sorted h here after = cc
  none_behind R (x ∷ xs) y ys sorted h here after = by (λ h. none_behind R xs y ys (sorted_tail R x xs sorted) h here after) (p x) refl h
    where
      rest : (zs : List X) → AllByRecursion (λ z. R x z ≡ Less) zs → x ≡ y → list_any q zs ≡ false
      rest [] all is = refl
      rest (z ∷ zs) all is = or_from (q z) (list_any q zs) (after z (rw (← is) all.0)) (rest zs all.1 is)

      by : (filter p xs ≡ y ∷ ys → list_any q xs ≡ false) → (t : Bool) → p x ≡ t → cond t (x ∷ filter p xs) (filter p xs) ≡ y ∷ ys → (q x || list_any q xs) ≡ false
      by more true is h =
          let same : x ≡ y = cc in
          or_from (q x) (list_any q xs) (rw same here) (rest xs (sorted_head R x xs sorted) same)
      by more false is h = or_from (q x) (list_any q xs) (outside x is) (more h)

some_within : {X : Type 0} (p q : X → Bool) (xs : List X) (y : X) (ys : List X) → filter p xs ≡ y ∷ ys → q y ≡ true → list_any q xs ≡ true
some_within p q [] y ys h here = cc
some_within p q (x ∷ xs) y ys h here = by (some_within p q xs y ys) (p x) h
  where
    by : (filter p xs ≡ y ∷ ys → q y ≡ true → list_any q xs ≡ true) → (t : Bool) → cond t (x ∷ filter p xs) (filter p xs) ≡ y ∷ ys → (q x || list_any q xs) ≡ true
    by more true h = let same : x ≡ y = cc in or_left (q x) (list_any q xs) (rw same here)
    by more false h = or_right (q x) (list_any q xs) (more h here)

abbrev pub is_from : ℕ → Option ℕ → ℕ × ℕ → Bool
is_from first last x = is_from_start order (start_of first last) x && not false

inside : (first : ℕ) (last : Option ℕ) (b : ℕ) → is_after_last last b ≡ true → (x : ℕ × ℕ) → ((x.0 == first) && (x.1 == b)) ≡ true → is_from first last x ≡ true
inside first last b high x is =
    let parts = and_parts (x.0 == first) (x.1 == b) is in
    by last high (sym (eqb-true x.0 first parts.0)) (eqb-true x.1 b parts.1)
  where
    by : (last : Option ℕ) → is_after_last last b ≡ true → first ≡ x.0 → x.1 ≡ b → is_from first last x ≡ true
    by None high one two = elim (cases_order 0 x.1) [
      | inl same ↦ rw (cmp_same first x.0 one, cmp_same 0 x.1 same) refl
      | inr (inl less) ↦ rw (cmp_same first x.0 one, cmp_less 0 x.1 less) refl
      | inr (inr more) ↦ absurd (omega arith)
    ]
    by (Some a) high one two = let less : a < x.1 = rw (two) (ltb-true a b high) in rw (cmp_same first x.0 one, cmp_less a x.1 less) refl

not_pair : (first b : ℕ) (x : ℕ × ℕ) → ((x.0 ≡ first) → (x.1 ≡ b) → ⊥) → ((x.0 == first) && (x.1 == b)) ≡ false
not_pair first b x apart = false_from_ne_true ((x.0 == first) && (x.1 == b)) (λ is. let parts = and_parts (x.0 == first) (x.1 == b) is in apart (eqb-true x.0 first parts.0) (eqb-true x.1 b parts.1))

pub none_from : (first : ℕ) (last : Option ℕ) (b : ℕ) (xs taken : List (ℕ × ℕ)) → is_after_last last b ≡ true → taken ≡ filter (is_from first last) xs → taken ≡ [] → has_pair xs first b ≡ false
none_from first last b xs taken high is none = none_within (is_from first last) (λ x. (x.0 == first) && (x.1 == b)) (inside first last b high) xs (sym is ∙ none)

-- what passes isn't below
passes_from : (first : ℕ) (last : Option ℕ) (y : ℕ × ℕ) → is_from first last y ≡ true → y.0 < first → ⊥
passes_from first None y passes less = let bad : false ≡ true = sym (rw (cmp_more first y.0 less) refl) ∙ passes in cc
passes_from first (Some a) y passes less = let bad : false ≡ true = sym (rw (cmp_more first y.0 less) refl) ∙ passes in cc

-- what passes and has the first number is above the last one
pub passes_above : (first : ℕ) (last : Option ℕ) (y : ℕ × ℕ) → is_from first last y ≡ true → first ≡ y.0 → is_after_last last y.1 ≡ true
passes_above first None y passes one = refl
passes_above first (Some a) y passes one = elim (cases_order a y.1) [
  | inl same ↦ absurd (let bad : false ≡ true = sym (rw (cmp_same first y.0 one, cmp_same a y.1 same) refl) ∙ passes in (cc))
  | inr (inl less) ↦ lt-ltb a y.1 less
  | inr (inr more) ↦ absurd (let bad : false ≡ true = sym (rw (cmp_same first y.0 one, cmp_more a y.1 more) refl) ∙ passes in (cc))
]

module _ (first : ℕ) (last : Option ℕ) (xs taken : List (ℕ × ℕ)) (y : ℕ × ℕ) (ys : List (ℕ × ℕ)) (is : taken ≡ filter (is_from first last) xs) (takes : taken ≡ y ∷ ys) where
  passes : (zs : List (ℕ × ℕ)) (z : ℕ × ℕ) (rest : List (ℕ × ℕ)) → filter (is_from first last) zs ≡ z ∷ rest → is_from first last z ≡ true
  passes [] z rest h = cc
  passes (x ∷ zs) z rest h = by (passes zs z rest) (is_from first last x) refl h
    where
      by : (filter (is_from first last) zs ≡ z ∷ rest → is_from first last z ≡ true) → (t : Bool) → is_from first last x ≡ t → cond t (x ∷ filter (is_from first last) zs) (filter (is_from first last) zs) ≡ z ∷ rest → is_from first last z ≡ true
      by more true is h = let same : x ≡ z = cc in rw (← same) is
      by more false is h = more h

  pub first_here : y.0 ≡ first → has_pair xs first y.1 ≡ true
  first_here same = some_within (is_from first last) (λ x. (x.0 == first) && (x.1 == y.1)) xs y ys (sym is ∙ takes) (and_from (y.0 == first) (y.1 == y.1) (eq-eqb y.0 first same) (eq-eqb y.1 y.1 refl))

  pub first_above : y.0 ≡ first → is_after_last last y.1 ≡ true
  first_above same = passes_above first last y (passes xs y ys (sym is ∙ takes)) (sym same)

  module _ (b : ℕ) (high : is_after_last last b ≡ true) (sorted : IsStrictlySortedBy order xs) where
    behind : ((y.0 ≡ first) → (y.1 ≡ b) → ⊥) → ((x : ℕ × ℕ) → order y x ≡ Less → (x.0 ≡ first) → (x.1 ≡ b) → ⊥) → has_pair xs first b ≡ false
    behind here after = none_behind (is_from first last) (λ x. (x.0 == first) && (x.1 == b)) (inside first last b high) order xs y ys sorted (sym is ∙ takes) (not_pair first b y here) (λ x less. not_pair first b x (after x less))

    pub none_between : y.0 ≡ first → b < y.1 → has_pair xs first b ≡ false
    none_between same less = behind (λ one two. omega arith) (λ x after one two. elim (order_less y x after) [
      | inl more ↦ omega arith
      | inr more ↦ omega arith
    ])

    pub none_past : (y.0 ≡ first → ⊥) → has_pair xs first b ≡ false
    none_past other = behind (λ one two. other one) (λ x after one two. elim (order_less y x after) [
      | inl more ↦ passes_from first last y (passes xs y ys (sym is ∙ takes)) (omega arith)
      | inr more ↦ other (more.0 ∙ one)
    ])
