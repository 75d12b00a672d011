-- The first number in a range that has a row.
use Rattle.std.proofs.Common.{◌≡◌, ◌<◌, ◌≤◌, ℕ, length, map, Bool, true, false, cond, not, ◌&&◌, eqb, leb, ltb, filter, List, [], ◌∷◌, None, Some, refl, sym, ◌∙◌, inl, inr, arith}
use Rattle.std.specs.Prelude.{nat_le, nat_lt}
use Rattle.std.specs.Ordering.{nat_cmp, is_le, is_lt}
use Rattle.std.specs.List.{All}
use Rattle.std.specs.Map.{lookup_key}
use Rattle.std.proofs.lemmas.Bool.{cases_Bool, le-leb, lt-leb, ltb-true, eqb-true}
use Rattle.std.proofs.lemmas.Bool.Decides.{nat_tests}
use Rattle.std.proofs.lemmas.List.Elements.{All-head, All-tail}

-- whether one number is at most another, by their order
is_le_is : (a b : ℕ) → is_le (nat_cmp a b) ≡ leb a b
is_le_is a b =
    elim (cases_Bool (ltb a b)) [
      | inl less ↦ rw (less, le-leb a b (omega (arith, ltb-true _ _ less))) refl
      | inr not_less ↦ elim (cases_Bool (eqb a b)) [
        | inl same ↦ rw (not_less, same, le-leb a b (omega (arith, eqb-true _ _ same))) refl
        | inr other ↦
            let above : b < a = grind (arith, nat_tests) in
            rw (not_less, other, lt-leb a b above) refl
      ]
    ]

pub at_most : (a b : ℕ) → is_lt (nat_cmp a b) ≡ false → b ≤ a
at_most a b not_less =
    elim (cases_Bool (ltb a b)) [
      | inl less ↦
          let bad : is_lt (nat_cmp a b) ≡ true = rw less refl in
          cc
      | inr other ↦ grind (arith, nat_tests)
    ]

not_leb : (a b : ℕ) → not (leb a b) ≡ ltb b a
not_leb a b = grind (arith, nat_tests)

-- what a range's tests say of a number
pub is_between : (low high k : ℕ) → (is_le (nat_cmp low k) && not (is_le (nat_cmp high k))) ≡ (nat_le low k && nat_lt k high)
is_between low high k = rw (is_le_is low k, is_le_is high k, not_leb high k) refl

pub is_from : (low k : ℕ) → (is_le (nat_cmp low k) && not false) ≡ nat_le low k
is_from low k = rw (is_le_is low k) (grind (arith, nat_tests))

module _ {V : Type 0} (p : ℕ → Bool) where
  none_passes : (es : List (ℕ × V)) → filter (λ e. p e.0) es ≡ [] → lookup_key p es ≡ None
  none_passes [] none = refl
  none_passes (e ∷ es) none = by (none_passes es) (p e.0) none
    where
      by : (filter (λ e. p e.0) es ≡ [] → lookup_key p es ≡ None) → (b : Bool) → cond b (e ∷ filter (λ e. p e.0) es) (filter (λ e. p e.0) es) ≡ [] → cond b (Some e.0) (lookup_key p es) ≡ None
      by more true none = cc
      by more false none = more none

  first_passes : (es : List (ℕ × V)) (y : ℕ × V) (ys : List (ℕ × V)) → filter (λ e. p e.0) es ≡ y ∷ ys → lookup_key p es ≡ Some y.0
  first_passes [] y ys some = cc
  first_passes (e ∷ es) y ys some = by (first_passes es y ys) (p e.0) some
    where
      by : (filter (λ e. p e.0) es ≡ y ∷ ys → lookup_key p es ≡ Some y.0) → (b : Bool) → cond b (e ∷ filter (λ e. p e.0) es) (filter (λ e. p e.0) es) ≡ y ∷ ys → cond b (Some e.0) (lookup_key p es) ≡ Some y.0
      by more true some = cc
      by more false some = more some

  alike : (q : ℕ → Bool) → ((k : ℕ) → p k ≡ q k) → (es : List (ℕ × V)) → lookup_key p es ≡ lookup_key q es
  alike q same [] = refl
  alike q same (e ∷ es) = rw (same e.0, alike q same es) refl

  -- none of the entries passes, or the first that passes has the first number that does
  pub no_key : (q : ℕ → Bool) → ((k : ℕ) → p k ≡ q k) → (es taken : List (ℕ × V)) → taken ≡ filter (λ e. p e.0) es → taken ≡ [] → None ≡ lookup_key q es
  no_key q same es taken is none = sym (sym (alike q same es) ∙ none_passes es (sym is ∙ none))

  pub first_key : (q : ℕ → Bool) → ((k : ℕ) → p k ≡ q k) → (es taken left : List (ℕ × V)) (first : ℕ × V) → taken ≡ filter (λ e. p e.0) es → taken ≡ first ∷ left → Some first.0 ≡ lookup_key q es
  first_key q same es taken left first is takes = sym (sym (alike q same es) ∙ first_passes es first left (sym is ∙ takes))

-- no number past the greatest one has a row, and none is in a range past which there is none
module _ {V : Type 0} where
  pub past : (es : List (ℕ × V)) (last low : ℕ) → All (λ q. is_lt (nat_cmp last q) ≡ false) (map (λ e. e.0) es) → last < low → lookup_key (λ k. nat_le low k) es ≡ None
  past [] last low all below = refl
  past (e ∷ es) last low all below =
      let most : e.0 ≤ last = at_most last e.0 (All-head (λ q. is_lt (nat_cmp last q) ≡ false) e.0 (map (λ x. x.0) es) all) in
      let misses : nat_le low e.0 ≡ false = lt-leb low e.0 (omega (arith, most, below)) in
      rw (misses, past es last low (All-tail (λ q. is_lt (nat_cmp last q) ≡ false) e.0 (map (λ x. x.0) es) all) below) refl

  pub no_rows : (p : ℕ → Bool) (es : List (ℕ × V)) → (0 < length es → false ≡ true) → lookup_key p es ≡ None
  no_rows p [] none = refl
  no_rows p (e ∷ es) none =
      let bad : false ≡ true = none (omega (arith)) in
      cc

  pub none_between : (low high : ℕ) (es : List (ℕ × V)) → lookup_key (λ k. nat_le low k) es ≡ None → lookup_key (λ k. nat_le low k && nat_lt k high) es ≡ None
  none_between low high [] none = refl
  none_between low high (e ∷ es) none = by (none_between low high es) (nat_le low e.0) (nat_lt e.0 high) none
    where
      by : (lookup_key (λ k. nat_le low k) es ≡ None → lookup_key (λ k. nat_le low k && nat_lt k high) es ≡ None) → (a b : Bool) → cond a (Some e.0) (lookup_key (λ k. nat_le low k) es) ≡ None
          → cond (a && b) (Some e.0) (lookup_key (λ k. nat_le low k && nat_lt k high) es) ≡ None
      by more true b none = cc
      by more false b none = more none
