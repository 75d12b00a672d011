-- The index of segids by owners: what a change leaves, and which key of a range comes first.
use Rattle.std.proofs.Common.{◌≡◌, ◌≤◌, ℕ, Bool, true, false, cond, not, ◌&&◌, ◌||◌, List, [], ◌∷◌, refl, sym, ap, ◌∙◌, subst, true≢false, inl, inr, arith}
use Rattle.std.specs.Prelude.{◌==◌, IsTrue, slice_get, IfSome}
use Rattle.std.specs.List.{list_any}
use Rattle.std.specs.Ordering.{nat_cmp, ordering_then, is_eq, is_gt}
use Rattle.std.specs.declared.cmp.Ordering.{Ordering}
use Rattle.std.specs.declared.cmp.Ordering.TheVariants.{Less, Equal, Greater}
use Rattle.std.specs.Cmp.{unsigned_tied, nat_cmp_is}
use Rattle.std.specs.BTreeMap.{is_at}
use Rattle.std.specs.BTreeSet.{BTreeSet, IsKeyRangeOf}
use Rattle.std.specs.declared.ops.Bound.TheVariants.{Included}
use Rattle.std.proofs.lemmas.Bool.{cases_Bool, cases_order}
use Rattle.name_server.specs.Index.{key_order, is_indexed, IsLeastOf}

both : (a b : Ordering) → is_eq (ordering_then a b) ≡ (is_eq a && is_eq b)
both Less b = refl
both Equal b = refl
both Greater b = refl

same_key : (a b : ℕ × ℕ) → is_at (key_order a) b ≡ ((a.0 == b.0) && (a.1 == b.1))
same_key a b = both (nat_cmp a.0 b.0) (nat_cmp a.1 b.1) ∙ rw (unsigned_tied a.0 b.0, unsigned_tied a.1 b.1) refl

-- what a change of one key leaves
pub added : (key : ℕ × ℕ) (old new : List (ℕ × ℕ))
    → ((q : ℕ × ℕ) → list_any (is_at (key_order q)) new ≡ cond (is_at (key_order key) q) true (list_any (is_at (key_order q)) old))
    → (e k : ℕ) → is_indexed new e k ≡ (((key.0 == e) && (key.1 == k)) || is_indexed old e k)
added key old new changed e k = changed (e, k) ∙ rw (same_key key (e, k)) (by ((key.0 == e) && (key.1 == k)) (is_indexed old e k))
  where
    by : (b was : Bool) → cond b true was ≡ (b || was)
    by true was = refl
    by false was = refl

pub taken : (key : ℕ × ℕ) (old new : List (ℕ × ℕ))
    → ((q : ℕ × ℕ) → list_any (is_at (key_order q)) new ≡ cond (is_at (key_order key) q) false (list_any (is_at (key_order q)) old))
    → (e k : ℕ) → is_indexed new e k ≡ (not ((key.0 == e) && (key.1 == k)) && is_indexed old e k)
taken key old new changed e k = changed (e, k) ∙ rw (same_key key (e, k)) (by ((key.0 == e) && (key.1 == k)) (is_indexed old e k))
  where
    by : (b was : Bool) → cond b false was ≡ (not b && was)
    by true was = refl
    by false was = refl

-- one key comes no later than another
abbrev IsUpTo : ℕ × ℕ → ℕ × ℕ → Type 0
IsUpTo a b = is_gt (key_order a b) ≡ false

up_to_owner : (a b : ℕ × ℕ) → IsUpTo a b → a.0 ≤ b.0
up_to_owner a b up = elim (cases_order a.0 b.0) [
  | inl same ↦ omega arith
  | inr (inl less) ↦ omega arith
  | inr (inr more) ↦
      let bad : true ≡ false = ap (λ o. is_gt (ordering_then o (nat_cmp a.1 b.1))) (nat_cmp_is a.0 b.0 Greater more) ∙ up in absurd (true≢false bad)
]

up_to_segid : (a b : ℕ × ℕ) → a.0 ≡ b.0 → IsUpTo a b → a.1 ≤ b.1
up_to_segid a b same up = elim (cases_order a.1 b.1) [
  | inl is ↦ omega arith
  | inr (inl less) ↦ omega arith
  | inr (inr more) ↦
      let one : is_gt (nat_cmp a.1 b.1) ≡ false = ap (λ o. is_gt (ordering_then o (nat_cmp a.1 b.1))) (nat_cmp_is a.0 b.0 Equal same) ∙ up in
      let bad : true ≡ false = ap is_gt (nat_cmp_is a.1 b.1 Greater more) ∙ one in absurd (true≢false bad)
]

up_to : (a b : ℕ × ℕ) → a.0 ≡ b.0 → a.1 ≤ b.1 → IsUpTo a b
up_to a b same up =
    let first : nat_cmp a.0 b.0 ≡ Equal = sym (nat_cmp_is a.0 b.0 Equal same) in
    rw first (elim (cases_order a.1 b.1) [
      | inl is ↦ let next : nat_cmp a.1 b.1 ≡ Equal = sym (nat_cmp_is a.1 b.1 Equal is) in rw next refl
      | inr (inl less) ↦ let next : nat_cmp a.1 b.1 ≡ Less = sym (nat_cmp_is a.1 b.1 Less less) in rw next refl
      | inr (inr more) ↦ absurd (omega arith)
    ])

module _ (s : BTreeSet (ℕ × ℕ)) (owner high : ℕ) (from to : ℕ × ℕ) (starts : from ≡ (owner, 0)) (ends : to ≡ (owner, high)) (r : List (ℕ × ℕ)) (range : IsKeyRangeOf key_order (Included from) (Included to) s r) where
  in_range : (k : ℕ) → k ≤ high → IsUpTo from (owner, k) × IsUpTo (owner, k) to
  in_range k below = (rw starts (up_to (owner, 0) (owner, k) refl (omega arith)), rw ends (up_to (owner, k) (owner, high) refl below))

  -- an owner without a key in the range has none
  pub no_least : r ≡ [] → (k : ℕ) → k ≤ high → is_indexed s.keys owner k ≡ false
  no_least none k below = range.5 none (owner, k) (in_range k below)

  -- the first key of the range has the owner's least segid
  pub least : (first : ℕ × ℕ) (left : List (ℕ × ℕ)) → r ≡ first ∷ left → IsLeastOf s.keys owner first.1
  least first left is =
      let Here : List (ℕ × ℕ) → Type 0 = λ r. IfSome (slice_get r 0) (λ k. (IsUpTo from k × IsUpTo k to) × IsTrue (list_any (is_at (key_order k)) s.keys)) in
      let here = subst Here is range.1 in
      let low : IsUpTo (owner, 0) first = subst (λ from. IsUpTo from first) starts here.0.0 in
      let up : IsUpTo first (owner, high) = subst (λ to. IsUpTo first to) ends here.0.1 in
      let its : first.0 ≡ owner = omega (arith, up_to_owner (owner, 0) first low, up_to_owner first (owner, high) up) in
      let Has : ℕ → Type 0 = λ o. is_indexed s.keys o first.1 ≡ true in
      record {
        here = subst Has its here.1;
        none = λ q below. elim (cases_Bool (is_indexed s.keys owner q)) [
          | inl has ↦
              let After : List (ℕ × ℕ) → Type 0 = λ r. IfSome (slice_get r 0) (λ k. IsUpTo k (owner, q)) in
              let after = subst After is (range.2 (owner, q) (in_range q (omega (arith, up_to_segid first (owner, high) its up))) has) in
              absurd (omega (arith, up_to_segid first (owner, q) its after))
          | inr hasnt ↦ hasnt
        ];
      }
