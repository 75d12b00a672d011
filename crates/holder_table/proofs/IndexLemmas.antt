-- The index of names by segids: what a change leaves, and which key comes first from one on.
use Rattle.std.proofs.Common.{◌≡◌, ◌≤◌, ℕ, ℤ, Bool, true, false, cond, not, ◌&&◌, ◌||◌, List, [], ◌∷◌, refl, sym, ap, ◌∙◌, subst, true≢false}
use Rattle.std.specs.Prelude.{◌==◌, ⊤, IsTrue, slice_get, IfSome}
use Rattle.std.specs.List.{list_any}
use Rattle.std.specs.Ordering.{int_cmp, int_eq, is_eq, is_gt, ordering_then, ordering_reverse}
use Rattle.std.specs.declared.cmp.Ordering.{Ordering}
use Rattle.std.specs.declared.cmp.Ordering.TheVariants.{Less, Equal, Greater}
use Rattle.std.specs.BTreeMap.{is_at}
use Rattle.std.specs.BTreeMap.Range.{IsLeBy}
use Rattle.std.specs.BTreeSet.{BTreeSet, IsKeyRangeOf}
use Rattle.std.specs.declared.ops.Bound.TheVariants.{Included, Unbounded}
use Rattle.std.proofs.lemmas.Bool.{false_from_ne_true}
use Rattle.std.proofs.lemmas.Cmp.{int_cmp_total, tied_itself}
use Rattle.std.proofs.lemmas.Map.Lookups.{exact_signed}
use Rattle.xm_num.specs.declared.Segid.{Segid}
use Rattle.holder_table.specs.Holding.{name_order}
use Rattle.holder_table.specs.Index.{key_order, is_indexed, IsNextIndexed}
use Rattle.holder_table.proofs.NameLemmas.{both, same_name, up_to_enclave, from_enclave}
use Rattle.holder_table.proofs.Tables.{equal}

same_key : (a b : Segid × (ℕ × ℕ)) → is_at (key_order a) b ≡ (int_eq a.0.0 b.0.0 && ((a.1.0 == b.1.0) && (a.1.1 == b.1.1)))
same_key a b = both (int_cmp a.0.0 b.0.0) (name_order a.1 b.1) ∙ ap (λ t. int_eq a.0.0 b.0.0 && t) (same_name a.1 b.1)

-- what a change of one key leaves
pub added : (key : Segid × (ℕ × ℕ)) (old new : List (Segid × (ℕ × ℕ)))
    → ((q : Segid × (ℕ × ℕ)) → list_any (is_at (key_order q)) new ≡ cond (is_at (key_order key) q) true (list_any (is_at (key_order q)) old))
    → (s : Segid) (e c : ℕ) → is_indexed new s e c ≡ (int_eq key.0.0 s.0 && ((key.1.0 == e) && (key.1.1 == c)) || is_indexed old s e c)
added key old new changed s e c =
    changed (s, (e, c)) ∙ ap (λ t. cond t true (is_indexed old s e c)) (same_key key (s, (e, c))) ∙ by (int_eq key.0.0 s.0 && ((key.1.0 == e) && (key.1.1 == c))) (is_indexed old s e c)
  where
    by : (b was : Bool) → cond b true was ≡ (b || was)
    by true was = refl
    by false was = refl

pub taken : (key : Segid × (ℕ × ℕ)) (old new : List (Segid × (ℕ × ℕ)))
    → ((q : Segid × (ℕ × ℕ)) → list_any (is_at (key_order q)) new ≡ cond (is_at (key_order key) q) false (list_any (is_at (key_order q)) old))
    → (s : Segid) (e c : ℕ) → is_indexed new s e c ≡ (not (int_eq key.0.0 s.0 && ((key.1.0 == e) && (key.1.1 == c))) && is_indexed old s e c)
taken key old new changed s e c =
    changed (s, (e, c)) ∙ ap (λ t. cond t false (is_indexed old s e c)) (same_key key (s, (e, c))) ∙ by (int_eq key.0.0 s.0 && ((key.1.0 == e) && (key.1.1 == c))) (is_indexed old s e c)
  where
    by : (b was : Bool) → cond b false was ≡ (not b && was)
    by true was = refl
    by false was = refl

-- segids of which neither is above the other
level : (x y : ℤ) → is_gt (int_cmp x y) ≡ false → is_gt (int_cmp y x) ≡ false → int_eq x y ≡ true
level x y up down = by (int_cmp y x) (int_cmp_total.antisymm x y) down
  where
    by : (r : Ordering) → int_cmp x y ≡ ordering_reverse r → is_gt r ≡ false → int_eq x y ≡ true
    by Less is down = absurd (true≢false (sym (ap is_gt is) ∙ up))
    by Equal is down = ap is_eq is
    by Greater is down = absurd (true≢false down)

first_up : (r s : Ordering) → is_gt (ordering_then r s) ≡ false → is_gt r ≡ false
first_up Less s up = refl
first_up Equal s up = refl
first_up Greater s up = up

tied : (x y : ℤ) → int_eq x y ≡ true → int_cmp x y ≡ Equal
tied x y is = equal (int_cmp x y) is

-- at one segid the names tell the order
up_to_name : (a b : Segid × (ℕ × ℕ)) → int_eq a.0.0 b.0.0 ≡ true → IsLeBy key_order a b → IsLeBy name_order a.1 b.1
up_to_name a b same up = sym (ap (λ o. is_gt (ordering_then o (name_order a.1 b.1))) (tied a.0.0 b.0.0 same)) ∙ up

from_low : (segid : Segid) (low e c : ℕ) → low ≤ e → IsLeBy key_order (segid, (low, 0)) (segid, (e, c))
from_low segid low e c up = ap (λ o. is_gt (ordering_then o (name_order (low, 0) (e, c)))) (tied_itself int_cmp_total segid.0) ∙ from_enclave low e c up

module _ (s : BTreeSet (Segid × (ℕ × ℕ))) (segid : Segid) (low : ℕ) (r : List (Segid × (ℕ × ℕ))) (range : IsKeyRangeOf key_order (Included (segid, (low, 0))) Unbounded s r) where
  pub none_left : r ≡ [] → (e c : ℕ) → low ≤ e → is_indexed s.keys segid e c ≡ false
  none_left none e c up = range.5 none (segid, (e, c)) (from_low segid low e c up, tt)

  module _ (k : Segid × (ℕ × ℕ)) (left : List (Segid × (ℕ × ℕ))) (is : r ≡ k ∷ left) where
    first : (IsLeBy key_order (segid, (low, 0)) k × ⊤) × IsTrue (list_any (is_at (key_order k)) s.keys)
    first =
        let Here : List (Segid × (ℕ × ℕ)) → Type 0 = λ r. IfSome (slice_get r 0) (λ k. (IsLeBy key_order (segid, (low, 0)) k × ⊤) × IsTrue (list_any (is_at (key_order k)) s.keys)) in
        subst Here is range.1

    after : (e c : ℕ) → low ≤ e → is_indexed s.keys segid e c ≡ true → IsLeBy key_order k (segid, (e, c))
    after e c up has =
        let After : List (Segid × (ℕ × ℕ)) → Type 0 = λ r. IfSome (slice_get r 0) (λ k. IsLeBy key_order k (segid, (e, c))) in
        subst After is (range.2 (segid, (e, c)) (from_low segid low e c up, tt) has)

    -- the first key has another segid, which is above
    pub none_there : int_eq k.0.0 segid.0 ≡ false → (e c : ℕ) → low ≤ e → is_indexed s.keys segid e c ≡ false
    none_there other e c up =
        false_from_ne_true (is_indexed s.keys segid e c) (λ has.
        let same = level k.0.0 segid.0
        (first_up (int_cmp k.0.0 segid.0) (name_order k.1 (e, c)) (after e c up has))
        (first_up (int_cmp segid.0 k.0.0) (name_order (low, 0) k.1) first.0.0) in
        true≢false (sym same ∙ other))

    -- the first key has the segid
    pub next_there : int_eq k.0.0 segid.0 ≡ true → IsNextIndexed s.keys segid low k.1.0
    next_there same =
        let number : k.0.0 ≡ segid.0 = exact_signed k.0.0 segid.0 (tied k.0.0 segid.0 same) in
        let back : int_eq segid.0 k.0.0 ≡ true = ap (λ z. int_eq segid.0 z) number ∙ ap is_eq (tied_itself int_cmp_total segid.0) in
        let Stands : ℤ → Type 0 = λ z. list_any (λ (b : Segid × (ℕ × ℕ)). is_eq (ordering_then (int_cmp z b.0.0) (name_order k.1 b.1))) s.keys ≡ true in
        record {
          from = up_to_enclave (low, 0) k.1 (up_to_name (segid, (low, 0)) k back first.0.0);
          here = (k.1.1, subst Stands number first.1);
          least = λ e c up has. up_to_enclave k.1 (e, c) (up_to_name k (segid, (e, c)) same (after e c up has));
        }
