-- Items of a heap as numbers.
use Rattle.std.proofs.Common.{◌≡◌, ◌+◌, ◌≤◌, ℕ, cond, List, [], ◌∷◌, map, length, arith, eqb}
use Rattle.std.specs.Prelude.{Result, Ok, Err}
use Rattle.std.specs.List.{All, count_by}
use Rattle.std.specs.Result.{IsOk, OnOk}
use Rattle.std.specs.List.Sorted.{IsPermutation}
use Rattle.std.specs.BinaryHeap.{IsUpperBound}
use Rattle.std.specs.Ordering.{nat_cmp}
use Rattle.std.specs.declared.cmp.Reverse.{Reverse}
use Rattle.std.proofs.lemmas.List.Elements.{All-cons, All-nil}
use Rattle.std.proofs.lemmas.List.Folds.{fold-map}
use Rattle.std.proofs.lemmas.List.Sorted.{sum_by_pushed, sum_by_popped}
use Rattle.std.proofs.lemmas.Map.Keys.{ge_from_not_lt}
use Rattle.std.proofs.lemmas.List.{length-map}
use Rattle.exporter_pins.specs.Layout.{times}

-- what holds on Ok holds of a call that gave Ok
pub on_ok : {T E P : Type 0} (r : Result T E) → IsOk r → OnOk r P → P
on_ok (Ok x) ok p = p
on_ok (Err e) ok p = cc

times_numbers : (xs : List (Reverse ℕ)) (k : ℕ) → times (map (λ x. x.0) xs) k ≡ count_by (λ x. eqb x.0 k) xs
times_numbers xs k = fold-map (λ a x. a + cond (eqb x k) 1 0) (λ (x : Reverse ℕ). x.0) 0 xs

pub times_pushed : (x : Reverse ℕ) (xs ys : List (Reverse ℕ)) (k : ℕ) → IsPermutation (x ∷ xs) ys → times (map (λ x. x.0) ys) k ≡ cond (eqb x.0 k) 1 0 + times (map (λ x. x.0) xs) k
times_pushed x xs ys k moved = rw (times_numbers ys k, times_numbers xs k) (sum_by_pushed (λ x. cond (eqb x.0 k) 1 0) x xs ys moved)

pub times_popped : (x : Reverse ℕ) (xs ys : List (Reverse ℕ)) (k : ℕ) → IsPermutation xs (x ∷ ys) → times (map (λ x. x.0) xs) k ≡ cond (eqb x.0 k) 1 0 + times (map (λ x. x.0) ys) k
times_popped x xs ys k moved = rw (times_numbers ys k, times_numbers xs k) (omega (arith, sum_by_popped (λ x. cond (eqb x.0 k) 1 0) x xs ys moved))

pub lowest : (x : Reverse ℕ) (xs : List (Reverse ℕ)) → IsUpperBound (λ x y. nat_cmp y.0 x.0) x xs → All (λ y. x.0 ≤ y) (map (λ x. x.0) xs)
lowest x [] all = All-nil (λ y. x.0 ≤ y)
lowest x (y ∷ ys) all = All-cons (λ y. x.0 ≤ y) y.0 (map (λ x. x.0) ys) (ge_from_not_lt y.0 x.0 all.0) (lowest x ys all.1)

pub length_numbers : (xs : List (Reverse ℕ)) → length (map (λ (x : Reverse ℕ). x.0) xs) ≡ length xs
length_numbers xs = length-map xs (λ x. x.0)
