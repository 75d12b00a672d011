-- Lists over runs of numbers, `range_with_len a n`: what a filter or a map over one gives.
use Rattle.std.proofs.Common.{◌≡◌, ◌≢◌, ◌+◌, ◌*◌, ◌/◌, ◌<◌, ◌≤◌, ℕ, zero, suc, List, [], ◌∷◌, ◌++◌, take, drop, set, map, Bool, true, false, cond, not, ◌&&◌, ◌||◌, eqb, refl, sym, ap, ◌∙◌, arith}
use Rattle.std.proofs.Math.Bool.{and-true}
use Rattle.std.specs.List.{range_with_len, filter, flat_map, list_any}
use Rattle.std.proofs.lemmas.Bool.{eq-eqb, ne_eqb, eqb-true}
use Rattle.std.proofs.lemmas.List.Elements.{filter-append}

-- ---- the same filter or map

pub map_run-same : {X : Type 0} (f g : ℕ → X) (a n : ℕ) → ((k : ℕ) → a ≤ k → k < a + n → f k ≡ g k) → map f (range_with_len a n) ≡ map g (range_with_len a n)
map_run-same f g a zero same = refl
map_run-same f g a (suc n) same =
    let first : f a ≡ g a = same a (omega arith) (omega arith) in
    let more = map_run-same f g (a + 1) n (λ k low high. same k (omega arith) (omega arith)) in
    λ i. first i ∷ more i

pub filter_run-same : (p q : ℕ → Bool) (a n : ℕ) → ((k : ℕ) → a ≤ k → k < a + n → p k ≡ q k) → filter p (range_with_len a n) ≡ filter q (range_with_len a n)
filter_run-same p q a zero same = refl
filter_run-same p q a (suc n) same =
    let first : p a ≡ q a = same a (omega arith) (omega arith) in
    let more = filter_run-same p q (a + 1) n (λ k low high. same k (omega arith) (omega arith)) in
    λ i. cond (first i) (a ∷ more i) (more i)

pub filter_all : {X : Type 0} (xs : List X) → filter (λ x. true) xs ≡ xs
filter_all [] = refl
filter_all (x ∷ xs) = ap (λ ys. x ∷ ys) (filter_all xs)

filter_none : {X : Type 0} (xs : List X) → filter (λ x. false) xs ≡ []
filter_none [] = refl
filter_none (x ∷ xs) = filter_none xs

pub filter_run-none : (p : ℕ → Bool) (a n : ℕ) → ((k : ℕ) → a ≤ k → k < a + n → p k ≡ false) → filter p (range_with_len a n) ≡ []
filter_run-none p a n none = filter_run-same p (λ k. false) a n none ∙ filter_none (range_with_len a n)

-- a map over those of a run that pass
pub passing_run-same : {X : Type 0} (f g : ℕ → X) (p q : ℕ → Bool) (a n : ℕ) → ((k : ℕ) → a ≤ k → k < a + n → f k ≡ g k) → ((k : ℕ) → a ≤ k → k < a + n → p k ≡ q k)
    → map f (filter p (range_with_len a n)) ≡ map g (filter q (range_with_len a n))
passing_run-same f g p q a zero values tests = refl
passing_run-same f g p q a (suc n) values tests =
    let first : f a ≡ g a = values a (omega arith) (omega arith) in
    let test : p a ≡ q a = tests a (omega arith) (omega arith) in
    let more = passing_run-same f g p q (a + 1) n (λ k low high. values k (omega arith) (omega arith)) (λ k low high. tests k (omega arith) (omega arith)) in
    rw test (by first more (q a))
  where
    by : f a ≡ g a → map f (filter p (range_with_len (a + 1) n)) ≡ map g (filter q (range_with_len (a + 1) n)) → (b : Bool)
        → map f (cond b (a ∷ filter p (range_with_len (a + 1) n)) (filter p (range_with_len (a + 1) n))) ≡ map g (cond b (a ∷ filter q (range_with_len (a + 1) n)) (filter q (range_with_len (a + 1) n)))
    by first more true = λ i. first i ∷ more i
    by first more false = more

run-append : (a m n : ℕ) → range_with_len a (m + n) ≡ range_with_len a m ++ range_with_len (a + m) n
run-append a zero n = let same : a + 0 ≡ a = omega arith in let sum : 0 + n ≡ n = omega arith in rw (same, sum) refl
run-append a (suc m) n =
    let sum : suc m + n ≡ suc (m + n) = omega arith in
    let next : (a + 1) + m ≡ a + suc m = omega arith in
    rw sum (ap (λ ks. a ∷ ks) (run-append (a + 1) m n ∙ ap (λ b. range_with_len (a + 1) m ++ range_with_len b n) next))

pub run-more : (a n : ℕ) → range_with_len a (n + 1) ≡ range_with_len a n ++ (a + n) ∷ []
run-more a n = run-append a n 1

-- ---- the first numbers that pass a test

abbrev pub is_among : List ℕ → ℕ → Bool
is_among ks k = list_any (λ q. eqb q k) ks

-- the first of the run from a on that pass
abbrev pub first_of_run : ℕ → (ℕ → Bool) → ℕ → ℕ → List ℕ
first_of_run count p a n = take count (filter p (range_with_len a n))

-- none of them is below the run
below_run : (count : ℕ) (p : ℕ → Bool) (k a n : ℕ) → k < a → is_among (first_of_run count p a n) k ≡ false
below_run zero p k a n below = refl
below_run (suc count) p k a zero below = refl
below_run (suc count) p k a (suc n) below = by (below_run (suc count) p k (a + 1) n (omega arith)) (below_run count p k (a + 1) n (omega arith)) (p a)
  where
    by : is_among (first_of_run (suc count) p (a + 1) n) k ≡ false → is_among (first_of_run count p (a + 1) n) k ≡ false → (b : Bool)
        → is_among (take (suc count) (cond b (a ∷ filter p (range_with_len (a + 1) n)) (filter p (range_with_len (a + 1) n)))) k ≡ false
    by others more true = let apart : eqb a k ≡ false = ne_eqb a k (omega arith) in rw (apart, more) refl
    by others more false = others

-- a number below the run isn't among them, so the others are as they were
behind : (count : ℕ) (p : ℕ → Bool) (a n k : ℕ) → a + 1 ≤ k → is_among (a ∷ first_of_run count p (a + 1) n) k ≡ is_among (first_of_run count p (a + 1) n) k
behind count p a n k above = let apart : eqb a k ≡ false = ne_eqb a k (omega arith) in rw apart refl

-- of a run, those that are among its first that pass are just these
pub first_taken : (count : ℕ) (p : ℕ → Bool) (a n : ℕ) → filter (is_among (first_of_run count p a n)) (range_with_len a n) ≡ first_of_run count p a n
first_taken zero p a n = filter_none (range_with_len a n)
first_taken (suc count) p a zero = refl
first_taken (suc count) p a (suc n) = by (first_taken (suc count) p (a + 1) n) (first_taken count p (a + 1) n) (p a)
  where
    by : filter (is_among (first_of_run (suc count) p (a + 1) n)) (range_with_len (a + 1) n) ≡ first_of_run (suc count) p (a + 1) n
        → filter (is_among (first_of_run count p (a + 1) n)) (range_with_len (a + 1) n) ≡ first_of_run count p (a + 1) n
        → (b : Bool)
        → filter (is_among (take (suc count) (cond b (a ∷ filter p (range_with_len (a + 1) n)) (filter p (range_with_len (a + 1) n))))) (range_with_len a (suc n))
        ≡ take (suc count) (cond b (a ∷ filter p (range_with_len (a + 1) n)) (filter p (range_with_len (a + 1) n)))
    by others more true =
        let own : eqb a a ≡ true = eq-eqb a a refl in
        let same = filter_run-same (is_among (a ∷ first_of_run count p (a + 1) n)) (is_among (first_of_run count p (a + 1) n)) (a + 1) n (λ k low high. behind count p a n k low) in
        rw own (ap (λ ks. a ∷ ks) (same ∙ more))
    by others more false =
        let none : is_among (first_of_run (suc count) p (a + 1) n) a ≡ false = below_run (suc count) p a (a + 1) n (omega arith) in
        rw none others

-- a number passes, and isn't among these
abbrev pub passes_but : (ℕ → Bool) → List ℕ → ℕ → Bool
passes_but p ks k = p k && not (is_among ks k)

-- of a run, those that pass and aren't among its first that pass are the rest of these
pub first_left : (count : ℕ) (p : ℕ → Bool) (a n : ℕ) → filter (passes_but p (first_of_run count p a n)) (range_with_len a n) ≡ drop count (filter p (range_with_len a n))
first_left zero p a n = filter_run-same (passes_but p []) p a n (λ k low high. and-true (p k))
first_left (suc count) p a zero = refl
first_left (suc count) p a (suc n) = by (first_left (suc count) p (a + 1) n) (first_left count p (a + 1) n) (p a) refl
  where
    by : filter (passes_but p (first_of_run (suc count) p (a + 1) n)) (range_with_len (a + 1) n) ≡ drop (suc count) (filter p (range_with_len (a + 1) n))
        → filter (passes_but p (first_of_run count p (a + 1) n)) (range_with_len (a + 1) n) ≡ drop count (filter p (range_with_len (a + 1) n))
        → (b : Bool) → p a ≡ b
        → filter (passes_but p (take (suc count) (cond b (a ∷ filter p (range_with_len (a + 1) n)) (filter p (range_with_len (a + 1) n))))) (range_with_len a (suc n))
        ≡ drop (suc count) (cond b (a ∷ filter p (range_with_len (a + 1) n)) (filter p (range_with_len (a + 1) n)))
    by others more true is =
        let own : eqb a a ≡ true = eq-eqb a a refl in
        let same = filter_run-same (passes_but p (a ∷ first_of_run count p (a + 1) n)) (passes_but p (first_of_run count p (a + 1) n)) (a + 1) n (λ k low high. ap (λ b. p k && not b) (behind count p a n k low)) in
        rw (is, own) (same ∙ more)
    by others more false is = rw is others

-- they pass
pub first_passes : (count : ℕ) (p : ℕ → Bool) (a n k : ℕ) → is_among (first_of_run count p a n) k ≡ true → p k ≡ true
first_passes zero p a n k is = cc
first_passes (suc count) p a zero k is = cc
first_passes (suc count) p a (suc n) k is = by (first_passes (suc count) p (a + 1) n k) (first_passes count p (a + 1) n k) (p a) refl is
  where
    pick : (is_among (first_of_run count p (a + 1) n) k ≡ true → p k ≡ true) → p a ≡ true → (t : Bool) → eqb a k ≡ t → (t || is_among (first_of_run count p (a + 1) n) k) ≡ true → p k ≡ true
    pick more first true same e = ap p (sym (eqb-true a k same)) ∙ first
    pick more first false apart e = more e

    by : (is_among (first_of_run (suc count) p (a + 1) n) k ≡ true → p k ≡ true) → (is_among (first_of_run count p (a + 1) n) k ≡ true → p k ≡ true) → (b : Bool) → p a ≡ b
        → is_among (take (suc count) (cond b (a ∷ filter p (range_with_len (a + 1) n)) (filter p (range_with_len (a + 1) n)))) k ≡ true → p k ≡ true
    by others more true first e = pick more first (eqb a k) refl e
    by others more false first e = others e

-- ---- runs of 64

-- a run of runs
pub filter_groups : (q : ℕ → Bool) (a n : ℕ) → filter (λ f. q (f / 64)) (range_with_len (64 * a) (64 * n)) ≡ flat_map (λ b. range_with_len (64 * b) 64) (filter q (range_with_len a n))
filter_groups q a zero = refl
filter_groups q a (suc n) =
    let sum : 64 * suc n ≡ 64 + 64 * n = omega arith in
    let next : 64 * a + 64 ≡ 64 * (a + 1) = omega arith in
    let split : range_with_len (64 * a) (64 * suc n) ≡ range_with_len (64 * a) 64 ++ range_with_len (64 * (a + 1)) (64 * n) = rw (sum, ← next) (run-append (64 * a) 64 (64 * n)) in
    let group : filter (λ f. q (f / 64)) (range_with_len (64 * a) 64) ≡ filter (λ f. q a) (range_with_len (64 * a) 64) = filter_run-same (λ f. q (f / 64)) (λ f. q a) (64 * a) 64 (λ f low high. ap q (omega arith)) in
    let parts = filter-append (λ f. q (f / 64)) (range_with_len (64 * a) 64) (range_with_len (64 * (a + 1)) (64 * n)) in
    ap (filter (λ f. q (f / 64))) split ∙ parts ∙ (λ i. group i ++ filter_groups q (a + 1) n i) ∙ by (q a)
  where
    by : (b : Bool) → filter (λ f. b) (range_with_len (64 * a) 64) ++ flat_map (λ b. range_with_len (64 * b) 64) (filter q (range_with_len (a + 1) n))
        ≡ flat_map (λ b. range_with_len (64 * b) 64) (cond b (a ∷ filter q (range_with_len (a + 1) n)) (filter q (range_with_len (a + 1) n)))
    by true = ap (λ ks. ks ++ flat_map (λ b. range_with_len (64 * b) 64) (filter q (range_with_len (a + 1) n))) (filter_all (range_with_len (64 * a) 64))
    by false = ap (λ ks. ks ++ flat_map (λ b. range_with_len (64 * b) 64) (filter q (range_with_len (a + 1) n))) (filter_none (range_with_len (64 * a) 64))

-- ---- one place of a list over a run

pub set_run : {X : Type 0} (f g : ℕ → X) (a n i : ℕ) → i < n → ((k : ℕ) → k ≢ a + i → g k ≡ f k) → set (map f (range_with_len a n)) i (g (a + i)) ≡ map g (range_with_len a n)
set_run f g a zero i within same = absurd (omega arith)
set_run f g a (suc n) zero within same =
    let first : a + 0 ≡ a = omega arith in
    rw first (ap (λ xs. g a ∷ xs) (map_run-same f g (a + 1) n (λ k low high. sym (same k (omega arith)))))
set_run f g a (suc n) (suc i) within same =
    let place : a + suc i ≡ (a + 1) + i = omega arith in
    let first : f a ≡ g a = sym (same a (omega arith)) in
    let more = set_run f g (a + 1) n i (omega arith) (λ k apart. same k (λ is. apart (is ∙ place))) in
    rw place (λ j. first j ∷ more j)
