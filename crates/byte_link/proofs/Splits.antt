use Rattle.std.proofs.Common.{◌≡◌, ℕ, zero, suc, ◌-◌, List, [], ◌∷◌, ◌++◌, length, take, drop, refl, sym, ap, arith}

-- `take` and `drop` across the seam of two lists, and across one another

pub nothing_dropped : {X : Type 0} (n : ℕ) → drop n (let none : List X = [] in none) ≡ []
nothing_dropped zero = refl
nothing_dropped (suc n) = refl

pub nothing_taken : {X : Type 0} (n : ℕ) → take n (let none : List X = [] in none) ≡ []
nothing_taken zero = refl
nothing_taken (suc n) = refl

pub drop-append : {X : Type 0} (n : ℕ) (xs ys : List X) → drop n (xs ++ ys) ≡ drop n xs ++ drop (n - length xs) ys
drop-append zero xs ys = let e : 0 - length xs ≡ 0 = omega arith in rw e refl
drop-append (suc n) [] ys = let e : suc n - 0 ≡ suc n = omega arith in rw e refl
drop-append (suc n) (x ∷ xs) ys =
    let e : suc n - suc (length xs) ≡ n - length xs = omega arith in rw e (drop-append n xs ys)

pub take-append : {X : Type 0} (n : ℕ) (xs ys : List X) → take n (xs ++ ys) ≡ take n xs ++ take (n - length xs) ys
take-append zero xs ys = let e : 0 - length xs ≡ 0 = omega arith in rw e refl
take-append (suc n) [] ys = let e : suc n - 0 ≡ suc n = omega arith in rw e refl
take-append (suc n) (x ∷ xs) ys =
    let e : suc n - suc (length xs) ≡ n - length xs = omega arith in
    rw e (ap (λ zs. x ∷ zs) (take-append n xs ys))

pub take-take_comm : {X : Type 0} (n m : ℕ) (xs : List X) → take n (take m xs) ≡ take m (take n xs)
take-take_comm zero m xs = sym (nothing_taken m)
take-take_comm (suc n) zero xs = refl
take-take_comm (suc n) (suc m) [] = refl
take-take_comm (suc n) (suc m) (x ∷ xs) = ap (λ zs. x ∷ zs) (take-take_comm n m xs)

pub drop-take_less : {X : Type 0} (n m : ℕ) (xs : List X) → drop n (take m xs) ≡ take (m - n) (drop n xs)
drop-take_less zero m xs = let e : m - 0 ≡ m = omega arith in rw e refl
drop-take_less (suc n) zero xs = let e : 0 - suc n ≡ 0 = omega arith in rw e refl
drop-take_less (suc n) (suc m) [] = sym (nothing_taken (suc m - suc n))
drop-take_less (suc n) (suc m) (x ∷ xs) =
    let e : suc m - suc n ≡ m - n = omega arith in rw e (drop-take_less n m xs)
