-- The digits of numbers that are short.
use Rattle.std.proofs.Common.{◌≡◌, ℕ, ◌+◌, ◌/◌, ◌%◌, ◌<◌, ◌≤◌, List, [], ◌∷◌, ◌++◌, append_assoc, arith}
use Rattle.std.proofs.lemmas.Fmt.{decimal_digit, decimal_step}
use Rattle.std.specs.Prelude.{decimal}

-- one digit behind other bytes
pub one : (bytes : List ℕ) (n : ℕ) → n < 10 → bytes ++ (48 + n) ∷ [] ≡ bytes ++ decimal n
one bytes n short = rw (decimal_digit n short)

-- two digits, one after the other
pub two : (bytes : List ℕ) (n : ℕ) → 10 ≤ n → n < 100 → (bytes ++ (48 + n / 10) ∷ []) ++ (48 + n % 10) ∷ [] ≡ bytes ++ decimal n
two bytes n long short = rw (decimal_step n long (omega arith), decimal_digit (n / 10) (omega arith), append_assoc)

-- three digits, one after the other
pub three : (bytes : List ℕ) (n : ℕ) → 100 ≤ n → n < 1000
    → ((bytes ++ (48 + n / 100) ∷ []) ++ (48 + n / 10 % 10) ∷ []) ++ (48 + n % 10) ∷ [] ≡ bytes ++ decimal n
three bytes n long short =
    let first : n / 10 / 10 ≡ n / 100 = omega arith in
    rw (decimal_step n (omega arith) (omega arith), decimal_step (n / 10) (omega arith) (omega arith), first, decimal_digit (n / 100) (omega arith), append_assoc, append_assoc)

pub ruleset short = (one, two, three)
