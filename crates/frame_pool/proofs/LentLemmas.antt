-- Lending blocks.
use Rattle.std.proofs.Common.{◌≡◌, ◌+◌, ◌-◌, ◌<◌, ℕ, zero, suc, List, [], ◌∷◌, length, take, drop, get_or, set, Bool, true, false, eqb, cond, refl, sym, ap, ◌∙◌, arith, length-drop}
use Rattle.std.specs.List.{All}
use Rattle.std.proofs.lemmas.Bool.{eq-eqb, ne_eqb}
use Rattle.std.proofs.lemmas.List.Folds.{list_any_none}
use Rattle.std.proofs.lemmas.List.Elements.{All-take, All-weaker}
use Rattle.xm_num.specs.declared.Block.{Block}
use Rattle.xm_num.specs.declared.Enclave.{Enclave}
use Rattle.frame_pool.specs.declared.BlockState.{BlockState}
use Rattle.frame_pool.specs.declared.BlockState.TheVariants.{Free, Lent, Held}
use Rattle.frame_pool.specs.Blocks.{is_listed, free_from, free_blocks, lend_from, with_lent}
use Rattle.frame_pool.specs.Layout.{IsPool, behind}
use Rattle.frame_pool.proofs.FreeLemmas.{IsFrom, free_from-from, free_from-within}

-- lending no block changes nothing
pub lend_from-nil : (k : ℕ) (e : Enclave) (states : List BlockState) → lend_from k [] e states ≡ states
lend_from-nil k e [] = refl
lend_from-nil k e (s ∷ states) = ap (λ states. s ∷ states) (lend_from-nil (k + 1) e states)

is_listed-other : (k : ℕ) (b : Block) (blocks : List Block) → (b.0 ≡ k → ⊥) → is_listed (b ∷ blocks) k ≡ is_listed blocks k
is_listed-other k b blocks h = rw (ne_eqb b.0 k h) refl

is_listed-first : (k : ℕ) (b : Block) (blocks : List Block) → b.0 ≡ k → is_listed (b ∷ blocks) k ≡ true
is_listed-first k b blocks h = rw (eq-eqb b.0 k h) refl

-- a block before the first state changes nothing
pub lend_from-below : (k : ℕ) (b : Block) (blocks : List Block) (e : Enclave) (states : List BlockState) → b.0 < k → lend_from k (b ∷ blocks) e states ≡ lend_from k blocks e states
lend_from-below k b blocks e [] h = refl
lend_from-below k b blocks e (s ∷ states) h =
    rw (is_listed-other k b blocks (λ same. omega arith), lend_from-below (k + 1) b blocks e states (omega arith)) refl

-- the first block may be lent before the others
pub lend_from-first : (k i : ℕ) (b : Block) (blocks : List Block) (e : Enclave) (states : List BlockState) → b.0 ≡ k + i → lend_from k blocks e (set states i (Lent e)) ≡ lend_from k (b ∷ blocks) e states
lend_from-first k i b blocks e [] h = refl
lend_from-first k zero b blocks e (s ∷ states) h =
    rw (is_listed-first k b blocks (omega arith), lend_from-below (k + 1) b blocks e states (omega arith)) (same (is_listed blocks k))
  where
    same : (listed : Bool) → cond listed (Lent e) (Lent e) ∷ lend_from (k + 1) blocks e states ≡ Lent e ∷ lend_from (k + 1) blocks e states
    same true = refl
    same false = refl
lend_from-first k (suc i) b blocks e (s ∷ states) h =
    rw (is_listed-other k b blocks (λ same. omega arith), lend_from-first (k + 1) i b blocks e states (omega arith)) refl

-- blocks behind the first state don't have its number
is_listed-later : (k n : ℕ) (states : List BlockState) → is_listed (take n (free_from (k + 1) states)) k ≡ false
is_listed-later k n states =
    let later = All-take (IsFrom (k + 1)) n _ (free_from-from (k + 1) (k + 1) states (omega arith)) in
    list_any_none (λ (block : Block). eqb block.0 k) _ (All-weaker (IsFrom (k + 1)) (λ block. eqb block.0 k ≡ false) (λ block h. ne_eqb block.0 k (λ same. omega arith)) _ later)

-- once the lowest free blocks are lent, the others are free
pub free_from-lent : (n k : ℕ) (e : Enclave) (states : List BlockState) → free_from k (lend_from k (take n (free_from k states)) e states) ≡ drop n (free_from k states)
free_from-lent zero k e states = ap (λ states. free_from k states) (lend_from-nil k e states)
free_from-lent (suc n) k e [] = refl
free_from-lent (suc n) k e (Free ∷ states) =
    let first : Block = record { 0 = k } in
    let later = take n (free_from (k + 1) states) in
    rw (is_listed-first k first later refl, lend_from-below (k + 1) first later e states (omega arith)) (free_from-lent n (k + 1) e states)
free_from-lent (suc n) k e (Lent d ∷ states) =
    rw (is_listed-later k (suc n) states) (free_from-lent (suc n) (k + 1) e states)
free_from-lent (suc n) k e (Held d ∷ states) =
    rw (is_listed-later k (suc n) states) (free_from-lent (suc n) (k + 1) e states)

-- the free blocks ascend: once the lowest are lent, none is free before the place behind them
pub free_from-behind : (n k low : ℕ) (states : List BlockState) → All (IsFrom low) (free_from k states) → All (IsFrom (behind (take n (free_from k states)) low)) (drop n (free_from k states))
free_from-behind zero k low states all = all
free_from-behind (suc n) k low [] all = all
free_from-behind (suc n) k low (Free ∷ states) all = free_from-behind n (k + 1) (k + 1) states (free_from-from (k + 1) (k + 1) states (omega arith))
free_from-behind (suc n) k low (Lent e ∷ states) all = free_from-behind (suc n) (k + 1) low states all
free_from-behind (suc n) k low (Held e ∷ states) all = free_from-behind (suc n) (k + 1) low states all

-- the place behind blocks is one more than the last of them
behind-cons : (block : Block) (blocks : List Block) (low : ℕ) (d : Block) → behind (block ∷ blocks) low ≡ (get_or (block ∷ blocks) (length blocks) d).0 + 1
behind-cons block [] low d = refl
behind-cons block (next ∷ blocks) low d = behind-cons next blocks (block.0 + 1) d

pub behind-last : (blocks : List Block) (low : ℕ) (last : Block) → 0 < length blocks → last ≡ get_or blocks (length blocks - 1) last → last.0 + 1 ≡ behind blocks low
behind-last [] low last h e = absurd (omega arith)
behind-last (block ∷ blocks) low last h e =
    let at : length (block ∷ blocks) - 1 ≡ length blocks = omega arith in
    ap (λ (b : Block). b.0 + 1) (rw at at e) ∙ sym (behind-cons block blocks low last)

-- blocks that are free are in the pool
pub lowest_free-within : (n : ℕ) (states : List BlockState) → All (λ block. block.0 < length states) (take n (free_blocks states))
lowest_free-within n states = All-take (λ (block : Block). block.0 < length states) n _ (free_from-within 0 (length states) states (omega arith))

pub length-lend_from : (k : ℕ) (blocks : List Block) (e : Enclave) (states : List BlockState) → length (lend_from k blocks e states) ≡ length states
length-lend_from k blocks e [] = refl
length-lend_from k blocks e (s ∷ states) = ap (λ n. suc n) (length-lend_from (k + 1) blocks e states)

-- a pool is one after its lowest free blocks are lent
pub pool_lent : (e : Enclave) (n free low : ℕ) (states : List BlockState) → IsPool states free low → IsPool (with_lent (take n (free_blocks states)) e states) (free - n) (behind (take n (free_blocks states)) low)
pool_lent e n free low states pool =
    let blocks = take n (free_blocks states) in
    let left = free_from-lent n 0 e states in
    record {
      some = rw (length-lend_from 0 blocks e states) pool.some;
      most = rw (length-lend_from 0 blocks e states) pool.most;
      counted = rw (left, length-drop n (free_blocks states)) (ap (λ m. m - n) pool.counted);
      lowest = rw left (free_from-behind n 0 low states pool.lowest);
    }
