-- The free blocks of a list of states.
use Rattle.std.proofs.Common.{◌≡◌, ◌+◌, ◌-◌, ◌<◌, ◌≤◌, ℕ, zero, suc, min, true, false, List, [], ◌∷◌, ◌++◌, length, take, drop, get_or, set, replicate, map, refl, sym, ap, ◌∙◌, append_assoc, arith, length-set, length-append}
use Rattle.std.specs.List.{All}
use Rattle.std.proofs.lemmas.Bool.{eq-eqb, ne_eqb}
use Rattle.std.proofs.lemmas.List.{drop_more, drop_all, take_all, append-nil, length_push, length-map, length-replicate, take-append-drop}
use Rattle.std.proofs.lemmas.List.Elements.{All-nil, All-cons, All-head, All-tail, All-weaker}
use Rattle.xm_num.specs.declared.Block.{Block}
use Rattle.xm_num.specs.declared.Enclave.{Enclave}
use Rattle.frame_pool.specs.declared.BlockState.{BlockState}
use Rattle.frame_pool.specs.declared.BlockState.TheVariants.{Free, Lent, Held}
use Rattle.frame_pool.specs.Blocks.{is_free, free_from, held_of, freed_of}
use Rattle.frame_pool.specs.Layout.{IsPool}

-- the block isn't below that number
abbrev pub IsFrom : ℕ → Block → Type 0
IsFrom low block = low ≤ block.0

pub length-free_from : (k : ℕ) (states : List BlockState) → length (free_from k states) ≤ length states
length-free_from k [] = omega arith
length-free_from k (Free ∷ states) = omega (arith, length-free_from (k + 1) states)
length-free_from k (Lent e ∷ states) = omega (arith, length-free_from (k + 1) states)
length-free_from k (Held e ∷ states) = omega (arith, length-free_from (k + 1) states)

-- all blocks are free
pub length-all_free : (n k : ℕ) → length (free_from k (replicate n Free)) ≡ n
length-all_free zero k = refl
length-all_free (suc n) k = omega (arith, length-all_free n (k + 1))

-- no free block lies before the first state
pub free_from-from : (low k : ℕ) (states : List BlockState) → low ≤ k → All (IsFrom low) (free_from k states)
free_from-from low k [] h = All-nil (IsFrom low)
free_from-from low k (Free ∷ states) h =
    All-cons (IsFrom low) (record { 0 = k }) (free_from (k + 1) states) h (free_from-from low (k + 1) states (omega arith))
free_from-from low k (Lent e ∷ states) h = free_from-from low (k + 1) states (omega arith)
free_from-from low k (Held e ∷ states) h = free_from-from low (k + 1) states (omega arith)

-- no free block lies past the last state
pub free_from-within : (k n : ℕ) (states : List BlockState) → n ≡ k + length states → All (λ block. block.0 < n) (free_from k states)
free_from-within k n [] h = All-nil (λ (block : Block). block.0 < n)
free_from-within k n (Free ∷ states) h =
    All-cons (λ (block : Block). block.0 < n) (record { 0 = k }) (free_from (k + 1) states) (omega arith) (free_from-within (k + 1) n states (omega arith))
free_from-within k n (Lent e ∷ states) h = free_from-within (k + 1) n states (omega arith)
free_from-within k n (Held e ∷ states) h = free_from-within (k + 1) n states (omega arith)

-- where none is free below a block, the free ones are those from it on
pub free_from-drop : (i k low : ℕ) (states : List BlockState) → low ≡ k + i → All (IsFrom low) (free_from k states) → free_from low (drop i states) ≡ free_from k states
free_from-drop zero k low states e all = ap (λ n. free_from n states) (omega arith)
free_from-drop (suc i) k low [] e all = refl
free_from-drop (suc i) k low (Free ∷ states) e all =
    let first : low ≤ k = All-head (IsFrom low) (record { 0 = k }) (free_from (k + 1) states) all in
    absurd (omega arith)
free_from-drop (suc i) k low (Lent d ∷ states) e all = free_from-drop i (k + 1) low states (omega arith) all
free_from-drop (suc i) k low (Held d ∷ states) e all = free_from-drop i (k + 1) low states (omega arith) all

-- holding changes no free block
pub free_from-held : (e : Enclave) (k : ℕ) (states : List BlockState) → free_from k (map (held_of e) states) ≡ free_from k states
free_from-held e k [] = refl
free_from-held e k (Free ∷ states) = ap (λ blocks. (let block : Block = record { 0 = k } in block) ∷ blocks) (free_from-held e (k + 1) states)
free_from-held e k (Lent d ∷ states) = grind (arith, free_from-held e (k + 1) states)
free_from-held e k (Held d ∷ states) = free_from-held e (k + 1) states

-- a block that was held is free
pub length-one_freed : (e : Enclave) (k i : ℕ) (states : List BlockState) → i < length states → get_or states i Free ≡ Held e → length (free_from k (set states i Free)) ≡ length (free_from k states) + 1
length-one_freed e k i [] h held = absurd (omega arith)
length-one_freed e k zero (Free ∷ states) h held = cc
length-one_freed e k zero (Lent d ∷ states) h held = omega arith
length-one_freed e k zero (Held d ∷ states) h held = omega arith
length-one_freed e k (suc i) (Free ∷ states) h held = omega (arith, length-one_freed e (k + 1) i states (omega arith) held)
length-one_freed e k (suc i) (Lent d ∷ states) h held = length-one_freed e (k + 1) i states (omega arith) held
length-one_freed e k (suc i) (Held d ∷ states) h held = length-one_freed e (k + 1) i states (omega arith) held

pub from-one_freed : (low k i : ℕ) (states : List BlockState) → low ≤ k + i → All (IsFrom low) (free_from k states) → All (IsFrom low) (free_from k (set states i Free))
from-one_freed low k i [] h all = all
from-one_freed low k zero (Free ∷ states) h all = all
from-one_freed low k zero (Lent d ∷ states) h all = All-cons (IsFrom low) (record { 0 = k }) (free_from (k + 1) states) (omega arith) all
from-one_freed low k zero (Held d ∷ states) h all = All-cons (IsFrom low) (record { 0 = k }) (free_from (k + 1) states) (omega arith) all
from-one_freed low k (suc i) (Free ∷ states) h all =
    All-cons (IsFrom low) (record { 0 = k }) (free_from (k + 1) (set states i Free))
    (All-head (IsFrom low) (record { 0 = k }) (free_from (k + 1) states) all)
    (from-one_freed low (k + 1) i states (omega arith) (All-tail (IsFrom low) (record { 0 = k }) (free_from (k + 1) states) all))
from-one_freed low k (suc i) (Lent d ∷ states) h all = from-one_freed low (k + 1) i states (omega arith) all
from-one_freed low k (suc i) (Held d ∷ states) h all = from-one_freed low (k + 1) i states (omega arith) all

-- a search for n free blocks that has come to a free one
pub found_free : (n i : ℕ) (blocks : List Block) (states : List BlockState) → i < length states → is_free (get_or states i Free) ≡ true → length blocks < n → (blocks ++ (record { 0 = i }) ∷ []) ++ take (n - length (blocks ++ (record { 0 = i }) ∷ [])) (free_from (i + 1) (drop (i + 1) states)) ≡ blocks ++ take (n - length blocks) (free_from i (drop i states))
found_free n i blocks states h free few =
    let block : Block = record { 0 = i } in
    let left : n - length blocks ≡ suc (n - length (blocks ++ block ∷ [])) = omega (arith, length_push blocks block) in
    rw (drop_more states i Free h, free, left) (append_assoc blocks (block ∷ []) _)

-- a search for free blocks that has come to one that isn't free
pub passed_other : (i : ℕ) (states : List BlockState) → i < length states → is_free (get_or states i Free) ≡ false → free_from (i + 1) (drop (i + 1) states) ≡ free_from i (drop i states)
passed_other i states h other = rw (drop_more states i Free h, other) refl

-- freeing one block that was held
pub pool_freed : (e : Enclave) (free low i : ℕ) (states : List BlockState) → IsPool states free low → i < length states → get_or states i Free ≡ Held e → IsPool (set states i Free) (free + 1) (min low i)
pool_freed e free low i states pool h held = record {
  some = rw length-set pool.some;
  most = rw length-set pool.most;
  counted = ap (λ n. n + 1) pool.counted ∙ sym (length-one_freed e 0 i states h held);
  lowest = from-one_freed (min low i) 0 i states (omega arith) (All-weaker (IsFrom low) (IsFrom (min low i)) (λ block h. omega arith) _ pool.lowest);
}

-- a state that isn't held for the enclave stays as it is
pub freed_of-other : (e : Enclave) (state : BlockState) → (state ≡ Held e → ⊥) → freed_of e state ≡ state
freed_of-other e Free h = refl
freed_of-other e (Lent d) h = refl
freed_of-other e (Held d) h = rw (ne_eqb d.0 e.0 (λ same. h (ap (λ n. Held (record { 0 = n })) same))) refl

pub freed_of-held : (e : Enclave) (state : BlockState) → state ≡ Held e → freed_of e state ≡ Free
freed_of-held e state h = ap (freed_of e) h ∙ rw (eq-eqb e.0 e.0 refl) refl

-- a list whose first items are mapped is as long as before
pub length-mapped_front : (f : BlockState → BlockState) (i : ℕ) (states : List BlockState) → length (map f (take i states) ++ drop i states) ≡ length states
length-mapped_front f i states =
    length-append (map f (take i states)) (drop i states) ∙ ap (λ n. n + length (drop i states)) (length-map (take i states) f) ∙ sym (length-append (take i states) (drop i states)) ∙ ap (λ states. length states) (take-append-drop i states)

-- a slice of all states, written back
pub written_back : (n : ℕ) (new states : List BlockState) → n ≡ length states → length new ≡ length states → take n (new ++ drop (length new) states) ≡ new
written_back n new states h k =
    ap (λ rest. take n (new ++ rest)) (drop_all (length new) states (omega arith)) ∙ ap (λ states. take n states) (append-nil new) ∙ take_all n new (omega arith)

-- a pool is one after its blocks are held
pub pool_held : (e : Enclave) (free low : ℕ) (states : List BlockState) → IsPool states free low → IsPool (map (held_of e) states) free low
pool_held e free low states pool = record {
  some = rw length-map pool.some;
  most = rw length-map pool.most;
  counted = pool.counted ∙ ap (λ blocks. length blocks) (sym (free_from-held e 0 states));
  lowest = rw (free_from-held e 0 states) pool.lowest;
}

-- a new pool
pub pool_new : (n : ℕ) → 1 ≤ n → n ≤ 4096 → IsPool (replicate n Free) n 0
pool_new n h k = record {
  some = rw length-replicate h;
  most = rw length-replicate k;
  counted = sym (length-all_free n 0);
  lowest = free_from-from 0 0 (replicate n Free) (omega arith);
}
