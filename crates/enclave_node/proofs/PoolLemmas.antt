-- A pool whose blocks are all free, the order of free blocks, and the lines of their states.
use Rattle.std.proofs.Common.{◌≡◌, ◌<◌, ◌≤◌, ◌+◌, ℕ, zero, suc, List, [], ◌∷◌, ◌++◌, length, take, drop, map, replicate, refl, sym, ap, ◌∙◌, append_assoc, add-one, arith}
use Rattle.std.specs.Prelude.{slice_get, Some, nat_lt, true}
use Rattle.std.specs.List.{All, AllByRecursion, range_with_len}
use Rattle.std.specs.List.Sorted.{IsStrictlySortedBy}
use Rattle.std.specs.Ordering.{nat_cmp}
use Rattle.std.specs.declared.cmp.Ordering.TheVariants.{Less}
use Rattle.std.proofs.lemmas.Bool.{lt-ltb}
use Rattle.std.proofs.lemmas.List.Elements.{All-weaker}
use Rattle.std.proofs.lemmas.List.FromFn.{take-map-range_with_len, length-map-range_with_len}
use Rattle.xm_num.specs.declared.Enclave.{Enclave}
use Rattle.xm_num.specs.declared.Block.{Block}
use Rattle.frame_pool.specs.declared.BlockState.{BlockState}
use Rattle.frame_pool.specs.declared.BlockState.TheVariants as states
use Rattle.frame_pool.specs.Blocks.{free_from, free_blocks}
use Rattle.xemem_language.specs.declared.line.Line.{Line}
use Rattle.enclave_rules.specs.Pages.{Ascend, AreBlocks}
use Rattle.enclave_rules.specs.Core.{host}
use Rattle.enclave_rules.specs.Host.{free_pool, with_birth}
use Rattle.enclave_rules.specs.Steps.{first_blocks, state_line, state_lines}
use Rattle.enclave_node.specs.Births.{born_host}

-- ---- a pool whose blocks are all free

fresh_states : (k pool : ℕ) → replicate pool states.Free ≡ map (λ b. states.Free) (range_with_len k pool)
fresh_states k zero = refl
fresh_states k (suc pool) = ap (λ all. states.Free ∷ all) (fresh_states (k + 1) pool)

fresh_free : (k pool : ℕ) → free_from k (replicate pool states.Free) ≡ map (λ b. record { 0 = b }) (range_with_len k pool)
fresh_free k zero = refl
fresh_free k (suc pool) = ap (λ bs. record { 0 = k } ∷ bs) (fresh_free (k + 1) pool)

-- what a new pool is: its states, its first free blocks, and how many they are
pub record IsFresh (all : List BlockState) (pool n : ℕ) : Type 0 where
  pub states_are : all ≡ free_pool pool
  pub lowest : n ≤ pool → take n (free_blocks all) ≡ first_blocks n
  pub count : length (free_blocks all) ≡ pool

pub fresh : (all : List BlockState) (pool n : ℕ) → all ≡ replicate pool states.Free → IsFresh all pool n
fresh all pool n is =
    let free : free_blocks all ≡ map (λ b. record { 0 = b }) (range_with_len 0 pool) = ap (free_from 0) is ∙ fresh_free 0 pool in
    record {
      states_are = is ∙ fresh_states 0 pool;
      lowest = λ le. ap (take n) free ∙ take-map-range_with_len _ 0 pool n le;
      count = ap length free ∙ length-map-range_with_len _ 0 pool;
    }

-- the host gets the first blocks of a new pool
pub fresh_lent : (all : List BlockState) (pool n : ℕ) (parents : List Enclave) → IsFresh all pool n → n ≤ pool → parents ≡ []
    → with_birth host host (take n (free_blocks all)) (record { states = all; parents = parents }) ≡ born_host pool n
fresh_lent all pool n parents made le none = rw (made.lowest le, made.states_are, none) refl

-- ---- free blocks ascend

free_above : (low k : ℕ) (all : List BlockState) → low < k → AllByRecursion (λ q. nat_cmp low q ≡ Less) (map (λ b. b.0) (free_from k all))
free_above low k [] lt = tt
free_above low k (states.Free ∷ all) lt = let less : nat_lt low k ≡ true = lt-ltb low k lt in (rw less refl, free_above low (k + 1) all (omega arith))
free_above low k (states.Lent e ∷ all) lt = free_above low (k + 1) all (omega arith)
free_above low k (states.Held e ∷ all) lt = free_above low (k + 1) all (omega arith)

free_ascend : (k : ℕ) (all : List BlockState) → Ascend (map (λ b. b.0) (free_from k all))
unfolding IsStrictlySortedBy
free_ascend k [] = tt
free_ascend k (states.Free ∷ all) = (free_above k (k + 1) all (omega arith), free_ascend (k + 1) all)
free_ascend k (states.Lent e ∷ all) = free_ascend (k + 1) all
free_ascend k (states.Held e ∷ all) = free_ascend (k + 1) all

first_of : (P : ℕ → Type 0) (n : ℕ) (blocks : List Block) → AllByRecursion P (map (λ b. b.0) blocks) → AllByRecursion P (map (λ b. b.0) (take n blocks))
first_of P zero blocks all = tt
first_of P (suc n) [] all = tt
first_of P (suc n) (b ∷ blocks) all = (all.0, first_of P n blocks all.1)

first_ascend : (n : ℕ) (blocks : List Block) → Ascend (map (λ b. b.0) blocks) → Ascend (map (λ b. b.0) (take n blocks))
unfolding IsStrictlySortedBy
first_ascend zero blocks ascend = tt
first_ascend (suc n) [] ascend = tt
first_ascend (suc n) (b ∷ blocks) ascend = (first_of (λ q. nat_cmp b.0 q ≡ Less) n blocks ascend.0, first_ascend n blocks ascend.1)

pub lent_are_blocks : (n : ℕ) (all : List BlockState) (blocks : List Block) → blocks ≡ take n (free_blocks all) → All (λ b. b.0 < 4096) blocks → AreBlocks blocks
lent_are_blocks n all blocks is range = record {
  ascend = rw is (first_ascend n (free_blocks all) (free_ascend 0 all));
  most = All-weaker (λ (b : Block). b.0 < 4096) (λ b. b.0 ≤ 4095) (λ b lt. omega (arith, lt)) blocks range;
}

-- ---- the lines of the states

drop_states : (all : List BlockState) (i : ℕ) (s : BlockState) → slice_get all i ≡ Some s → drop i all ≡ s ∷ drop (suc i) all
drop_states [] i s is = cc
drop_states (x ∷ all) zero s is = let same : x ≡ s = cc in ap (λ y. y ∷ all) same
drop_states (x ∷ all) (suc i) s is = drop_states all i s is

-- one block's line more is told
pub states_step : (before out : List Line) (all : List BlockState) (i : ℕ) (s : BlockState) → slice_get all i ≡ Some s → out ≡ before ++ state_line i s ∷ []
    → out ++ state_lines (i + 1) (drop (i + 1) all) ≡ before ++ state_lines i (drop i all)
states_step before out all i s is more =
    let next : drop i all ≡ s ∷ drop (i + 1) all = rw add-one (drop_states all i s is) in
    let rest = state_lines (i + 1) (drop (i + 1) all) in
    ap (λ ls. ls ++ rest) more ∙ append_assoc before (state_line i s ∷ []) rest ∙ sym (ap (λ ss. before ++ state_lines i ss) next)
