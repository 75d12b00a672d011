-- The states of the blocks of a pool, in order, and what becomes of them.
use Rattle.std.specs.Prelude.{ℕ, ◌+◌, ◌==◌, Bool, true, false, List, [], ◌∷◌, map, if◌then◌else◌}
use Rattle.std.specs.List.{list_any}
use Rattle.xm_num.specs.declared.Block.{Block}
use Rattle.xm_num.specs.declared.Enclave.{Enclave}
use Rattle.frame_pool.specs.declared.BlockState.{BlockState}
use Rattle.frame_pool.specs.declared.BlockState.TheVariants.{Free, Lent, Held}

abbrev pub is_free : BlockState → Bool
is_free Free = true
is_free (Lent e) = false
is_free (Held e) = false

-- the block with that number is listed
abbrev pub is_listed : List Block → ℕ → Bool
is_listed blocks k = list_any (λ block. block.0 == k) blocks

-- the free blocks in order, the first state being that of block k
abbrev pub free_from : ℕ → List BlockState → List Block
free_from k [] = []
free_from k (s ∷ states) = if is_free s then record { 0 = k } ∷ free_from (k + 1) states else free_from (k + 1) states

-- the free blocks of a pool, ascending
abbrev pub free_blocks : List BlockState → List Block
free_blocks states = free_from 0 states

-- the states once the listed blocks are lent, the first state being that of block k
abbrev pub lend_from : ℕ → List Block → Enclave → List BlockState → List BlockState
lend_from k blocks e [] = []
lend_from k blocks e (s ∷ states) = (if is_listed blocks k then Lent e else s) ∷ lend_from (k + 1) blocks e states

-- the states of a pool once the listed blocks are lent to the enclave
abbrev pub with_lent : List Block → Enclave → List BlockState → List BlockState
with_lent blocks e states = lend_from 0 blocks e states

-- a block's state once the blocks that are lent to the enclave are held
abbrev pub held_of : Enclave → BlockState → BlockState
held_of e Free = Free
held_of e (Lent d) = if d.0 == e.0 then Held d else Lent d
held_of e (Held d) = Held d

-- the states of a pool once the blocks that are lent to the enclave are held
abbrev pub with_held : Enclave → List BlockState → List BlockState
with_held e states = map (held_of e) states

-- a block's state once the blocks that are held for the enclave are free
abbrev pub freed_of : Enclave → BlockState → BlockState
freed_of e Free = Free
freed_of e (Lent d) = Lent d
freed_of e (Held d) = if d.0 == e.0 then Free else Held d

-- the states of a pool once the blocks that are held for the enclave are free
abbrev pub with_freed : Enclave → List BlockState → List BlockState
with_freed e states = map (freed_of e) states
