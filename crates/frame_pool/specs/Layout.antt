-- What a pool keeps beside the states of its blocks.
use Rattle.std.specs.Prelude.{◌≡◌, ℕ, ◌+◌, ◌≤◌, List, [], ◌∷◌, length, All}
use Rattle.xm_num.specs.declared.Block.{Block}
use Rattle.frame_pool.specs.declared.BlockState.{BlockState}
use Rattle.frame_pool.specs.Blocks.{free_blocks}

-- a pool of these states, of which so many are free, and none below a block
pub record IsPool (states : List BlockState) (free low : ℕ) : Type 0 where
  pub some : 1 ≤ length states
  pub most : length states ≤ 4096
  pub counted : free ≡ length (free_blocks states)
  pub lowest : All (λ block. low ≤ block.0) (free_blocks states)

-- the number behind the last block, or this one where there is no block
abbrev pub behind : List Block → ℕ → ℕ
behind [] low = low
behind (block ∷ blocks) low = behind blocks (block.0 + 1)
