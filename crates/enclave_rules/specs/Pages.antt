-- Own pages, what an access allows, and blocks with their frames.
use Rattle.std.specs.Prelude.{ℕ, List, map, Bool, true, false, ◌*◌, ◌≤◌}
use Rattle.std.specs.List.{All, range_with_len, flat_map}
use Rattle.std.specs.List.Sorted.{IsStrictlySortedBy}
use Rattle.std.specs.Ordering.{nat_cmp}
use Rattle.xm_num.specs.declared.Frame.{Frame}
use Rattle.xm_num.specs.declared.Block.{Block}
use Rattle.xm_num.specs.declared.Page.{Page}
use Rattle.xm_num.specs.declared.Access.{Access}
use Rattle.xm_num.specs.declared.Access.TheVariants as accesses
use Rattle.xm_num.specs.declared.Want.{Want}
use Rattle.xm_num.specs.declared.Want.TheVariants as wants

-- an own page may be read and written
abbrev pub own_page : Frame → Page
own_page frame = record { frame = frame; access = accesses.ReadWrite; own = true }

-- the access allows what is wanted
abbrev pub allows : Access → Want → Bool
allows accesses.ReadOnly wants.Read = true
allows accesses.ReadOnly wants.Write = false
allows accesses.ReadWrite want = true

-- the numbers ascend, and none stands twice
abbrev pub Ascend : List ℕ → Type 0
Ascend numbers = IsStrictlySortedBy nat_cmp numbers

-- the blocks ascend, and a machine has them
pub record AreBlocks (blocks : List Block) : Type 0 where
  pub ascend : Ascend (map (λ b. b.0) blocks)
  pub most : All (λ b. b.0 ≤ 4095) blocks

-- the frames of these numbers
abbrev pub frame_list : List ℕ → List Frame
frame_list frames = map (λ f. record { 0 = f }) frames

-- the frames of a block, and those of several
abbrev pub block_frames : Block → List Frame
block_frames block = frame_list (range_with_len (64 * block.0) 64)

abbrev pub frames_of : List Block → List Frame
frames_of blocks = flat_map block_frames blocks
