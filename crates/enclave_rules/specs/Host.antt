-- What the host keeps for the machine.
use Rattle.std.specs.Prelude.{ℕ, List, [], ◌∷◌, ◌++◌, map}
use Rattle.std.specs.List.{range_with_len}
use Rattle.xm_num.specs.declared.Enclave.{Enclave}
use Rattle.xm_num.specs.declared.Block.{Block}
use Rattle.frame_pool.specs.declared.BlockState.{BlockState}
use Rattle.frame_pool.specs.declared.BlockState.TheVariants as states
use Rattle.frame_pool.specs.Blocks.{with_lent}
use Rattle.xemem_language.specs.declared.line.Line.{Line}
use Rattle.xemem_language.specs.declared.line.Line.TheVariants as lines

-- the state of each block, and the parent of each enclave, both by their numbers
pub record HostView : Type 0 where
  pub states : List BlockState
  pub parents : List Enclave

abbrev pub no_host : HostView
no_host = record { states = []; parents = [] }

-- a pool of so many blocks, all of them free
abbrev pub free_pool : ℕ → List BlockState
free_pool pool = map (λ b. states.Free) (range_with_len 0 pool)

-- the host lends these blocks to an enclave that is born, and records its parent
abbrev pub with_birth : Enclave → Enclave → List Block → HostView → HostView
with_birth child parent blocks h = record { states = with_lent blocks child h.states; parents = h.parents ++ parent ∷ [] }

-- what a line at the host changes of it
abbrev pub host_line : HostView → Line → HostView
host_line h (lines.Born child kind parent ns blocks) = with_birth child parent blocks h
host_line h line = h
