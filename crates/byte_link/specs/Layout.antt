use Rattle.std.specs.Prelude.{◌≡◌, ℕ, ◌-◌, ◌^◌, ◌<◌, ◌≤◌, Bool, false, List, [], ◌∷◌, length, take, drop, sum, All, nat_lt, if◌then◌else◌}
use Rattle.byte_link.specs.Channel.{Channel, filled_pieces}

-- bytes, split into rows of these lengths. Where the bytes end early the last rows are short or empty
abbrev pub rows_of : List ℕ → List ℕ → List (List ℕ)
rows_of [] bytes = []
rows_of (n ∷ lengths) bytes = take n bytes ∷ rows_of lengths (drop n bytes)

-- the pieces that a link shows
abbrev pub pieces_of : List ℕ → List ℕ → List (List ℕ)
pieces_of lengths bytes = filled_pieces (rows_of lengths bytes)

-- a link with these fields, as it is seen
abbrev pub shown : List ℕ → List ℕ → Bool → Bool → Channel
shown lengths bytes ended end_taken =
    record { pieces = pieces_of lengths bytes; ended = ended; end_taken = end_taken }

-- the lengths of what is left, once the first n bytes have gone
abbrev pub lengths_after : ℕ → List ℕ → List ℕ
lengths_after n [] = []
lengths_after n (m ∷ lengths) = if nat_lt n m then (m - n) ∷ lengths else lengths_after (n - m) lengths

-- how the lengths of records go with their bytes: a cut leaves fewer bytes than lengths
pub record IsLaid (lengths bytes : List ℕ) (ended : Bool) : Type 0 where
  pub small : length bytes < 2 ^ 32
  pub covered : length bytes ≤ sum lengths
  pub exact : ended ≡ false → sum lengths ≡ length bytes
  pub positive : All (λ n. 0 < n) lengths
