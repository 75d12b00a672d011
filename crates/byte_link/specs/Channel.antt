use Rattle.std.specs.Prelude.{◌≡◌, ℕ, ◌-◌, Bool, true, false, List, [], ◌∷◌, ◌++◌, length, take, drop, filter}
use Rattle.std.specs.List.{concat}

-- a link, as it is seen. A piece is what waits of one record: pieces come in the order of their records, and none is empty
pub record Channel : Type 0 where
  pub pieces : List (List ℕ)
  pub ended : Bool
  pub end_taken : Bool

-- nothing was sent
abbrev pub fresh : Channel
fresh = record { pieces = []; ended = false; end_taken = false }

-- the bytes that wait, in order
abbrev pub waiting_bytes : Channel → List ℕ
waiting_bytes c = concat c.pieces

-- the end mark comes next
pub record IsAtEnd (c : Channel) : Type 0 where
  pub marked : c.ended ≡ true
  pub empty : waiting_bytes c ≡ []
  pub not_taken : c.end_taken ≡ false

-- how many bytes the first piece has
abbrev pub first_length : List (List ℕ) → ℕ
first_length [] = 0
first_length (piece ∷ pieces) = length piece

-- how many bytes there are to the end of the first piece
abbrev pub boundary_of : Channel → ℕ
boundary_of c = first_length c.pieces

abbrev pub has_bytes : List ℕ → Bool
has_bytes [] = false
has_bytes (byte ∷ bytes) = true

-- the pieces that have a byte
abbrev pub filled_pieces : List (List ℕ) → List (List ℕ)
filled_pieces pieces = filter has_bytes pieces

-- the pieces of the first n bytes
abbrev pub first_bytes : ℕ → List (List ℕ) → List (List ℕ)
first_bytes n [] = []
first_bytes n (piece ∷ pieces) = take n piece ∷ first_bytes (n - length piece) pieces

-- the pieces of all but the first n bytes
abbrev pub later_bytes : ℕ → List (List ℕ) → List (List ℕ)
later_bytes n [] = []
later_bytes n (piece ∷ pieces) = drop n piece ∷ later_bytes (n - length piece) pieces

-- a record's bytes were sent
abbrev pub sent : Channel → List ℕ → Channel
sent c bytes = record c { pieces = c.pieces ++ bytes ∷ [] }

-- the first n bytes were taken
abbrev pub taken : Channel → ℕ → Channel
taken c n = record c { pieces = filled_pieces (later_bytes n c.pieces) }

-- the last n bytes were cut off, and the end mark is set
abbrev pub ended_less : Channel → ℕ → Channel
ended_less c n = record c { pieces = filled_pieces (first_bytes (length (waiting_bytes c) - n) c.pieces); ended = true }

-- the end mark was taken
abbrev pub mark_taken : Channel → Channel
mark_taken c = record c { end_taken = true }
