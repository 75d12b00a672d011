use Rattle.std.specs.Prelude.{◌≡◌, ℕ, List, ◌++◌}
use Rattle.byte_link.specs.Channel.{Channel, waiting_bytes, filled_pieces, later_bytes}

-- of all bytes that were sent, these have left the link and those were cut off: the others wait between them
pub record Carries (c : Channel) (all left cut : List ℕ) : Type 0 where
  pub whole : left ++ waiting_bytes c ++ cut ≡ all

-- what waits of these records, once their first n bytes have left
abbrev pub left_of : List (List ℕ) → ℕ → List (List ℕ)
left_of records n = filled_pieces (later_bytes n records)
