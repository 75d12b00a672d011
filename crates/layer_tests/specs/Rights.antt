-- Rights that are out.
use Rattle.std.specs.Prelude.{ℕ, List, [], ◌∷◌, Option, None, Some}
use Rattle.page_table.specs.Spaces.{Range}

-- the ranges whose rights are out, where one is
abbrev pub out_of : Option Range → List (ℕ × ℕ)
out_of None = []
out_of (Some right) = (right.first.0, right.pages) ∷ []
