-- What stays a word when words are joined by spaces, and lines by line feeds.
use Rattle.std.specs.Prelude.{◌≢◌, ◌<◌, ℕ, List, [], ◌∷◌, length, Bool, true, ◌&&◌, nat_lt}

-- a byte that ends no word and no line
pub record IsSolidByte (c : ℕ) : Type 0 where
  pub no_space : c ≢ 32
  pub no_tab : c ≢ 9
  pub no_feed : c ≢ 10

abbrev pub IsSolid : List ℕ → Type 0
IsSolid [] = Unit {0}
IsSolid (c ∷ text) = IsSolidByte c × IsSolid text

pub record IsWord (word : List ℕ) : Type 0 where
  pub filled : 0 < length word
  pub solid : IsSolid word

abbrev pub AreWords : List (List ℕ) → Type 0
AreWords [] = Unit {0}
AreWords (word ∷ words) = IsWord word × AreWords words

-- each byte is printed, as those of names are
abbrev pub is_printed : List ℕ → Bool
is_printed [] = true
is_printed (c ∷ text) = nat_lt 32 c && is_printed text
