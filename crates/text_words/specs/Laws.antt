-- Laws of words and numbers, in the shape in which proofs hand them on.
use Rattle.std.specs.Prelude.{◌≡◌, ◌<◌, ◌≤◌, ◌^◌, ℕ, List, true, ◌&&◌, Some, decimal}
use Rattle.text_words.specs.Words.{number_in, is_filled}
use Rattle.text_words.specs.Solid.{IsWord, is_printed}

-- the word is the number's, which is in the range
pub record Spells (low high : ℕ) (word : List ℕ) (n : ℕ) : Type 0 where
  pub is : word ≡ decimal n
  pub least : low ≤ n
  pub most : n ≤ high

-- a number that is spelled is read again, and a word that is read for a number is how that number is spelled
pub record NumberLaws : Type 0 where
  pub back : (low high n : ℕ) → low ≤ n → n ≤ high → n < 2 ^ 64 → number_in low high (decimal n) ≡ Some n
  pub spelled : (low high : ℕ) (word : List ℕ) (n : ℕ) → high < 2 ^ 64 → number_in low high word ≡ Some n → Spells low high word n

-- numbers and names are words
pub record WordLaws : Type 0 where
  pub number : (n : ℕ) → IsWord (decimal n)
  pub name : (text : List ℕ) → (is_filled text && is_printed text) ≡ true → IsWord text
