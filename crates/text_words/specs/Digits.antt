-- Digits whose number fits 64 bits.
use Rattle.std.specs.Prelude.{◌≡◌, ◌<◌, ◌^◌, ℕ, List, length, true}
use Rattle.std.specs.Str.{all_ascii_digits}
use Rattle.std.specs.Str.Parse.{digits_value}

pub record SpellsDigits (word : List ℕ) : Type 0 where
  pub digits : all_ascii_digits word ≡ true
  pub filled : 0 < length word
  pub fits : digits_value 10 word < 2 ^ 64
