-- Rows: the words of a line, as its first word and the items behind it.
use Rattle.std.specs.Prelude.{◌≡◌, ℕ, List, ◌∷◌, [], ◌++◌, decimal, map, length, take}
use Rattle.std.specs.List.{join_with_byte}
use Rattle.xemem_language.specs.Spelling.{mode_word, hex_words}
use Rattle.line_printer.specs.declared.item.Item.{Item}
use Rattle.line_printer.specs.declared.item.Item.TheVariants as items

-- the words that an item stands for
abbrev pub item_words : Item → List (List ℕ)
item_words (items.Word text) = text.now ∷ []
item_words (items.Number n) = decimal n ∷ []
item_words (items.Mode mode) = mode_word mode ∷ []
item_words (items.Frames frames) = map (λ f. decimal f.0) frames.now
item_words (items.Blocks blocks) = map (λ b. decimal b.0) blocks.now
item_words (items.Hex bytes) = hex_words bytes.now

-- the first word and the words behind it with one space between, and a line feed
abbrev pub row_text : List ℕ → List (List ℕ) → List ℕ
row_text first behind = join_with_byte 32 (first ∷ behind) ++ 10 ∷ []

-- the bytes that were there before are still there, with or without others behind them
pub record IsBegunBy (before after : List ℕ) : Type 0 where
  pub kept : take (length before) after ≡ before
