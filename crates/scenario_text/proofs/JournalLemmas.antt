-- The lines of a journal's text.
use Rattle.std.proofs.Common.{◌≡◌, ◌≢◌, ℕ, List, [], ◌∷◌, ◌++◌, map, Some, refl, ap, ◌∙◌, arith, append_assoc, append-nil}
use Rattle.std.proofs.lemmas.Bool.{ne_eqb}
use Rattle.std.proofs.lemmas.List.Elements.{All-head, All-tail}
use Rattle.std.specs.List.{join_with_byte, All}
use Rattle.xemem_language.specs.declared.line.Line.{Line}
use Rattle.xemem_language.specs.Ranges.{IsSpelled}
use Rattle.xemem_language.specs.Spelling.{line_words, text_of}
use Rattle.text_words.specs.Solid.{IsSolid, AreWords}
use Rattle.text_words.specs.Words.{lines_of}
use Rattle.line_reader.specs.Lines.{text_line}
use Rattle.line_reader.specs.Typed.{IsTyped}
use Rattle.scenario_text.specs.Reading.{IsReadAs}

-- what a text of a journal is split into, and that a line is read back from its text
abbrev SplitAgain : Type 0
SplitAgain = (journal : List Line) → lines_of (text_of journal) ≡ map (λ line. join_with_byte 32 (line_words line)) journal

abbrev ReadBack : Type 0
ReadBack = (line : Line) → IsTyped line → IsSpelled line → text_line (join_with_byte 32 (line_words line)) ≡ Some line

abbrev IsOneLine : List ℕ → Type 0
IsOneLine [] = Unit {0}
IsOneLine (c ∷ text) = (c ≢ 10) × IsOneLine text

word_then : (word rest : List ℕ) → IsSolid word → IsOneLine rest → IsOneLine (word ++ rest)
word_then [] rest h more = more
word_then (c ∷ word) rest h more = (h.0.no_feed, word_then word rest h.1 more)

joined_is_one_line : (words : List (List ℕ)) → AreWords words → IsOneLine (join_with_byte 32 words)
joined_is_one_line [] h = tt
joined_is_one_line (word ∷ []) h = rw (← append-nil word) (word_then word [] h.0.solid tt)
joined_is_one_line (word ∷ next ∷ words) h = word_then word (32 ∷ join_with_byte 32 (next ∷ words)) h.0.solid ((λ e. omega arith), joined_is_one_line (next ∷ words) h.1)

lines_of-line : (line rest : List ℕ) → IsOneLine line → lines_of (line ++ 10 ∷ rest) ≡ line ∷ lines_of rest
lines_of-line [] rest h = refl
lines_of-line (c ∷ line) rest h = rw (ne_eqb c 10 h.0, lines_of-line line rest h.1) refl

pub lines_of-text : (are_words : (line : Line) → AreWords (line_words line)) (journal : List Line) → lines_of (text_of journal) ≡ map (λ line. join_with_byte 32 (line_words line)) journal
lines_of-text are_words [] = refl
lines_of-text are_words (line ∷ journal) =
    let body = join_with_byte 32 (line_words line) in
    ap lines_of (append_assoc body (10 ∷ []) (text_of journal)) ∙ lines_of-line body (text_of journal) (joined_is_one_line (line_words line) (are_words line)) ∙ ap (λ ls. body ∷ ls) (lines_of-text are_words journal)

-- what the lines of a journal spell
pub read_all : (split : SplitAgain) (back : ReadBack) (journal : List Line) → All IsTyped journal → All IsSpelled journal → IsReadAs (text_of journal) journal
read_all split back journal typed spelled = ap (map text_line) (split journal) ∙ each journal typed spelled
  where
    each : (js : List Line) → All IsTyped js → All IsSpelled js → map text_line (map (λ line. join_with_byte 32 (line_words line)) js) ≡ map (λ line. Some line) js
    each [] t s = refl
    each (line ∷ js) t s = rw (back line (All-head IsTyped line js t) (All-head IsSpelled line js s), each js (All-tail IsTyped line js t) (All-tail IsSpelled line js s)) refl
