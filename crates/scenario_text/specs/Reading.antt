-- How a text is read back as a journal.
use Rattle.std.specs.Prelude.{◌≡◌, ℕ, List, map, Some}
use Rattle.xemem_language.specs.declared.line.Line.{Line}
use Rattle.text_words.specs.Words.{lines_of}
use Rattle.line_reader.specs.Lines.{text_line}

-- each line of the text spells one, and these are the journal's, in order
abbrev pub IsReadAs : List ℕ → List Line → Type 0
IsReadAs text journal = map text_line (lines_of text) ≡ map (λ line. Some line) journal
