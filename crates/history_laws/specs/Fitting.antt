-- How long a journal may be for what is counted along it to fit the types of the program's lines.
use Rattle.std.specs.Prelude.{◌<◌, ◌^◌, List}
use Rattle.xemem_language.specs.declared.line.Line.{Line}
use Rattle.xemem_language.specs.Spelling.{words_in}

-- so few words that all bytes that they send have a place of 32 bits: a record has at most four bytes a word
abbrev pub IsCountable : List Line → Type 0
IsCountable journal = words_in journal < 2 ^ 30
