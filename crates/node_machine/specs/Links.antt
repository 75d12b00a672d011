-- What flows in a link and the decoder at its end.
use Rattle.std.specs.Prelude.{◌≡◌, ℕ, List, [], ◌∷◌, ◌++◌, None}
use Rattle.byte_link.specs.Channel.{Channel, waiting_bytes}
use Rattle.xemem_language.specs.declared.line.Line.{Line}
use Rattle.xemem_language.specs.declared.line.Line.TheVariants as lines
use Rattle.xemem_language.specs.declared.record.Record.{Record}
use Rattle.xemem_wire.specs.Spelling.{spellings_of, AreValid}
use Rattle.xemem_wire.specs.Decoding.{Decoding}

-- What isn't decoded yet are the spellings of valid records, less what was cut off at the end; no field is bad, and every whole
-- record was given.
pub record IsLinkFlowing (link : Channel) (d : Decoding) : Type 0 where
  pub coming : List Record
  pub off : List ℕ
  pub valid : AreValid coming
  pub bytes : (d.rest ++ waiting_bytes link) ++ off ≡ spellings_of coming
  pub fine : d.bad ≡ None
  pub given : d.records ≡ []

-- the records that lines send
abbrev pub sent_in : List Line → List Record
sent_in [] = []
sent_in (lines.Sent x y r ∷ journal) = r ∷ sent_in journal
sent_in (line ∷ journal) = sent_in journal
