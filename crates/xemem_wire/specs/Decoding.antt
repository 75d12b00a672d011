-- What a decoder has of its stream.
use Rattle.std.specs.Prelude.{◌≡◌, ℕ, ◌+◌, ◌-◌, Option, Some, None, List, [], ◌++◌, length, is_some, if◌then◌else◌}
use Rattle.std.specs.Option.{option_map}
use Rattle.xemem_language.specs.declared.record.Record.{Record}
use Rattle.xemem_wire.specs.declared.format.BadField.{BadField}
use Rattle.xemem_wire.specs.declared.format.FeedFault.{FeedFault}
use Rattle.xemem_wire.specs.declared.format.FeedFault.TheVariants as feeds
use Rattle.xemem_wire.specs.Stream.{records_of, rest_of, first_bad, moved}

-- the whole records that weren't given yet, the bytes after the last whole record, how many bytes of the stream
-- came before these, and the first bad field
pub record Decoding : Type 0 where
  pub records : List Record
  pub rest : List ℕ
  pub before : ℕ
  pub bad : Option BadField

abbrev pub nothing_taken : Decoding
nothing_taken = record { records = []; rest = []; before = 0; bad = None }

-- the next bytes are taken; at a bad field the bytes after the last whole record go
abbrev pub with_bytes : Decoding → List ℕ → Decoding
with_bytes d bytes = record {
  records = d.records ++ records_of bytes;
  rest = if is_some (first_bad bytes) then [] else rest_of bytes;
  before = d.before + (length bytes - length (rest_of bytes));
  bad = option_map (moved d.before) (first_bad bytes);
}

-- the stream goes on with this piece; after a bad field nothing more is taken
unfoldable pub after_piece : Decoding → List ℕ → Decoding
after_piece d piece = if is_some d.bad then d else with_bytes d (d.rest ++ piece)

-- what a decoder has of a whole stream, before it gave any record
abbrev pub from_the_start : List ℕ → Decoding
from_the_start bytes = record {
  records = records_of bytes;
  rest = if is_some (first_bad bytes) then [] else rest_of bytes;
  before = length bytes - length (rest_of bytes);
  bad = first_bad bytes;
}

-- what a feed leaves that isn't Ok: the decoder as before, or one that stopped at that field
abbrev pub Leaves : FeedFault → Decoding → List ℕ → Decoding → Type 0
Leaves feeds.Memory old piece new = new ≡ old
Leaves (feeds.Bad fault place) old piece new =
    (new ≡ after_piece old piece) × (new.bad ≡ Some (record { fault = fault; place = place }))
