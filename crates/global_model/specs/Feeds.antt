-- What the decoder at the end of a channel has, by the facts, and what a line changes of it.
use Rattle.std.specs.Prelude.{◌≡◌, ◌+◌, ◌==◌, ◌&&◌, ◌∷◌, ◌++◌, ℕ, List, [], None, length, take, drop, if◌then◌else◌}
use Rattle.std.specs.Option.{option_map_or}
use Rattle.xemem_language.specs.declared.line.Line.{Line}
use Rattle.xemem_language.specs.declared.line.Line.TheVariants as lines
use Rattle.xemem_wire.specs.Spelling.{spellings_of}
use Rattle.xemem_wire.specs.Stream.{front_record}
use Rattle.xemem_wire.specs.Decoding.{Decoding}
use Rattle.global_model.specs.Facts.{ChannelFact, facts_at}
use Rattle.global_model.specs.Channels.{size_of, waiting_in}

-- how many bytes the records that were got have
abbrev pub got_bytes : ChannelFact → ℕ
got_bytes fact = length (spellings_of (take fact.got fact.sent))

-- what the decoder at the end of a channel has: the bytes that were taken behind those of the records that were got
abbrev pub feed_of : ChannelFact → Decoding
feed_of fact = record { records = []; rest = drop (got_bytes fact) (take fact.taken (spellings_of fact.sent)); before = got_bytes fact; bad = None }

-- the size of the valid record with which these bytes begin, or 0 where there is none
abbrev pub front_size : List ℕ → ℕ
front_size bytes = option_map_or size_of (front_record bytes) 0

-- a decoder with these bytes behind its rest
abbrev pub with_piece : List ℕ → Decoding → Decoding
with_piece bytes d = record d { rest = d.rest ++ bytes }

-- a decoder without the record at the front of its rest, whose bytes are counted with those before
abbrev pub without_front : Decoding → Decoding
without_front d = record d { rest = drop (front_size d.rest) d.rest; before = d.before + front_size d.rest }

-- What a line changes of the decoder for the channel from x to y, where these bytes wait: `took x y` puts the first of them behind
-- its rest, and `got x y` takes the record at the front of its rest. Any other line leaves it, and any line of another channel.
abbrev pub feed_line : Line → ℕ → ℕ → List ℕ → Decoding → Decoding
feed_line (lines.Took a b count) x y waiting d = if (x == a.0) && (y == b.0) then with_piece (take count waiting) d else d
feed_line (lines.Got a b) x y waiting d = if (x == a.0) && (y == b.0) then without_front d else d
feed_line line x y waiting d = d

-- line by line: what the decoder of each channel has after a line is what it had before, but for what the line changes of it
abbrev pub FeedsFollowAt : List Line → Line → Type 0
FeedsFollowAt past line = (x y : ℕ)
    → feed_of ((facts_at (line ∷ past)).channel x y)
    ≡ feed_line line x y (waiting_in (facts_at past) x y) (feed_of ((facts_at past).channel x y))
