-- What went over a channel, as its link shows it.
use Rattle.std.specs.Prelude.{◌≡◌, ◌+◌, ◌-◌, ◌≤◌, ℕ, List, Bool, length, map}
use Rattle.byte_link.specs.Channel.{Channel, first_bytes, waiting_bytes}
use Rattle.byte_link.specs.Passage.{left_of}
use Rattle.xemem_wire.specs.Spelling.{spelling_of, spellings_of}
use Rattle.global_model.specs.Facts.{ChannelFact}
use Rattle.global_model.specs.Channels.{waiting_of}

-- the spellings of the records that were sent, less what was cut off at the end
abbrev pub rows_sent : ChannelFact → List (List ℕ)
rows_sent fact = first_bytes (length (spellings_of fact.sent) - fact.cut) (map spelling_of fact.sent)

-- The link shows what went over the channel, whose sender may be dead: the bytes that wait, by the pieces of their records, and
-- the end mark, which is set where the sender is dead, and taken where the channel's was.
pub record IsLinkOf (dead : Bool) (fact : ChannelFact) (link : Channel) : Type 0 where
  pub within : fact.taken + fact.cut ≤ length (spellings_of fact.sent)
  pub waiting : waiting_bytes link ≡ waiting_of fact
  pub pieces : link.pieces ≡ left_of (rows_sent fact) fact.taken
  pub ended : link.ended ≡ dead
  pub end_taken : link.end_taken ≡ fact.end_taken
  -- Nothing is cut off so far. It holds until enclaves die.
  pub uncut : fact.cut ≡ 0
