-- The tree of enclaves, and what waits in its channels.
use Rattle.std.specs.Prelude.{◌-◌, ℕ, List, [], ◌∷◌, length, drop, take, Bool, not, ◌&&◌, ◌||◌, ◌==◌, nat_le, if◌then◌else◌, is_some}
use Rattle.xemem_language.specs.declared.record.Record.{Record}
use Rattle.xemem_wire.specs.Spelling.{spelling_of, spellings_of}
use Rattle.global_model.specs.Facts.{ChannelFact, Facts, has_parent, lives_at}

-- the enclave has that parent; the host has none
abbrev pub is_child_of : Facts → ℕ → ℕ → Bool
is_child_of G child parent = not (child == 0) && has_parent parent (G.enclave child)

-- one is the parent of the other
abbrev pub is_neighbour : Facts → ℕ → ℕ → Bool
is_neighbour G x y = is_child_of G x y || is_child_of G y x

abbrev pub was_born : Facts → ℕ → Bool
was_born G e = is_some (G.enclave e)

-- all bytes that were sent, but those that were cut off at the end, and those that were taken
abbrev pub waiting_of : ChannelFact → List ℕ
waiting_of channel =
    let bytes = spellings_of channel.sent in
    drop channel.taken (take (length bytes - channel.cut) bytes)

-- the bytes that wait: those, where the receiver lives
abbrev pub waiting_in : Facts → ℕ → ℕ → List ℕ
waiting_in G x y = if lives_at G y then waiting_of (G.channel x y) else []

-- the end mark of a dead child waits at its parent, where that lives, until it is taken
abbrev pub end_waits : Facts → ℕ → ℕ → Bool
end_waits G x y = lives_at G y && (is_child_of G x y && (not (lives_at G x) && not (G.channel x y).end_taken))

abbrev pub size_of : Record → ℕ
size_of r = length (spelling_of r)

-- the records whose last byte is among the first n bytes
abbrev pub whole_records : ℕ → List Record → List Record
whole_records n [] = []
whole_records n (r ∷ rs) = if nat_le (size_of r) n then r ∷ whole_records (n - size_of r) rs else []

-- how many bytes were taken after the last whole record
abbrev pub torn_bytes : ChannelFact → ℕ
torn_bytes channel = channel.taken - length (spellings_of (whole_records channel.taken channel.sent))

-- the records that are whole, and weren't got yet, once so many bytes are taken
abbrev pub arriving : ChannelFact → List Record
arriving channel = drop channel.got (whole_records channel.taken channel.sent)
