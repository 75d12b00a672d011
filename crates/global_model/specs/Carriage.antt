-- What each line of a journal must meet for what goes over the channels to arrive in order.
use Rattle.std.specs.Prelude.{◌≡◌, ◌+◌, ◌<◌, ◌≤◌, List, [], length, take, true}
use Rattle.xemem_language.specs.declared.line.Line.{Line}
use Rattle.xemem_language.specs.declared.line.Line.TheVariants as lines
use Rattle.xemem_wire.specs.Spelling.{is_valid, spellings_of}
use Rattle.global_model.specs.Channels.{end_waits, is_neighbour, torn_bytes, waiting_in}
use Rattle.global_model.specs.Facts.{fact_of, facts_at, is_living_enclave}
use Rattle.global_model.specs.Journals.{Follows}

-- Carriage: bytes are taken of those that wait; the record that is got next is the next that was sent, and its last byte
-- was taken; what is sent goes from a living enclave to a neighbour and is valid. A death cuts off bytes of those that wait on the
-- way up; its end mark is taken where it waits and no bytes do, and the torn bytes are those after the last whole record.
abbrev pub CarriedAt : List Line → Line → Type 0
CarriedAt past (lines.Took x y count) = (1 ≤ count) × (count ≤ length (waiting_in (facts_at past) x.0 y.0))
CarriedAt past (lines.Got x y) =
    let channel = (facts_at past).channel x.0 y.0 in
    (channel.got < length channel.sent) × (length (spellings_of (take (channel.got + 1) channel.sent)) ≤ channel.taken)
CarriedAt past (lines.Sent x y r) =
    (is_living_enclave ((facts_at past).enclave x.0) ≡ true) × (is_neighbour (facts_at past) x.0 y.0 ≡ true) × (is_valid r ≡ true)
CarriedAt past (lines.Killed x cut) = let G = facts_at past in cut ≤ length (waiting_in G x.0 (fact_of (G.enclave x.0)).parent.0)
CarriedAt past (lines.End x y torn) =
    let G = facts_at past in
    (end_waits G x.0 y.0 ≡ true) × (waiting_in G x.0 y.0 ≡ []) × (torn ≡ torn_bytes (G.channel x.0 y.0))
CarriedAt past line = Unit {0}

-- carried: what goes over the channels arrives in order
abbrev pub IsCarried : List Line → Type 0
IsCarried journal = Follows CarriedAt [] journal
