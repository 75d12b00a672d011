-- What a past counts: enclaves that were born, processes that were started, and whether one of the births had the name server.
-- A past has its newest line first.
use Rattle.std.specs.Prelude.{◌≡◌, ◌<◌, ◌≤◌, ℕ, List, [], ◌∷◌, length, filter, Bool, ◌&&◌, true, false, ◌==◌}
use Rattle.std.specs.List.{list_any}
use Rattle.xm_num.specs.declared.Cause.TheVariants as causes
use Rattle.xemem_language.specs.declared.command.Command.TheVariants as commands
use Rattle.xemem_language.specs.declared.line.Line.{Line}
use Rattle.xemem_language.specs.declared.line.Line.TheVariants as lines
use Rattle.global_model.specs.Journals.{Follows}

abbrev pub is_birth : Line → Bool
is_birth (lines.Born e kind parent ns blocks) = true
is_birth line = false

-- the birth of the one who holds the name server
abbrev pub bears_server : Line → Bool
bears_server (lines.Born e kind parent ns blocks) = ns
bears_server line = false

abbrev pub is_start : Line → Bool
is_start (lines.Proc e p uid gid) = true
is_start line = false

-- a start at that enclave
abbrev pub starts_at : ℕ → Line → Bool
starts_at e (lines.Proc of p uid gid) = e == of.0
starts_at e line = false

abbrev pub births_in : List Line → ℕ
births_in past = length (filter is_birth past)

abbrev pub starts_in : List Line → ℕ
starts_in past = length (filter is_start past)

abbrev pub starts_by : ℕ → List Line → ℕ
starts_by e past = length (filter (starts_at e) past)

abbrev pub has_server : List Line → Bool
has_server past = list_any bears_server past

-- Limits: a boot is refused as one too many only where 256 enclaves were born, and as a second holder's only where it asks for the
-- name server and one was born with it. It bears an enclave only where it is neither.
abbrev pub LimitedBoot : List Line → Bool → Line → Type 0
LimitedBoot past ns (lines.Refused causes.TooMany) = 256 ≤ births_in past
LimitedBoot past ns (lines.Refused causes.NameServerTaken) = (ns ≡ true) × (has_server past ≡ true)
LimitedBoot past ns (lines.Born e kind parent mark blocks) = (births_in past < 256) × ((ns && has_server past) ≡ false)
LimitedBoot past ns line = Unit {0}

-- a start is refused as one too many only where 1,024 processes were started, and is carried out only where they weren't
abbrev pub LimitedStart : List Line → Line → Type 0
LimitedStart past (lines.Refused causes.TooMany) = 1024 ≤ starts_in past
LimitedStart past (lines.Proc e p uid gid) = starts_in past < 1024
LimitedStart past line = Unit {0}

-- the first line of a boot or a start goes by these
abbrev pub LimitedAt : List Line → Line → Type 0
LimitedAt (lines.Do (commands.Boot kind parent blocks ns) ∷ past) line = LimitedBoot past ns line
LimitedAt (lines.Do (commands.Proc e uid gid) ∷ past) line = LimitedStart past line
LimitedAt past line = Unit {0}

-- limited: all of them do
abbrev pub IsLimited : List Line → Type 0
IsLimited journal = Follows LimitedAt [] journal
