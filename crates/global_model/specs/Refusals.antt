-- The conditions under which a command is refused.
use Rattle.std.specs.Prelude.{◌+◌, ◌-◌, ◌/◌, ◌%◌, ◌||◌, ◌==◌, List, [], ◌∷◌, length, Bool, not, ◌&&◌, nat_le, nat_lt, if◌then◌else◌, Option, None, Some, ℕ, is_some, is_none, false}
use Rattle.std.specs.List.{range_with_len, list_any, list_all}
use Rattle.std.specs.Option.{option_map_or}
use Rattle.xm_num.specs.declared.Cause.{Cause}
use Rattle.xm_num.specs.declared.Cause.TheVariants as causes
use Rattle.xemem_language.specs.declared.command.Command.{Command}
use Rattle.xemem_language.specs.declared.command.Command.TheVariants as commands
use Rattle.xm_num.specs.declared.Enclave.{Enclave}
use Rattle.xm_num.specs.declared.Pid.{Pid}
use Rattle.xm_num.specs.declared.Want.{Want}
use Rattle.xm_num.specs.Sizes.{page_bytes, most_pages, last_page}
use Rattle.enclave_rules.specs.Pages.{allows}
use Rattle.enclave_rules.specs.Memory.{is_busy}
use Rattle.enclave_rules.specs.Exports.{segid_number}
use Rattle.exporter_pins.specs.Holdings.{live_export}
use Rattle.enclave_rules.specs.Segments.{is_own_page}
use Rattle.global_model.specs.Channels.{is_neighbour, was_born}
use Rattle.global_model.specs.Facts.{Facts, is_admitted, is_living_enclave, runs}
use Rattle.global_model.specs.Space.{Mapping, blocks_left, pages_at, space_of, unused_frames}

-- one of so many pages from that one on is mapped
abbrev pub is_taken : Facts → ℕ → ℕ → ℕ → ℕ → Bool
is_taken G e p at pages = list_any (λ page. is_some (space_of G e p page)) (range_with_len at pages)

-- a cause, and whether its condition holds
pub record Condition : Type 0 where
  pub cause : Cause
  pub holds : Bool

abbrev pub when : Cause → Bool → Condition
when cause holds = record { cause = cause; holds = holds }

-- the enclave doesn't live; the process doesn't
abbrev pub no_enclave : Facts → Enclave → Condition
no_enclave G e = when causes.NoEnclave (not (is_living_enclave (G.enclave e.0)))

abbrev pub no_process : Facts → Enclave → Pid → Condition
no_process G e p = when causes.NoProcess (not (runs G e.0 p.0))

-- the enclave isn't admitted; a call of the process waits
abbrev pub not_ready : Facts → Enclave → Condition
not_ready G e = when causes.NotReady (not (is_admitted (G.enclave e.0)))

abbrev pub busy : Facts → Enclave → Pid → Condition
busy G e p = when causes.Busy (is_busy (G.memory e.0) p.0)

-- an address and a size aren't whole pages; the first page is 0, or the last one is past the last of a space
abbrev pub is_misaligned : ℕ → ℕ → Bool
is_misaligned addr size = not (addr % page_bytes == 0) || not (size % page_bytes == 0)

abbrev pub is_outside : ℕ → ℕ → Bool
is_outside addr size = (addr / page_bytes == 0) || nat_lt last_page (addr / page_bytes + (size / page_bytes - 1))

-- each of so many pages from that one on is an own one of the process
abbrev pub are_owned : Facts → ℕ → ℕ → ℕ → ℕ → Bool
are_owned G e p page count = list_all (is_own_page (pages_at G e p)) (range_with_len page count)

-- the enclave has a live segment of that segid; the process made it
abbrev pub has_segment : Facts → ℕ → ℕ → Bool
has_segment G e segid = is_some (live_export (G.exports e) segid)

abbrev pub has_made : Facts → ℕ → ℕ → ℕ → Bool
has_made G e p segid = option_map_or (λ row. row.1.pid == p) (live_export (G.exports e) segid) false

-- the page is mapped, and its access doesn't allow what is wanted
abbrev pub denies : Want → Option Mapping → Bool
denies want mapping = option_map_or (λ found. not (allows found.access want)) mapping false

-- the receiver doesn't live or the sender was never born; they aren't neighbours
abbrev pub link_conditions : Facts → Enclave → Enclave → List Condition
link_conditions G x y =
    when causes.NoEnclave (not (is_living_enclave (G.enclave y.0) && was_born G x.0))
    ∷ when causes.NoLink (not (is_neighbour G x.0 y.0))
    ∷ []

-- the conditions of a command in their order, by the facts at its `do` line
abbrev pub conditions_of : Facts → Command → List Condition
conditions_of G (commands.Pool blocks) = []
conditions_of G (commands.Host blocks ns) = when causes.NoBlocks (nat_lt G.pool blocks) ∷ []
conditions_of G (commands.Boot kind parent blocks ns) =
    no_enclave G parent
    ∷ when causes.TooMany (nat_le 256 G.born)
    ∷ when causes.NameServerTaken (ns && G.server)
    ∷ when causes.NoBlocks (nat_lt (length (blocks_left G)) blocks)
    ∷ []
conditions_of G (commands.Proc e uid gid) = no_enclave G e ∷ when causes.TooMany (nat_le 1024 G.starts) ∷ []
conditions_of G (commands.Alloc e p at pages) =
    no_enclave G e
    ∷ no_process G e p
    ∷ busy G e p
    ∷ when causes.BadRange (nat_lt 16777216 (at.0 + pages))
    ∷ when causes.Taken (is_taken G e.0 p.0 at.0 pages)
    ∷ when causes.NoFrames (nat_lt (length (unused_frames G e.0)) pages)
    ∷ []
conditions_of G (commands.Make e p addr size mode) =
    no_enclave G e
    ∷ no_process G e p
    ∷ not_ready G e
    ∷ busy G e p
    ∷ when causes.BadAlign (is_misaligned addr size)
    ∷ when causes.BadRange (size == 0)
    ∷ when causes.TooLarge (nat_lt most_pages (size / page_bytes))
    ∷ when causes.BadRange (is_outside addr size)
    ∷ when causes.NotMapped (not (are_owned G e.0 p.0 (addr / page_bytes) (size / page_bytes)))
    ∷ []
conditions_of G (commands.Remove e p segid) =
    no_enclave G e
    ∷ no_process G e p
    ∷ not_ready G e
    ∷ busy G e p
    ∷ when causes.NoSegment (not (has_segment G e.0 (segid_number segid)))
    ∷ when causes.NotOwner (not (has_made G e.0 p.0 (segid_number segid)))
    ∷ []
conditions_of G (commands.Touch e p addr want) =
    no_enclave G e
    ∷ no_process G e p
    ∷ when causes.NotMapped (is_none (space_of G e.0 p.0 (addr / 4096)))
    ∷ when causes.Denied (denies want (space_of G e.0 p.0 (addr / 4096)))
    ∷ []
conditions_of G (commands.Deliver x y count) = link_conditions G x y
conditions_of G (commands.ShowRoutes e) = no_enclave G e ∷ []
conditions_of G (commands.ShowLink x y) = link_conditions G x y
conditions_of G commands.ShowPool = when causes.NoEnclave (not (was_born G 0)) ∷ []
conditions_of G commands.ShowNames = when causes.NotReady (not G.server) ∷ []
conditions_of G command = []

abbrev pub first_cause : List Condition → Option Cause
first_cause [] = None
first_cause (condition ∷ conditions) = if condition.holds then Some condition.cause else first_cause conditions

-- the cause for which a command is refused: the first whose condition holds
abbrev pub refusal_of : Facts → Command → Option Cause
refusal_of G command = first_cause (conditions_of G command)
