-- The lines that commands are to have, and the line that is due.
use Rattle.std.specs.Prelude.{◌+◌, ◌-◌, ◌/◌, ℕ, zero, suc, min, List, [], ◌∷◌, ◌++◌, length, map, filter, Bool, ◌||◌, ◌==◌, nat_le, nat_lt, if◌then◌else◌, Option, None, is_some, take, slice_get}
use Rattle.std.specs.List.{range_with_len, flat_map}
use Rattle.std.specs.Option.{option_map_or}
use Rattle.xm_num.specs.declared.Enclave.{Enclave}
use Rattle.xm_num.specs.declared.Pid.{Pid}
use Rattle.xm_num.specs.declared.Vpn.{Vpn}
use Rattle.xemem_language.specs.declared.command.Command.{Command}
use Rattle.xemem_language.specs.declared.command.Command.TheVariants as commands
use Rattle.xemem_language.specs.declared.line.Line.{Line}
use Rattle.xemem_language.specs.declared.line.Line.TheVariants as lines
use Rattle.xemem_language.specs.declared.record.Record.{Record}
use Rattle.enclave_rules.specs.Steps.{adopt_lines, birth_lines, bytes_lines, host_lines, handled_lines, route_lines, state_lines}
use Rattle.enclave_rules.specs.Segments.{make_acts, name_rows, remove_acts}
use Rattle.global_model.specs.Channels.{arriving, end_waits, size_of, waiting_in}
use Rattle.global_model.specs.Facts.{Facts, after_line, after_lines, fact_of, facts_at, no_facts}
use Rattle.global_model.specs.Refusals.{refusal_of}
use Rattle.global_model.specs.Space.{Mapping, blocks_left, space_of, unused_frames}
use Rattle.global_model.specs.Views.{view_of}

-- the number that the enclave draws for its next process
abbrev pub next_pid : Facts → Enclave → Pid
next_pid G e = record { 0 = (G.memory e.0).started + 1 }

-- the line of a touch, where the page is mapped
abbrev pub touched_lines : Enclave → Pid → Vpn → Option Mapping → List Line
touched_lines e p page mapping = option_map_or (λ found. lines.Touched e p page found.frame ∷ []) mapping []

-- ---- what goes over a channel

-- the lines of the records that are whole at y now, each by the facts after the lines before it
abbrev pub got_lines : Facts → Enclave → Enclave → List Record → List Line
got_lines G x y [] = []
got_lines G x y (r ∷ rs) =
    let own = handled_lines (view_of G y) x r in
    own ++ got_lines (after_lines G own) x y rs

abbrev pub took_lines : Facts → Enclave → Enclave → ℕ → List Line
took_lines G x y count =
    let H = after_line G (lines.Took x y count) in
    lines.Took x y count ∷ got_lines H x y (arriving (H.channel x.0 y.0))

-- what waits of the bytes is taken; no delivery takes an end mark yet, as no enclave dies
abbrev pub deliver_lines : Facts → Enclave → Enclave → ℕ → List Line
deliver_lines G x y count =
    let waiting = length (waiting_in G x.0 y.0) in
    if waiting == 0 then lines.Idle x y ∷ [] else took_lines G x y (min count waiting)

-- the bytes that wait, 32 a line
abbrev pub link_lines : Facts → Enclave → Enclave → List Line
link_lines G x y = let waiting = waiting_in G x.0 y.0 in bytes_lines x y (length waiting) 0 waiting

-- ---- settling

-- the bytes to the end of the first record that isn't wholly taken, so many bytes being taken
abbrev pub rest_of_record : ℕ → List Record → ℕ
rest_of_record taken [] = 0
rest_of_record taken (r ∷ rs) = if nat_le (size_of r) taken then rest_of_record (taken - size_of r) rs else size_of r - taken

-- how many bytes a delivery of a settle takes: that many, or all that wait where that record was cut
abbrev pub next_rest : Facts → Enclave → Enclave → ℕ
next_rest G x y = min (rest_of_record (G.channel x.0 y.0).taken (G.channel x.0 y.0).sent) (length (waiting_in G x.0 y.0))

-- a child's channel up to its parent, and the one down from it
abbrev pub channels_of : Facts → ℕ → List (Enclave × Enclave)
channels_of G c = let parent = (fact_of (G.enclave c)).parent in (record { 0 = c }, parent) ∷ (parent, record { 0 = c }) ∷ []

-- bytes wait in the channel, or an end mark does
abbrev pub waits : Facts → Enclave × Enclave → Bool
waits G channel = nat_lt 0 (length (waiting_in G channel.0.0 channel.1.0)) || end_waits G channel.0.0 channel.1.0

-- the channels in which something waits, by child, up before down
abbrev pub waiting_channels : Facts → List (Enclave × Enclave)
waiting_channels G = filter (waits G) (flat_map (channels_of G) (range_with_len 1 (G.born - 1)))

abbrev pub first_waiting : Facts → Option (Enclave × Enclave)
first_waiting G = slice_get (waiting_channels G) 0

-- the end of a settle after so many deliveries
abbrev pub settle_end : Facts → ℕ → Line
settle_end G made = if is_some (first_waiting G) then lines.Waiting made else lines.Settled made

-- while deliveries are left, each takes the rest of a record of the first channel in which something waits
abbrev pub settle_from : ℕ → ℕ → Facts → List Line
settle_from zero made G = settle_end G made ∷ []
settle_from (suc left) made G =
    option_map_or (λ channel. let own = deliver_lines G channel.0 channel.1 (next_rest G channel.0 channel.1) in own ++ settle_from left (made + 1) (after_lines G own)) (first_waiting G) (settle_end G made ∷ [])

-- ---- commands

-- the number that is drawn for the next enclave
abbrev pub next_enclave : Facts → Enclave
next_enclave G = record { 0 = G.born }

-- the lines of a command that isn't refused, by the facts after its `do` line
abbrev pub acts_of : Facts → Command → List Line
acts_of G (commands.Pool blocks) = []
acts_of G (commands.Host blocks ns) = host_lines (take blocks (blocks_left G)) ns
acts_of G (commands.Boot kind parent blocks ns) =
    birth_lines (next_enclave G) kind parent (take blocks (blocks_left G)) ns (G.heard parent.0) ++ adopt_lines (view_of G parent) (next_enclave G)
acts_of G (commands.Proc e uid gid) = lines.Proc e (next_pid G e) uid gid ∷ []
acts_of G (commands.Alloc e p at pages) = lines.Alloc e p at (take pages (unused_frames G e.0)) ∷ []
acts_of G (commands.Make e p addr size mode) = make_acts G.hand (view_of G e) p
acts_of G (commands.Remove e p segid) = remove_acts (view_of G e) segid
acts_of G (commands.Touch e p addr want) = touched_lines e p (record { 0 = addr / 4096 }) (space_of G e.0 p.0 (addr / 4096))
acts_of G (commands.Deliver x y count) = deliver_lines G x y count
acts_of G (commands.Settle most) = settle_from most 0 G
acts_of G (commands.ShowRoutes e) = route_lines (view_of G e)
acts_of G (commands.ShowLink x y) = link_lines G x y
acts_of G commands.ShowPool = state_lines 0 (map G.block (range_with_len 0 G.pool))
acts_of G commands.ShowNames = name_rows (G.names G.holder.0).pairs
acts_of G command = []

-- What follows the `do` line of a command: its refusal, by the facts at that line, or its acts, by those after it.
abbrev pub command_lines : Facts → Command → List Line
command_lines G command =
    option_map_or (λ cause. lines.Refused cause ∷ []) (refusal_of G command) (acts_of (after_line G (lines.Do command)) command)

-- all lines of a command, by the facts before it
abbrev pub step_lines : Facts → Command → List Line
step_lines G command = lines.Do command ∷ command_lines G command

-- the journal of commands, by the facts before them
abbrev pub journal_from : Facts → List Command → List Line
journal_from G [] = []
journal_from G (command ∷ commands) = step_lines G command ++ journal_from (after_lines G (step_lines G command)) commands

abbrev pub journal_of : List Command → List Line
journal_of commands = journal_from no_facts commands

-- the line that is due after a past and `since` lines more, which are the first ones of the command at hand
abbrev pub due_since : ℕ → List Line → Option Line
due_since since [] = None
due_since since (lines.Do command ∷ past) = slice_get (command_lines (facts_at past) command) since
due_since since (line ∷ past) = due_since (since + 1) past

-- the line that is due after a past, the newest line first; none where the command has ended
abbrev pub due_line : List Line → Option Line
due_line past = due_since 0 past
