-- Worked scenarios, by which the definitions are compared with what was wanted of them.
use Rattle.std.specs.Prelude.{◌≡◌, ◌++◌, ℕ, Bool, true, false, List, [], ◌∷◌, map, take, Option, Some, codes}
use Rattle.std.specs.List.{flat_map, range_with_len}
use Rattle.xm_num.specs.declared.Kind.TheVariants as kinds
use Rattle.xemem_language.specs.declared.command.Command.{Command}
use Rattle.xemem_language.specs.declared.command.Command.TheVariants as commands
use Rattle.xemem_language.specs.declared.line.Line.{Line}
use Rattle.enclave_rules.specs.Built.{is_built}
use Rattle.enclave_rules.specs.Core.{host}
use Rattle.scenario_text.specs.Scenario.{Ending, Stop, scenario_by}
use Rattle.xemem_language.specs.Spelling.{text_of}
use Rattle.global_model.specs.Due.{journal_of}
use Rattle.global_model.specs.Facts.{Facts, facts_after}
use Rattle.global_model.specs.Journals.{onto}
use Rattle.call_laws.specs.Cells.{cells}
use Rattle.call_laws.specs.Places.{Place, place_of}

-- the pieces, each ended by a line feed
abbrev pub text : List (List ℕ) → List ℕ
text pieces = flat_map (λ piece. piece ++ 10 ∷ []) pieces

-- what the definitions make of a scenario: where and why it stops, and the journal of its commands
pub record Gives (scenario : List ℕ) (ending : Option Ending) (journal : List ℕ) : Type 0 where
  pub ending_is : (scenario_by is_built scenario).ending ≡ ending
  pub journal_is : text_of (journal_of (scenario_by is_built scenario).commands) ≡ journal

-- it stops at that line
abbrev pub at_line : ℕ → Stop → Option Ending
at_line line stop = Some (record { line = line; stop = stop })

abbrev pub smallest : List (List ℕ)
smallest = codes "pool 2" ∷ codes "host 1 ns" ∷ codes "proc 0 100 100" ∷ codes "alloc 0 1 16 2" ∷ codes "touch 0 1 69632 w" ∷ []

abbrev pub smallest_journal : List (List ℕ)
smallest_journal =
    codes "do pool 2" ∷ codes "do host 1 ns" ∷ codes "born 0 host 0 ns 0" ∷ codes "admitted 0" ∷ codes "do proc 0 100 100" ∷ codes "proc 0 1 100 100"
    ∷ codes "do alloc 0 1 16 2" ∷ codes "alloc 0 1 16 0 1" ∷ codes "do touch 0 1 69632 w" ∷ codes "touched 0 1 17 1" ∷ []

abbrev pub refused : List (List ℕ)
refused = smallest ++ (codes "alloc 0 1 17 1" ∷ codes "alloc 0 1 40 63" ∷ codes "touch 0 1 0 r" ∷ [])

abbrev pub refused_journal : List (List ℕ)
refused_journal =
    smallest_journal
    ++ (codes "do alloc 0 1 17 1" ∷ codes "refused Taken" ∷ codes "do alloc 0 1 40 63" ∷ codes "refused NoFrames" ∷ codes "do touch 0 1 0 r" ∷ codes "refused NotMapped" ∷ [])

abbrev pub one_byte_short : List (List ℕ)
one_byte_short =
    codes "pool 4" ∷ codes "host 1 ns" ∷ codes "boot cokernel under 0 blocks 1" ∷ codes "show link 1 0" ∷ codes "deliver 1 0 15"
    ∷ codes "deliver 1 0 1" ∷ codes "deliver 1 0 1" ∷ []

abbrev pub one_byte_short_journal : List (List ℕ)
one_byte_short_journal =
    codes "do pool 4" ∷ codes "do host 1 ns" ∷ codes "born 0 host 0 ns 0" ∷ codes "admitted 0"
    ∷ codes "do boot cokernel under 0 blocks 1" ∷ codes "born 1 cokernel 0 - 1" ∷ codes "sent 1 0 query 1 65535 0"
    ∷ codes "do show link 1 0" ∷ codes "bytes 1 0 0 1000000001010100ffff000000000000"
    ∷ codes "do deliver 1 0 15" ∷ codes "took 1 0 15"
    ∷ codes "do deliver 1 0 1" ∷ codes "took 1 0 1" ∷ codes "got 1 0" ∷ codes "sent 0 1 here 0 65535 0"
    ∷ codes "do deliver 1 0 1" ∷ codes "idle 1 0" ∷ []

abbrev pub discovered : List (List ℕ)
discovered = one_byte_short ++ (codes "deliver 0 1 16" ∷ codes "deliver 1 0 16" ∷ codes "deliver 0 1 1000" ∷ codes "deliver 1 1 1" ∷ codes "deliver 0 2 1" ∷ [])

abbrev pub discovered_journal : List (List ℕ)
discovered_journal =
    one_byte_short_journal
    ++ (codes "do deliver 0 1 16" ∷ codes "took 0 1 16" ∷ codes "got 0 1" ∷ codes "way 1 0" ∷ codes "sent 1 0 register 1 65535 0"
    ∷ codes "do deliver 1 0 16" ∷ codes "took 1 0 16" ∷ codes "got 1 0" ∷ codes "back 0 1 1" ∷ codes "route 0 1 1" ∷ codes "sent 0 1 admit 0 1 0"
    ∷ codes "do deliver 0 1 1000" ∷ codes "took 0 1 16" ∷ codes "got 0 1" ∷ codes "admitted 1"
    ∷ codes "do deliver 1 1 1" ∷ codes "refused NoLink"
    ∷ codes "do deliver 0 2 1" ∷ codes "refused NoEnclave" ∷ [])

-- memory of a child: its frames are those of its blocks, and the pool tells whose blocks are
abbrev pub child_memory : List (List ℕ)
child_memory =
    codes "pool 4" ∷ codes "host 1 ns" ∷ codes "boot cokernel under 0 blocks 2" ∷ codes "proc 1 5 5" ∷ codes "alloc 1 1 16 64" ∷ codes "alloc 1 1 80 65"
    ∷ codes "alloc 1 1 79 1" ∷ codes "touch 1 1 65536 r" ∷ codes "show pool" ∷ []

abbrev pub child_memory_journal : List (List ℕ)
child_memory_journal =
    codes "do pool 4" ∷ codes "do host 1 ns" ∷ codes "born 0 host 0 ns 0" ∷ codes "admitted 0"
    ∷ codes "do boot cokernel under 0 blocks 2" ∷ codes "born 1 cokernel 0 - 1 2" ∷ codes "sent 1 0 query 1 65535 0"
    ∷ codes "do proc 1 5 5" ∷ codes "proc 1 1 5 5"
    ∷ codes "do alloc 1 1 16 64" ∷ codes "alloc 1 1 16 64 65 66 67 68 69 70 71 72 73 74 75 76 77 78 79 80 81 82 83 84 85 86 87 88 89 90 91 92 93 94 95 96 97 98 99 100 101 102 103 104 105 106 107 108 109 110 111 112 113 114 115 116 117 118 119 120 121 122 123 124 125 126 127"
    ∷ codes "do alloc 1 1 80 65" ∷ codes "refused NoFrames" ∷ codes "do alloc 1 1 79 1" ∷ codes "refused Taken"
    ∷ codes "do touch 1 1 65536 r" ∷ codes "touched 1 1 16 64"
    ∷ codes "do show pool" ∷ codes "block 0 lent 0" ∷ codes "block 1 lent 1" ∷ codes "block 2 lent 1" ∷ codes "block 3 free" ∷ []

-- a host that is refused leaves no enclave
abbrev pub no_host_born : List (List ℕ)
no_host_born = codes "pool 1" ∷ codes "host 2 ns" ∷ codes "show pool" ∷ codes "proc 0 1 1" ∷ codes "touch 0 1 0 r" ∷ []

abbrev pub no_host_born_journal : List (List ℕ)
no_host_born_journal =
    codes "do pool 1" ∷ codes "do host 2 ns" ∷ codes "refused NoBlocks" ∷ codes "do show pool" ∷ codes "refused NoEnclave"
    ∷ codes "do proc 0 1 1" ∷ codes "refused NoEnclave" ∷ codes "do touch 0 1 0 r" ∷ codes "refused NoEnclave" ∷ []

-- settling: the query, the here, the register and the admit are delivered until nothing waits
abbrev pub settled : List (List ℕ)
settled = one_byte_short ++ (codes "settle 10" ∷ codes "settle 0" ∷ [])

-- what the two settles write
abbrev pub settled_lines : List (List ℕ)
settled_lines =
    codes "do settle 10" ∷ codes "took 0 1 16" ∷ codes "got 0 1" ∷ codes "way 1 0" ∷ codes "sent 1 0 register 1 65535 0"
    ∷ codes "took 1 0 16" ∷ codes "got 1 0" ∷ codes "back 0 1 1" ∷ codes "route 0 1 1" ∷ codes "sent 0 1 admit 0 1 0"
    ∷ codes "took 0 1 16" ∷ codes "got 0 1" ∷ codes "admitted 1" ∷ codes "settled 3" ∷ codes "do settle 0" ∷ codes "settled 0" ∷ []

abbrev pub settled_journal : List (List ℕ)
settled_journal = one_byte_short_journal ++ settled_lines

-- nobody knows the way until the last enclave holds the name server
abbrev pub late_name_server : List (List ℕ)
late_name_server =
    codes "pool 8" ∷ codes "host 1" ∷ codes "boot cokernel under 0 blocks 1" ∷ codes "boot cokernel under 1 blocks 1"
    ∷ codes "boot cokernel under 0 blocks 1 ns" ∷ codes "settle 100" ∷ codes "show routes 0" ∷ []

-- its journal
abbrev pub late_name_server_journal : List (List ℕ)
late_name_server_journal =
    codes "do pool 8" ∷ codes "do host 1" ∷ codes "born 0 host 0 - 0" ∷ codes "do boot cokernel under 0 blocks 1"
    ∷ codes "born 1 cokernel 0 - 1" ∷ codes "sent 1 0 query 1 65535 0" ∷ codes "sent 0 1 query 0 65535 0"
    ∷ codes "do boot cokernel under 1 blocks 1" ∷ codes "born 2 cokernel 1 - 2" ∷ codes "sent 2 1 query 2 65535 0"
    ∷ codes "sent 1 2 query 1 65535 0" ∷ codes "do boot cokernel under 0 blocks 1 ns" ∷ codes "born 3 cokernel 0 ns 3"
    ∷ codes "admitted 3" ∷ codes "sent 0 3 query 0 65535 0" ∷ codes "do settle 100" ∷ codes "took 1 0 16" ∷ codes "got 1 0"
    ∷ codes "asked 0 1" ∷ codes "took 0 1 16" ∷ codes "got 0 1" ∷ codes "asked 1 0" ∷ codes "took 2 1 16" ∷ codes "got 2 1"
    ∷ codes "asked 1 2" ∷ codes "took 1 2 16" ∷ codes "got 1 2" ∷ codes "asked 2 1" ∷ codes "took 0 3 16" ∷ codes "got 0 3"
    ∷ codes "sent 3 0 here 3 65535 0" ∷ codes "took 3 0 16" ∷ codes "got 3 0" ∷ codes "way 0 3" ∷ codes "sent 0 1 here 0 65535 0"
    ∷ codes "sent 0 3 register 0 65535 0" ∷ codes "took 0 1 16" ∷ codes "got 0 1" ∷ codes "way 1 0" ∷ codes "sent 1 2 here 1 65535 0"
    ∷ codes "sent 1 0 register 1 65535 0" ∷ codes "took 1 0 16" ∷ codes "got 1 0" ∷ codes "back 0 1 1"
    ∷ codes "sent 0 3 register 1 65535 0" ∷ codes "took 1 2 16" ∷ codes "got 1 2" ∷ codes "way 2 1"
    ∷ codes "sent 2 1 register 2 65535 0" ∷ codes "took 2 1 16" ∷ codes "got 2 1" ∷ codes "back 1 2 2"
    ∷ codes "sent 1 0 register 2 65535 0" ∷ codes "took 1 0 16" ∷ codes "got 1 0" ∷ codes "back 0 2 1"
    ∷ codes "sent 0 3 register 2 65535 0" ∷ codes "took 0 3 16" ∷ codes "got 0 3" ∷ codes "back 3 0 0" ∷ codes "route 3 0 0"
    ∷ codes "sent 3 0 admit 3 0 0" ∷ codes "took 3 0 16" ∷ codes "got 3 0" ∷ codes "admitted 0" ∷ codes "took 0 3 16" ∷ codes "got 0 3"
    ∷ codes "back 3 1 0" ∷ codes "route 3 1 0" ∷ codes "sent 3 0 admit 3 1 0" ∷ codes "took 3 0 16" ∷ codes "got 3 0"
    ∷ codes "route 0 1 1" ∷ codes "sent 0 1 admit 3 1 0" ∷ codes "took 0 1 16" ∷ codes "got 0 1" ∷ codes "admitted 1"
    ∷ codes "took 0 3 16" ∷ codes "got 0 3" ∷ codes "back 3 2 0" ∷ codes "route 3 2 0" ∷ codes "sent 3 0 admit 3 2 0"
    ∷ codes "took 3 0 16" ∷ codes "got 3 0" ∷ codes "route 0 2 1" ∷ codes "sent 0 1 admit 3 2 0" ∷ codes "took 0 1 16"
    ∷ codes "got 0 1" ∷ codes "route 1 2 2" ∷ codes "sent 1 2 admit 3 2 0" ∷ codes "took 1 2 16" ∷ codes "got 1 2" ∷ codes "admitted 2"
    ∷ codes "settled 20" ∷ codes "do show routes 0" ∷ codes "at 0 way 3" ∷ codes "at 0 route 1 1" ∷ codes "at 0 route 2 1" ∷ []

-- the name server is taken first, and then the blocks: of the conditions that hold the first decides
abbrev pub server_first : List (List ℕ)
server_first =
    codes "pool 4" ∷ codes "host 1 ns" ∷ codes "boot cokernel under 1 blocks 4 ns"
    ∷ codes "boot cokernel under 0 blocks 1 ns" ∷ codes "boot cokernel under 0 blocks 4"
    ∷ codes "boot cokernel under 0 blocks 3" ∷ codes "boot cokernel under 0 blocks 1 ns"
    ∷ codes "boot cokernel under 2 blocks 1" ∷ codes "boot cokernel under 1 blocks 1" ∷ []

abbrev pub server_first_journal : List (List ℕ)
server_first_journal =
    codes "do pool 4" ∷ codes "do host 1 ns" ∷ codes "born 0 host 0 ns 0" ∷ codes "admitted 0"
    ∷ codes "do boot cokernel under 1 blocks 4 ns" ∷ codes "refused NoEnclave"
    ∷ codes "do boot cokernel under 0 blocks 1 ns" ∷ codes "refused NameServerTaken"
    ∷ codes "do boot cokernel under 0 blocks 4" ∷ codes "refused NoBlocks" ∷ codes "do boot cokernel under 0 blocks 3"
    ∷ codes "born 1 cokernel 0 - 1 2 3" ∷ codes "sent 1 0 query 1 65535 0"
    ∷ codes "do boot cokernel under 0 blocks 1 ns" ∷ codes "refused NameServerTaken"
    ∷ codes "do boot cokernel under 2 blocks 1" ∷ codes "refused NoEnclave"
    ∷ codes "do boot cokernel under 1 blocks 1" ∷ codes "refused NoBlocks" ∷ []

-- there are too few blocks first, and then the name server is taken
abbrev pub blocks_first : List (List ℕ)
blocks_first =
    codes "pool 2" ∷ codes "host 1" ∷ codes "boot cokernel under 0 blocks 2 ns"
    ∷ codes "boot cokernel under 0 blocks 1 ns" ∷ codes "boot cokernel under 0 blocks 2 ns"
    ∷ codes "boot cokernel under 2 blocks 1 ns" ∷ []

abbrev pub blocks_first_journal : List (List ℕ)
blocks_first_journal =
    codes "do pool 2" ∷ codes "do host 1" ∷ codes "born 0 host 0 - 0" ∷ codes "do boot cokernel under 0 blocks 2 ns"
    ∷ codes "refused NoBlocks" ∷ codes "do boot cokernel under 0 blocks 1 ns" ∷ codes "born 1 cokernel 0 ns 1"
    ∷ codes "admitted 1" ∷ codes "sent 0 1 query 0 65535 0" ∷ codes "do boot cokernel under 0 blocks 2 ns"
    ∷ codes "refused NameServerTaken" ∷ codes "do boot cokernel under 2 blocks 1 ns" ∷ codes "refused NoEnclave" ∷ []

-- conditions of the calls of processes, alone and several at once: some come to hold, and some no longer do
abbrev pub refused_calls : List (List ℕ)
refused_calls =
    codes "pool 4" ∷ codes "host 1 ns" ∷ codes "proc 1 1 1" ∷ codes "alloc 1 1 16777215 65"
    ∷ codes "touch 1 1 65536 r" ∷ codes "alloc 0 1 16777215 65" ∷ codes "alloc 0 1 16 1" ∷ codes "touch 0 1 65536 r"
    ∷ codes "proc 0 1 1" ∷ codes "touch 0 1 65536 r" ∷ codes "alloc 0 1 16777215 2" ∷ codes "alloc 0 1 16777215 65"
    ∷ codes "alloc 0 1 16 65" ∷ codes "alloc 0 1 20 1" ∷ codes "alloc 0 1 16 65" ∷ codes "alloc 0 1 20 1"
    ∷ codes "alloc 0 1 16777215 1" ∷ codes "alloc 0 1 16777215 2" ∷ codes "alloc 0 1 21 62" ∷ codes "alloc 0 1 20 1"
    ∷ codes "alloc 0 1 100 1" ∷ codes "alloc 0 2 16 1" ∷ codes "touch 0 2 81920 w" ∷ codes "proc 0 1 1"
    ∷ codes "alloc 0 2 16 1" ∷ codes "touch 0 2 81920 w" ∷ codes "touch 0 1 81920 w" ∷ []

abbrev pub refused_calls_journal : List (List ℕ)
refused_calls_journal =
    codes "do pool 4" ∷ codes "do host 1 ns" ∷ codes "born 0 host 0 ns 0" ∷ codes "admitted 0" ∷ codes "do proc 1 1 1"
    ∷ codes "refused NoEnclave" ∷ codes "do alloc 1 1 16777215 65" ∷ codes "refused NoEnclave"
    ∷ codes "do touch 1 1 65536 r" ∷ codes "refused NoEnclave" ∷ codes "do alloc 0 1 16777215 65"
    ∷ codes "refused NoProcess" ∷ codes "do alloc 0 1 16 1" ∷ codes "refused NoProcess" ∷ codes "do touch 0 1 65536 r"
    ∷ codes "refused NoProcess" ∷ codes "do proc 0 1 1" ∷ codes "proc 0 1 1 1" ∷ codes "do touch 0 1 65536 r"
    ∷ codes "refused NotMapped" ∷ codes "do alloc 0 1 16777215 2" ∷ codes "refused BadRange"
    ∷ codes "do alloc 0 1 16777215 65" ∷ codes "refused BadRange" ∷ codes "do alloc 0 1 16 65"
    ∷ codes "refused NoFrames" ∷ codes "do alloc 0 1 20 1" ∷ codes "alloc 0 1 20 0" ∷ codes "do alloc 0 1 16 65"
    ∷ codes "refused Taken" ∷ codes "do alloc 0 1 20 1" ∷ codes "refused Taken" ∷ codes "do alloc 0 1 16777215 1"
    ∷ codes "alloc 0 1 16777215 1" ∷ codes "do alloc 0 1 16777215 2" ∷ codes "refused BadRange"
    ∷ codes "do alloc 0 1 21 62"
    ∷ codes "alloc 0 1 21 2 3 4 5 6 7 8 9 10 11 12 13 14 15 16 17 18 19 20 21 22 23 24 25 26 27 28 29 30 31 32 33 34 35 36 37 38 39 40 41 42 43 44 45 46 47 48 49 50 51 52 53 54 55 56 57 58 59 60 61 62 63"
    ∷ codes "do alloc 0 1 20 1" ∷ codes "refused Taken" ∷ codes "do alloc 0 1 100 1" ∷ codes "refused NoFrames"
    ∷ codes "do alloc 0 2 16 1" ∷ codes "refused NoProcess" ∷ codes "do touch 0 2 81920 w" ∷ codes "refused NoProcess"
    ∷ codes "do proc 0 1 1" ∷ codes "proc 0 2 1 1" ∷ codes "do alloc 0 2 16 1" ∷ codes "refused NoFrames"
    ∷ codes "do touch 0 2 81920 w" ∷ codes "refused NotMapped" ∷ codes "do touch 0 1 81920 w"
    ∷ codes "touched 0 1 20 0" ∷ []

-- a child makes a segment, whose name is shown, and removes it
abbrev pub segments_end : List (List ℕ)
segments_end =
    codes "pool 4" ∷ codes "host 1 ns" ∷ codes "boot cokernel under 0 blocks 1" ∷ codes "settle 100" ∷ codes "proc 1 5 5"
    ∷ codes "alloc 1 1 16 1" ∷ codes "make 1 1 65536 4096 0600" ∷ codes "settle 10" ∷ codes "show names" ∷ codes "remove 1 1 1"
    ∷ codes "settle 10" ∷ []

abbrev pub segments_end_journal : List (List ℕ)
segments_end_journal =
    codes "do pool 4" ∷ codes "do host 1 ns" ∷ codes "born 0 host 0 ns 0" ∷ codes "admitted 0"
    ∷ codes "do boot cokernel under 0 blocks 1" ∷ codes "born 1 cokernel 0 - 1" ∷ codes "sent 1 0 query 1 65535 0"
    ∷ codes "do settle 100" ∷ codes "took 1 0 16" ∷ codes "got 1 0" ∷ codes "sent 0 1 here 0 65535 0" ∷ codes "took 0 1 16"
    ∷ codes "got 0 1" ∷ codes "way 1 0" ∷ codes "sent 1 0 register 1 65535 0" ∷ codes "took 1 0 16" ∷ codes "got 1 0"
    ∷ codes "back 0 1 1" ∷ codes "route 0 1 1" ∷ codes "sent 0 1 admit 0 1 0" ∷ codes "took 0 1 16" ∷ codes "got 0 1"
    ∷ codes "admitted 1" ∷ codes "settled 4" ∷ codes "do proc 1 5 5" ∷ codes "proc 1 1 5 5" ∷ codes "do alloc 1 1 16 1"
    ∷ codes "alloc 1 1 16 64" ∷ codes "do make 1 1 65536 4096 0600" ∷ codes "issue 1 1 1" ∷ codes "sent 1 0 namereq 1 65535 1"
    ∷ codes "do settle 10" ∷ codes "took 1 0 16" ∷ codes "got 1 0" ∷ codes "drew 1 1 1" ∷ codes "sent 0 1 named 0 1 1 1"
    ∷ codes "took 0 1 24" ∷ codes "got 0 1" ∷ codes "named 1 1 1" ∷ codes "answer 1 1 1 segid 1" ∷ codes "settled 2"
    ∷ codes "do show names" ∷ codes "name 1 1" ∷ codes "do remove 1 1 1" ∷ codes "remove 1 1" ∷ codes "sent 1 0 unname 1 65535 1 1"
    ∷ codes "do settle 10" ∷ codes "took 1 0 24" ∷ codes "got 1 0" ∷ codes "unnamed 1" ∷ codes "settled 1" ∷ []

-- processes of two enclaves; the one in that of the name server makes a segment, and is answered at once
abbrev pub script_front : List (List ℕ)
script_front =
    codes "pool 4" ∷ codes "host 1 ns" ∷ codes "boot cokernel under 0 blocks 1" ∷ codes "settle 100" ∷ codes "proc 0 10 20"
    ∷ codes "proc 1 11 20" ∷ codes "alloc 0 1 16 3" ∷ codes "make 0 1 65536 12288 0640" ∷ []

abbrev pub script_front_journal : List (List ℕ)
script_front_journal =
    codes "do pool 4" ∷ codes "do host 1 ns" ∷ codes "born 0 host 0 ns 0" ∷ codes "admitted 0"
    ∷ codes "do boot cokernel under 0 blocks 1" ∷ codes "born 1 cokernel 0 - 1" ∷ codes "sent 1 0 query 1 65535 0"
    ∷ codes "do settle 100" ∷ codes "took 1 0 16" ∷ codes "got 1 0" ∷ codes "sent 0 1 here 0 65535 0" ∷ codes "took 0 1 16"
    ∷ codes "got 0 1" ∷ codes "way 1 0" ∷ codes "sent 1 0 register 1 65535 0" ∷ codes "took 1 0 16" ∷ codes "got 1 0"
    ∷ codes "back 0 1 1" ∷ codes "route 0 1 1" ∷ codes "sent 0 1 admit 0 1 0" ∷ codes "took 0 1 16" ∷ codes "got 0 1"
    ∷ codes "admitted 1" ∷ codes "settled 4" ∷ codes "do proc 0 10 20" ∷ codes "proc 0 1 10 20" ∷ codes "do proc 1 11 20"
    ∷ codes "proc 1 1 11 20" ∷ codes "do alloc 0 1 16 3" ∷ codes "alloc 0 1 16 0 1 2" ∷ codes "do make 0 1 65536 12288 0640"
    ∷ codes "issue 0 1 1" ∷ codes "drew 0 1 1" ∷ codes "named 0 1 1" ∷ codes "answer 0 1 1 segid 1" ∷ []

-- the lines of its first commands, so many of them, and of some more
abbrev pub segments_then : ℕ → List Command → List Line
segments_then n more = onto (journal_of (take n (scenario_by is_built (text segments_end)).commands ++ more)) []

-- the place of the child's make behind them
abbrev pub make_then : ℕ → List Command → Place
make_then n more = place_of (cells (segments_then n more) 1 1)

-- the host gets the request
abbrev pub request_comes : List Command
request_comes = commands.Deliver (record { 0 = 1 }) host 16 ∷ []

-- conditions of makes and removes, alone and several at once, while the enclave isn't ready, while a make waits, and afterwards
abbrev pub refused_segments : List (List ℕ)
refused_segments =
    codes "pool 2" ∷ codes "host 1" ∷ codes "show names" ∷ codes "make 0 1 65536 4096 0600" ∷ codes "proc 0 1 1"
    ∷ codes "alloc 0 1 16 2" ∷ codes "make 0 1 65537 4096 0600" ∷ codes "remove 0 1 1" ∷ codes "make 1 1 65536 4096 0600"
    ∷ codes "remove 1 1 1" ∷ codes "boot cokernel under 0 blocks 1 ns" ∷ codes "show names" ∷ codes "settle 100"
    ∷ codes "make 0 2 65537 4096 0600" ∷ codes "remove 0 2 1" ∷ codes "make 0 1 65537 0 0600" ∷ codes "make 0 1 65536 0 0600"
    ∷ codes "make 0 1 0 16781312 0600" ∷ codes "make 0 1 0 12288 0600" ∷ codes "make 0 1 68719472640 8192 0600"
    ∷ codes "make 0 1 65536 12288 0600" ∷ codes "remove 0 1 1" ∷ codes "make 0 1 65536 8192 0600" ∷ codes "make 0 1 65537 4096 0600"
    ∷ codes "alloc 0 1 16777215 2" ∷ codes "alloc 0 1 18 1" ∷ codes "remove 0 1 1" ∷ codes "settle 100" ∷ codes "proc 0 1 1"
    ∷ codes "remove 0 2 1" ∷ codes "remove 0 2 2" ∷ codes "remove 0 1 1" ∷ codes "remove 0 1 1" ∷ []

abbrev pub refused_segments_journal : List (List ℕ)
refused_segments_journal =
    codes "do pool 2" ∷ codes "do host 1" ∷ codes "born 0 host 0 - 0" ∷ codes "do show names" ∷ codes "refused NotReady"
    ∷ codes "do make 0 1 65536 4096 0600" ∷ codes "refused NoProcess" ∷ codes "do proc 0 1 1" ∷ codes "proc 0 1 1 1"
    ∷ codes "do alloc 0 1 16 2" ∷ codes "alloc 0 1 16 0 1" ∷ codes "do make 0 1 65537 4096 0600" ∷ codes "refused NotReady"
    ∷ codes "do remove 0 1 1" ∷ codes "refused NotReady" ∷ codes "do make 1 1 65536 4096 0600" ∷ codes "refused NoEnclave"
    ∷ codes "do remove 1 1 1" ∷ codes "refused NoEnclave" ∷ codes "do boot cokernel under 0 blocks 1 ns"
    ∷ codes "born 1 cokernel 0 ns 1" ∷ codes "admitted 1" ∷ codes "sent 0 1 query 0 65535 0" ∷ codes "do show names"
    ∷ codes "do settle 100" ∷ codes "took 0 1 16" ∷ codes "got 0 1" ∷ codes "sent 1 0 here 1 65535 0" ∷ codes "took 1 0 16"
    ∷ codes "got 1 0" ∷ codes "way 0 1" ∷ codes "sent 0 1 register 0 65535 0" ∷ codes "took 0 1 16" ∷ codes "got 0 1"
    ∷ codes "back 1 0 0" ∷ codes "route 1 0 0" ∷ codes "sent 1 0 admit 1 0 0" ∷ codes "took 1 0 16" ∷ codes "got 1 0"
    ∷ codes "admitted 0" ∷ codes "settled 4" ∷ codes "do make 0 2 65537 4096 0600" ∷ codes "refused NoProcess"
    ∷ codes "do remove 0 2 1" ∷ codes "refused NoProcess" ∷ codes "do make 0 1 65537 0 0600" ∷ codes "refused BadAlign"
    ∷ codes "do make 0 1 65536 0 0600" ∷ codes "refused BadRange" ∷ codes "do make 0 1 0 16781312 0600" ∷ codes "refused TooLarge"
    ∷ codes "do make 0 1 0 12288 0600" ∷ codes "refused BadRange" ∷ codes "do make 0 1 68719472640 8192 0600"
    ∷ codes "refused BadRange" ∷ codes "do make 0 1 65536 12288 0600" ∷ codes "refused NotMapped" ∷ codes "do remove 0 1 1"
    ∷ codes "refused NoSegment" ∷ codes "do make 0 1 65536 8192 0600" ∷ codes "issue 0 1 1" ∷ codes "sent 0 1 namereq 0 65535 1"
    ∷ codes "do make 0 1 65537 4096 0600" ∷ codes "refused Busy" ∷ codes "do alloc 0 1 16777215 2" ∷ codes "refused Busy"
    ∷ codes "do alloc 0 1 18 1" ∷ codes "refused Busy" ∷ codes "do remove 0 1 1" ∷ codes "refused Busy" ∷ codes "do settle 100"
    ∷ codes "took 0 1 16" ∷ codes "got 0 1" ∷ codes "drew 0 1 1" ∷ codes "sent 1 0 named 1 0 1 1" ∷ codes "took 1 0 24"
    ∷ codes "got 1 0" ∷ codes "named 0 1 1" ∷ codes "answer 0 1 1 segid 1" ∷ codes "settled 2" ∷ codes "do proc 0 1 1"
    ∷ codes "proc 0 2 1 1" ∷ codes "do remove 0 2 1" ∷ codes "refused NotOwner" ∷ codes "do remove 0 2 2"
    ∷ codes "refused NoSegment" ∷ codes "do remove 0 1 1" ∷ codes "remove 0 1" ∷ codes "sent 0 1 unname 0 65535 1 1"
    ∷ codes "do remove 0 1 1" ∷ codes "refused NoSegment" ∷ []

-- the facts after the journal of so many boots under the host, which holds the name server, and so many processes of it
abbrev pub crowd : ℕ → ℕ → Facts
crowd boots starts =
    facts_after (journal_of (commands.Pool 300 ∷ commands.Host 1 true
    ∷ map (λ e. commands.Boot kinds.Cokernel host 1 false) (range_with_len 0 boots)
    ++ map (λ p. commands.Proc host 1 1) (range_with_len 0 starts)))

-- a boot under that enclave
abbrev pub boot_under : ℕ → ℕ → Bool → Command
boot_under parent blocks ns = commands.Boot kinds.Cokernel (record { 0 = parent }) blocks ns

abbrev pub start_at : ℕ → Command
start_at e = commands.Proc (record { 0 = e }) 1 1

-- two good lines
abbrev pub two_lines : List (List ℕ)
two_lines = codes "pool 2" ∷ codes "host 1 ns" ∷ []

abbrev pub two_lines_journal : List (List ℕ)
two_lines_journal = codes "do pool 2" ∷ codes "do host 1 ns" ∷ codes "born 0 host 0 ns 0" ∷ codes "admitted 0" ∷ []
