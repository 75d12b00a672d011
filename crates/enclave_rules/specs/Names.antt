-- The names at the name server's enclave.
use Rattle.std.specs.Prelude.{◌+◌, ◌^◌, ℕ, Bool, nat_lt, pos}
use Rattle.xm_num.specs.declared.Segid.{Segid}
use Rattle.xm_num.specs.Rows.{put}
use Rattle.xemem_language.specs.declared.line.Line.{Line}
use Rattle.xemem_language.specs.declared.line.Line.TheVariants as lines
use Rattle.name_server.specs.Names.{NamesState, without_name}
use Rattle.enclave_rules.specs.Exports.{segid_number}

abbrev pub segid_of : ℕ → Segid
segid_of number = record { 0 = pos number }

-- the segid that is drawn next
abbrev pub next_segid : NamesState → Segid
next_segid n = segid_of (n.drawn + 1)

-- one is left to be drawn
abbrev pub can_draw : NamesState → Bool
can_draw n = nat_lt n.drawn (2 ^ 32)

-- what a line at the name server's enclave changes of them
abbrev pub names_line : NamesState → Line → NamesState
names_line n (lines.Drew e call segid) = record { drawn = n.drawn + 1; pairs = put n.pairs (segid_number segid) e }
names_line n (lines.Unnamed segid) = without_name (segid_number segid) n
names_line n line = n
