-- What a node writes of names, in parts.
use Rattle.std.specs.Prelude.{ℕ, List, if◌then◌else◌, Option, None}
use Rattle.xm_num.specs.declared.Enclave.{Enclave}
use Rattle.xm_num.specs.declared.Segid.{Segid}
use Rattle.xemem_language.specs.declared.record.Record.{Record}
use Rattle.xemem_language.specs.declared.line.Line.{Line}
use Rattle.xemem_wire.specs.Spelling.{is_valid}
use Rattle.enclave_rules.specs.View.{View}
use Rattle.enclave_rules.specs.Sending.{Server, drop_lines, over_lines, made_lines}
use Rattle.enclave_rules.specs.Segments.{unname_lines, unname_record}

-- what is written to send a record that the enclave makes for a call over that neighbour
abbrev pub made_over : View → Option Enclave → Record → List Line
made_over v over r = if is_valid r then over_lines v None over r else drop_lines v

-- what is written of a segment that is no more
abbrev pub removed_lines : View → ℕ → Segid → List Line
removed_lines v call segid = if v.core.holder then unname_lines v v.me segid else made_lines v Server (unname_record v.me call segid)
