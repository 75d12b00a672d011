-- Sending: over which neighbour a record goes, and what is written for it.
use Rattle.std.specs.Prelude.{List, [], ◌∷◌, Bool, ◌==◌, ◌||◌, false, if◌then◌else◌, Option, None, Some, is_some}
use Rattle.std.specs.Option.{option_map_or}
use Rattle.xm_num.specs.declared.Enclave.{Enclave}
use Rattle.xm_num.specs.Rows.{at}
use Rattle.xemem_language.specs.declared.record.Record.{Record}
use Rattle.xemem_wire.specs.Spelling.{is_valid}
use Rattle.xemem_language.specs.declared.line.Line.{Line}
use Rattle.xemem_language.specs.declared.line.Line.TheVariants as lines
use Rattle.enclave_rules.specs.View.{View}

-- where a record is to go: to a neighbour, toward the name server, or to an enclave
pub data Goal : Type 0 where
  Next : (neighbour : Enclave) → Goal
  Server : Goal
  To : (enclave : Enclave) → Goal

abbrev pub knows_way : View → Bool
knows_way v = v.core.holder || is_some v.ways.way

abbrev pub toward_server : View → Option Enclave
toward_server v = if v.core.holder then None else v.ways.way

-- a learned route serves before the way toward the name server
abbrev pub route_or : Option Enclave → Option Enclave → Option Enclave
route_or None way = way
route_or (Some over) way = Some over

-- the neighbour over which the way goes; the holder of the name server has no way to it
abbrev pub way_to : View → Goal → Option Enclave
way_to v (Next neighbour) = Some neighbour
way_to v Server = toward_server v
way_to v (To enclave) = route_or (at v.ways.routes enclave.0) (toward_server v)

abbrev pub drop_lines : View → List Line
drop_lines v = lines.Dropped v.me ∷ []

-- The first rule that fits decides: without a way the record is dropped; one that is passed on is dropped where it would go back
-- over the neighbour from which it came; else it is sent. What the enclave makes itself came from none.
abbrev pub over_lines : View → Option Enclave → Option Enclave → Record → List Line
over_lines v came None r = drop_lines v
over_lines v came (Some over) r =
    if option_map_or (λ from. over.0 == from.0) came false then drop_lines v else lines.Sent v.me over r ∷ []

-- what is written to send a record that came from there
abbrev pub send_lines : View → Option Enclave → Goal → Record → List Line
send_lines v came goal r = over_lines v came (way_to v goal) r

-- What the enclave makes itself for a call is sent where each number fits its field. The numbers of calls and segids fit in any
-- journal that can be written, so nothing is ever dropped for that.
abbrev pub made_lines : View → Goal → Record → List Line
made_lines v goal r = if is_valid r then send_lines v None goal r else drop_lines v
