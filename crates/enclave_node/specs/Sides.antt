-- Neighbours by their side, and by their numbers.
use Rattle.std.specs.Prelude.{ℕ, List, [], ◌∷◌, map, ◌==◌, if◌then◌else◌, Option, None, Some}
use Rattle.xm_num.specs.declared.Enclave.{Enclave}
use Rattle.xm_num.specs.declared.Neighbour.{Neighbour}
use Rattle.xm_num.specs.declared.Neighbour.TheVariants as neighbours
use Rattle.xm_num.specs.Rows.{put, less}
use Rattle.xemem_language.specs.declared.line.Line.{Line}
use Rattle.xemem_language.specs.declared.line.Line.TheVariants as lines
use Rattle.enclave_rules.specs.Ways.{place_among}
use Rattle.enclave_rules.specs.View.{View}
use Rattle.enclave_rules.specs.Sending.{drop_lines}
use Rattle.enclave_rules.specs.Steps.{admit_of}

-- the number of a neighbour of an enclave with this parent
abbrev pub enclave_of : Enclave → Neighbour → Enclave
enclave_of parent neighbours.Up = parent
enclave_of parent (neighbours.Down child) = child

-- on which side of an enclave with this parent the neighbour of that number is
abbrev pub side_of : Enclave → Enclave → Neighbour
side_of parent x = if x.0 == parent.0 then neighbours.Up else neighbours.Down x

-- rows of neighbours, by their numbers
abbrev pub rows_by_number : Enclave → List (ℕ × Neighbour) → List (ℕ × Enclave)
rows_by_number parent rows = map (λ row. (row.0, enclave_of parent row.1)) rows

-- the way goes over the neighbour, which needn't be told
abbrev pub with_way_over : View → Enclave → View
with_way_over v from = record v { ways = record v.ways { way = Some from; askers = less v.ways.askers (place_among v.core.parent from) } }

-- the enclave lies over the neighbour, where there is one
abbrev pub with_route_over : View → Enclave → Option Enclave → View
with_route_over v of None = v
with_route_over v of (Some over) = record v { ways = record v.ways { routes = put v.ways.routes of.0 over } }

-- the holder of the name server learns a route and admits over it
abbrev pub admitting_lines : View → Enclave → Enclave → List Line
admitting_lines v from origin = lines.Route v.me origin from ∷ lines.Sent v.me from (admit_of v.me origin) ∷ []

-- an admit for the enclave itself makes it ready once
abbrev pub ready_lines : View → List Line
ready_lines v = if v.core.admitted then drop_lines v else lines.Admitted v.me ∷ []

-- the lines of learned routes
abbrev pub learned_lines : Enclave → List (ℕ × Enclave) → List Line
learned_lines me rows = map (λ row. lines.AtRoute me (record { 0 = row.0 }) row.1) rows
