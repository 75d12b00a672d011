-- What an enclave knows of ways.
use Rattle.std.specs.Prelude.{◌+◌, ℕ, List, [], ◌==◌, if◌then◌else◌, Option, None, Some}
use Rattle.xm_num.specs.declared.Enclave.{Enclave}
use Rattle.xm_num.specs.Rows.{less, put}
use Rattle.xemem_language.specs.declared.line.Line.{Line}
use Rattle.xemem_language.specs.declared.line.Line.TheVariants as lines

-- The neighbour over which its way to the name server goes; those that asked it for the way, in their order; and those over which
-- it answers other enclaves, and over which these lie, by their numbers.
pub record WaysView : Type 0 where
  pub way : Option Enclave
  pub askers : List (ℕ × Enclave)
  pub backs : List (ℕ × Enclave)
  pub routes : List (ℕ × Enclave)

abbrev pub no_ways : WaysView
no_ways = record { way = None; askers = []; backs = []; routes = [] }

-- the place of a neighbour in the order of an enclave's neighbours: its parent, then its children by their numbers
abbrev pub place_among : Enclave → Enclave → ℕ
place_among parent x = if x.0 == parent.0 then 0 else x.0 + 1

-- what a line at an enclave with this parent changes of it
abbrev pub ways_line : Enclave → WaysView → Line → WaysView
ways_line parent w (lines.Asked e by) = record w { askers = put w.askers (place_among parent by) by }
ways_line parent w (lines.Way e over) = record w { way = Some over; askers = [] }
ways_line parent w (lines.Back e of over) = record w { backs = put w.backs of.0 over }
ways_line parent w (lines.Route e of over) = record w { routes = put w.routes of.0 over }
ways_line parent w (lines.Heard e dead) = record w { backs = less w.backs dead.0; routes = less w.routes dead.0 }
ways_line parent w line = w
