-- The grants of an enclave's segments: the gets, of other enclaves and of its own, to which it has granted one.
use Rattle.holder_table.specs.Holding.{Holding, with_held, without_held}
use Rattle.xemem_language.specs.declared.line.Line.{Line}
use Rattle.xemem_language.specs.declared.line.Line.TheVariants as lines

-- by the enclaves that have them and the numbers of their gets; a grant says of which segment it is, and nothing else
abbrev pub Grants : Type 0
Grants = Holding (Unit {0})

-- what a line at the enclave changes of them
abbrev pub grants_line : Grants → Line → Grants
grants_line grants (lines.Grant owner e call segid access) = with_held grants e.0 call.0 (record { segid = segid; value = tt })
grants_line grants (lines.Ungrant owner e call) = without_held grants e.0 call.0
grants_line grants line = grants
