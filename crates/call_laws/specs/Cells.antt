-- The facts of a make in one cell. A past has its newest line first.
use Rattle.std.specs.Prelude.{◌==◌, ◌&&◌, ℕ, List, [], ◌∷◌, length, filter, Bool, true, false, if◌then◌else◌, Option, None, Some}
use Rattle.std.specs.List.{list_any}
use Rattle.std.specs.Option.{option_map_or}
use Rattle.xemem_language.specs.declared.call.Call.{Call}
use Rattle.xemem_language.specs.declared.call.Call.TheVariants as calls
use Rattle.xemem_language.specs.declared.line.Line.{Line}
use Rattle.xemem_language.specs.declared.line.Line.TheVariants as lines
use Rattle.enclave_rules.specs.Exports.{segid_number}
use Rattle.enclave_rules.specs.Hand.{Hand, Nothing, Calls, Reads}
use Rattle.global_model.specs.Facts.{facts_at}

-- The process that issued the make; whether it was issued, and whether it waits; whether its segment is live at its enclave (near), and
-- whether the name server has its pair (far); and the segid that was drawn for it. A call that is no make has the cell of none.
pub record CallCell : Type 0 where
  pub process : ℕ
  pub issued : Bool
  pub waits : Bool
  pub near : Bool
  pub far : Bool
  pub drew : Option ℕ

abbrev pub no_call : CallCell
no_call = record { process = 0; issued = false; waits = false; near = false; far = false; drew = None }

abbrev pub is_cell : ℕ → ℕ → ℕ → ℕ → Bool
is_cell e k of call = (e == of) && (call == k)

-- that segid was drawn for the call
abbrev pub has_drawn : ℕ → CallCell → Bool
has_drawn s c = option_map_or (λ own. own == s) c.drew false

abbrev pub as_issued : ℕ → CallCell → CallCell
as_issued p c = record c { process = p; issued = true; waits = true }

abbrev pub as_drawn : ℕ → CallCell → CallCell
as_drawn s c = record c { far = true; drew = Some s }

abbrev pub as_near : Bool → CallCell → CallCell
as_near near c = record c { near = near }

abbrev pub as_answered : CallCell → CallCell
as_answered c = record c { waits = false }

abbrev pub as_forgotten : CallCell → CallCell
as_forgotten c = record c { far = false }

abbrev pub is_making : Call → Bool
is_making (calls.Make addr size mode) = true
is_making (calls.Alloc at n) = false
is_making (calls.Remove segid) = false

-- the call at hand is a make
abbrev pub makes : Hand → Bool
makes (Calls asked) = is_making asked.call
makes Nothing = false
makes (Reads rec) = false

-- What a line changes of the cell of that call of the enclave: a function of its own old value. What is issued counts where it is a make.
abbrev pub cell_line : Bool → Line → ℕ → ℕ → CallCell → CallCell
cell_line made (lines.Issue of p call) e k c = if made && is_cell e k of.0 call.0 then as_issued p.0 c else c
cell_line made (lines.Drew of call segid) e k c = if is_cell e k of.0 call.0 then as_drawn (segid_number segid) c else c
cell_line made (lines.Named of call segid) e k c = if is_cell e k of.0 call.0 then as_near true c else c
cell_line made (lines.AnswerSegid of p call segid) e k c = if is_cell e k of.0 call.0 then as_answered c else c
cell_line made (lines.Remove of segid) e k c = if (e == of.0) && has_drawn (segid_number segid) c then as_near false c else c
cell_line made (lines.Unnamed segid) e k c = if has_drawn (segid_number segid) c then as_forgotten c else c
cell_line made line e k c = c

-- the cell of that call of the enclave after a past
abbrev pub cells : List Line → ℕ → ℕ → CallCell
cells [] e k = no_call
cells (line ∷ past) e k = cell_line (makes (facts_at past).hand) line e k (cells past e k)

-- the line issues that call of the enclave
abbrev pub issues : ℕ → ℕ → Line → Bool
issues e k (lines.Issue of p call) = is_cell e k of.0 call.0
issues e k line = false

-- that call of the enclave was issued, a make or another
abbrev pub issued_in : List Line → ℕ → ℕ → Bool
issued_in past e k = list_any (issues e k) past

abbrev pub is_drawing : Line → Bool
is_drawing (lines.Drew e call segid) = true
is_drawing line = false

-- how many segids were drawn
abbrev pub drawn_in : List Line → ℕ
drawn_in past = length (filter is_drawing past)
