-- A property of each line of a list: of lists that are put together, and of those that an enclave writes.
use Rattle.std.proofs.Common.{ℕ, List, [], ◌∷◌, ◌++◌, Bool, true, false, cond, eqb, Option, None, Some}
use Rattle.std.specs.List.{AllByRecursion}
use Rattle.std.specs.Option.{option_map_or}
use Rattle.xm_num.specs.declared.Enclave.{Enclave}
use Rattle.xemem_language.specs.declared.record.Record.{Record}
use Rattle.xemem_language.specs.declared.line.Line.{Line}
use Rattle.xemem_language.specs.declared.line.Line.TheVariants as lines
use Rattle.enclave_rules.specs.View.{View}
use Rattle.enclave_rules.specs.Sending.{drop_lines, knows_way, over_lines}
use Rattle.enclave_rules.specs.Steps.{adopt_lines, child_lines, here_of, query_of, told_askers, told_lines}

module _ (P : Line → Type 0) where
  pub each-append : (ls ms : List Line) → AllByRecursion P ls → AllByRecursion P ms → AllByRecursion P (ls ++ ms)
  each-append [] ms first more = more
  each-append (l ∷ ls) ms first more = (first.0, each-append ls ms first.1 more)

  pub each_either : (t : Bool) (ls ms : List Line) → AllByRecursion P ls → AllByRecursion P ms → AllByRecursion P (cond t ls ms)
  each_either true ls ms left right = left
  each_either false ls ms left right = right

  -- a record is sent, or dropped
  pub each_over : (v : View) (came over : Option Enclave) (r : Record) → P (lines.Dropped v.me) → ((x : Enclave) → P (lines.Sent v.me x r))
      → AllByRecursion P (over_lines v came over r)
  each_over v came None r dropped sent = (dropped, tt)
  each_over v came (Some over) r dropped sent =
      each_either (option_map_or (λ from. eqb over.0 from.0) came false) (drop_lines v) (lines.Sent v.me over r ∷ []) (dropped, tt) (sent over, tt)

  -- those that asked for the way are told it
  pub each_told : (v : View) (askers : List (ℕ × Enclave)) → ((x : Enclave) → P (lines.Sent v.me x (here_of v.me))) → AllByRecursion P (told_askers v askers)
  each_told v [] sent = tt
  each_told v (row ∷ askers) sent = (sent row.1, each_told v askers sent)

  each_dead : (child : Enclave) (heard : List Enclave) → ((d : Enclave) → P (lines.Told child d)) → AllByRecursion P (told_lines child heard)
  each_dead child [] told = tt
  each_dead child (d ∷ heard) told = (told d, each_dead child heard told)

  -- a parent that knows no way asks its new child
  pub each_adopt : (v : View) (child : Enclave) → P (lines.Sent v.me child (query_of v.me)) → AllByRecursion P (adopt_lines v child)
  each_adopt v child sent = each_either (knows_way v) [] (lines.Sent v.me child (query_of v.me) ∷ []) tt (sent, tt)

  -- what follows a birth
  pub each_birth : (child parent : Enclave) (ns : Bool) (heard : List Enclave) (v : View) → ((d : Enclave) → P (lines.Told child d))
      → P (lines.Admitted child) → ((x y : Enclave) → P (lines.Sent x y (query_of x)))
      → AllByRecursion P ((told_lines child heard ++ child_lines child parent ns) ++ adopt_lines v child)
  each_birth child parent ns heard v told admitted sent =
      each-append (told_lines child heard ++ child_lines child parent ns) (adopt_lines v child)
      (each-append (told_lines child heard) (child_lines child parent ns) (each_dead child heard told)
      (each_either ns (lines.Admitted child ∷ []) (lines.Sent child parent (query_of child) ∷ []) (admitted, tt) (sent child parent, tt)))
      (each_adopt v child (sent v.me child))

pub each-weaker : (P Q : Line → Type 0) → ((line : Line) → P line → Q line) → (ls : List Line) → AllByRecursion P ls → AllByRecursion Q ls
each-weaker P Q weaker [] all = tt
each-weaker P Q weaker (l ∷ ls) all = (weaker l all.0, each-weaker P Q weaker ls all.1)
