-- The lines of names that are told one by one.
use Rattle.std.proofs.Common.{◌≡◌, ◌+◌, ◌++◌, ℕ, List, [], ◌∷◌, Some, sym, ap, ◌∙◌, append_assoc}
use Rattle.xm_num.specs.declared.Enclave.{Enclave}
use Rattle.xm_num.specs.Rows.{at, next_from, IsAscending}
use Rattle.xemem_language.specs.declared.line.Line.{Line}
use Rattle.xemem_language.specs.declared.line.Line.TheVariants as lines
use Rattle.enclave_rules.specs.Names.{segid_of}
use Rattle.enclave_rules.specs.Segments.{name_rows}
use Rattle.enclave_node.proofs.RowLemmas.{rows_from, first_of_rows}

-- the next of the names was told
pub name_told : (pairs : List (ℕ × Enclave)) (from number : ℕ) (owner : Enclave) (out new all : List Line) → IsAscending pairs → Some number ≡ next_from pairs from → at pairs number ≡ Some owner
    → new ≡ out ++ lines.Name (segid_of number) owner ∷ [] → out ++ name_rows (rows_from from pairs) ≡ all → new ++ name_rows (rows_from (number + 1) pairs) ≡ all
name_told pairs from number owner out new all ascends next found more told =
    let one = lines.Name (segid_of number) owner ∷ [] in
    let rest = name_rows (rows_from (number + 1) pairs) in
    ap (λ ls. ls ++ rest) more ∙ append_assoc out one rest
    ∙ ap (λ rows. out ++ name_rows rows) (sym (first_of_rows pairs from number owner ascends next found)) ∙ told
