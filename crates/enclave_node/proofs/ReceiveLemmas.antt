-- Records that are taken one after the other.
use Rattle.std.proofs.Common.{◌≡◌, List, [], ◌∷◌, ◌++◌, drop, Some, sym, ap, ◌∙◌, append_assoc}
use Rattle.std.specs.Prelude.{slice_get}
use Rattle.xm_num.specs.declared.Enclave.{Enclave}
use Rattle.xemem_language.specs.declared.record.Record.{Record}
use Rattle.xemem_wire.specs.Decoding.{Decoding}
use Rattle.xemem_language.specs.declared.line.Line.{Line}
use Rattle.enclave_rules.specs.View.{View}
use Rattle.enclave_rules.specs.Steps.{handled_lines, after_record, lines_of_records, after_records}

pub first_is : (rs : List Record) (r : Record) → Some r ≡ slice_get rs 0 → rs ≡ r ∷ drop 1 rs
first_is [] r is = cc
first_is (x ∷ rs) r is = let same : x ≡ r = cc in ap (λ y. y ∷ rs) same

-- what a decoder has once all whole records are given
abbrev pub given : Decoding → Decoding
given d = record d { records = [] }

-- what it has once the first one is given
pub record HasGiven (d e : Decoding) : Type 0 where
  pub later : e.records ≡ drop 1 d.records
  pub rest : given e ≡ given d

pub has_given : (d e : Decoding) → e ≡ record d { records = drop 1 d.records } → HasGiven d e
has_given d e is = record { later = ap (λ x. x.records) is; rest = ap given is }

-- the lines go on after the first record
pub more_lines : (v w : View) (from : Enclave) (r : Record) (all rs : List Record) (out new end : List Line)
    → all ≡ r ∷ drop 1 all → rs ≡ drop 1 all → w ≡ after_record v from r → new ≡ out ++ handled_lines v from r
    → out ++ lines_of_records v from all ≡ end → new ++ lines_of_records w from rs ≡ end
more_lines v w from r all rs out new end first rest view is so_far =
    let later = lines_of_records (after_record v from r) from (drop 1 all) in
    let whole : out ++ lines_of_records v from all ≡ out ++ (handled_lines v from r ++ later) = ap (λ xs. out ++ lines_of_records v from xs) first in
    rw (is, rest, view) (append_assoc out (handled_lines v from r) later ∙ sym whole ∙ so_far)

-- and so does the view
pub more_view : (v w : View) (from : Enclave) (r : Record) (all rs : List Record)
    → all ≡ r ∷ drop 1 all → rs ≡ drop 1 all → w ≡ after_record v from r → after_records w from rs ≡ after_records v from all
more_view v w from r all rs first rest view =
    let whole : after_records v from all ≡ after_records (after_record v from r) from (drop 1 all) = ap (after_records v from) first in
    rw (rest, view) (sym whole)
