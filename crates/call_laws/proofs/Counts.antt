-- A short journal has room: each line draws one segid and issues one call at most.
use Rattle.std.proofs.Common.{◌≡◌, ◌+◌, ◌≤◌, ◌<◌, ◌^◌, ℕ, List, [], ◌∷◌, map, length, Bool, true, false, cond, eqb, Option, None, Some, refl, sym, subst, arith}
use Rattle.std.specs.Option.{option_map_or}
use Rattle.std.proofs.lemmas.Bool.{eqb-true}
use Rattle.xm_num.specs.Rows.{at, put}
use Rattle.xemem_language.specs.declared.line.Line.{Line}
use Rattle.xemem_language.specs.declared.line.Line.TheVariants as lines
use Rattle.attach_map.specs.Attaching.{AttacherState, ProcessState}
use Rattle.enclave_rules.specs.Core.{local_frame}
use Rattle.enclave_rules.specs.Memory.{with_answered, with_granted, with_released, with_issued, with_pages, with_process}
use Rattle.global_model.specs.Facts.{at_number, fact_of, facts_at}
use Rattle.global_model.specs.Journals.{onto}
use Rattle.call_laws.specs.Cells.{drawn_in}
use Rattle.call_laws.specs.Places.{HasRoom}

drawn_few : (past : List Line) → drawn_in past ≤ length past
drawn_few [] = omega arith
drawn_few (lines.Drew e call segid ∷ past) = let few = drawn_few past in omega (arith, few)
drawn_few (_ ∷ past) = let few = drawn_few past in omega (arith, few)

at_most : (e of : ℕ) (m : AttacherState) (f : ℕ → AttacherState) → m.issued ≤ (f of).issued + 1 → (at_number of m f e).issued ≤ (f e).issued + 1
at_most e of m f most = by (eqb e of) refl
  where
    by : (t : Bool) → eqb e of ≡ t → (cond t m (f e)).issued ≤ (f e).issued + 1
    by true is = subst (λ n. m.issued ≤ (f n).issued + 1) (sym (eqb-true e of is)) most
    by false is = omega arith

paged_most : (m : AttacherState) (p : ℕ) (change : ProcessState → ProcessState) → (with_process p change m).issued ≤ m.issued + 1
paged_most m p change = by (at m.processes p)
  where
    by : (found : Option ProcessState) → (option_map_or (λ process. record m { processes = put m.processes p (change process) }) found m).issued ≤ m.issued + 1
    by None = omega arith
    by (Some process) = omega arith

one_issued : (past : List Line) (line : Line) (e : ℕ) → ((facts_at (line ∷ past)).memory e).issued ≤ ((facts_at past).memory e).issued + 1
one_issued past (lines.Proc of p uid gid) e = at_most e of.0 _ (facts_at past).memory (omega arith)
one_issued past (lines.Alloc of p page frames) e =
    at_most e of.0 _ (facts_at past).memory (paged_most ((facts_at past).memory of.0) p.0
    (with_pages page.0 (map (local_frame (fact_of ((facts_at past).enclave of.0)).kind (fact_of ((facts_at past).enclave of.0)).blocks) frames)))
one_issued past (lines.Issue of p call) e = at_most e of.0 (with_issued p call ((facts_at past).memory of.0)) (facts_at past).memory (omega arith)
one_issued past (lines.AnswerSegid of p call segid) e = at_most e of.0 (with_answered call ((facts_at past).memory of.0)) (facts_at past).memory (omega arith)
one_issued past (lines.AnswerApid of p call apid pages) e = at_most e of.0 (with_granted call pages ((facts_at past).memory of.0)) (facts_at past).memory (omega arith)
one_issued past (lines.AnswerRefused of p call cause) e = at_most e of.0 (with_answered call ((facts_at past).memory of.0)) (facts_at past).memory (omega arith)
one_issued past (lines.Release of call) e = at_most e of.0 (with_released call ((facts_at past).memory of.0)) (facts_at past).memory (omega arith)
one_issued past _ e = omega arith

issued_few : (past : List Line) (e : ℕ) → ((facts_at past).memory e).issued ≤ length past
issued_few [] e = omega arith
issued_few (line ∷ past) e = let one = one_issued past line e in let few = issued_few past e in omega (arith, one, few)

length_onto : (ls past : List Line) → length (onto ls past) ≡ length ls + length past
length_onto [] past = omega arith
length_onto (l ∷ ls) past = let more = length_onto ls (l ∷ past) in omega (arith, more)

pub short_room : (journal : List Line) → length journal < 2 ^ 32 → HasRoom (onto journal [])
short_room journal short =
    let all = length_onto journal [] in record {
      segids = let few = drawn_few (onto journal []) in omega (arith, few, all, short);
      calls = λ e. let few = issued_few (onto journal []) e in omega (arith, few, all, short);
    }
