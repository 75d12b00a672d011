-- So far each call that waits is a make.
use Rattle.std.proofs.Common.{◌≡◌, ℕ, List, [], ◌∷◌, Bool, true, false, cond, eqb, Option, None, Some, sym, ap, ◌∙◌}
use Rattle.std.specs.Option.{option_map_or}
use Rattle.xm_num.specs.Rows.{at, less, put, IsAscending}
use Rattle.xm_num.specs.RowLaws.{RowLaws}
use Rattle.xemem_language.specs.declared.line.Line.{Line}
use Rattle.xemem_language.specs.declared.line.Line.TheVariants as lines
use Rattle.attach_map.specs.declared.Pending.TheVariants as pendings
use Rattle.attach_map.specs.declared.Waiting.{Waiting}
use Rattle.attach_map.specs.Attaching.{AttacherState, ProcessState}
use Rattle.enclave_rules.specs.Memory.{with_process, with_released}
use Rattle.enclave_rules.specs.Segments.{is_make}
use Rattle.global_model.specs.Facts.{at_number, facts_at}
use Rattle.call_laws.proofs.Rows.{no_rows}

pub record AreMakes (rows : List (ℕ × Waiting)) : Type 0 where
  pub ascends : IsAscending rows
  pub makes : (k : ℕ) (w : Waiting) → at rows k ≡ Some w → is_make w.what ≡ true

at_one : (of e : ℕ) (m : AttacherState) (f : ℕ → AttacherState) → AreMakes m.waiting → AreMakes (f e).waiting → AreMakes (at_number of m f e).waiting
at_one of e m f here there = by (eqb e of)
  where
    by : (t : Bool) → AreMakes (cond t m (f e)).waiting
    by true = here
    by false = there

same_calls : (m : AttacherState) (p : ℕ) (change : ProcessState → ProcessState) → AreMakes m.waiting → AreMakes (with_process p change m).waiting
same_calls m p change old = by (at m.processes p)
  where
    by : (found : Option ProcessState) → AreMakes (option_map_or (λ process. record m { processes = put m.processes p (change process) }) found m).waiting
    by None = old
    by (Some process) = old

fewer_calls : RowLaws Waiting → (calls : List (ℕ × Waiting)) (call : ℕ) → AreMakes calls → AreMakes (less calls call)
fewer_calls rows calls call old = record {
  ascends = rows.less_ascends calls call old.ascends;
  makes = λ k v found. by k v (eqb call k) (sym (rows.less_at calls call k old.ascends) ∙ found);
}
  where
    by : (k : ℕ) (v : Waiting) (t : Bool) → cond t None (at calls k) ≡ Some v → is_make v.what ≡ true
    by k v true found = cc
    by k v false found = old.makes k v found

make_line : RowLaws Waiting → (past : List Line) (line : Line) → ((e : ℕ) → AreMakes ((facts_at past).memory e).waiting) → (e : ℕ)
    → AreMakes ((facts_at (line ∷ past)).memory e).waiting
make_line rows past (lines.Proc of p uid gid) old e = at_one of.0 e _ (facts_at past).memory (old of.0) (old e)
make_line rows past (lines.Alloc of p page frames) old e = at_one of.0 e _ (facts_at past).memory (same_calls ((facts_at past).memory of.0) p.0 _ (old of.0)) (old e)
make_line rows past (lines.Issue of p call) old e =
    at_one of.0 e _ (facts_at past).memory
    (record {
      ascends = rows.put_ascends m.waiting call.0 w (old of.0).ascends;
      makes = λ k v found. by k v (eqb call.0 k) (sym (rows.put_at m.waiting call.0 k w) ∙ found);
    }) (old e)
  where
    m : AttacherState
    m = (facts_at past).memory of.0

    w : Waiting
    w = record { call = call; pid = p; living = true; what = pendings.Make }

    by : (k : ℕ) (v : Waiting) (t : Bool) → cond t (Some w) (at m.waiting k) ≡ Some v → is_make v.what ≡ true
    by k v true found = let same : w ≡ v = cc in ap (λ w. is_make w.what) (sym same)
    by k v false found = (old of.0).makes k v found
make_line rows past (lines.AnswerSegid of p call segid) old e = at_one of.0 e _ (facts_at past).memory (fewer_calls rows ((facts_at past).memory of.0).waiting call.0 (old of.0)) (old e)
make_line rows past (lines.AnswerApid of p call apid pages) old e = at_one of.0 e _ (facts_at past).memory (fewer_calls rows ((facts_at past).memory of.0).waiting call.0 (old of.0)) (old e)
make_line rows past (lines.AnswerRefused of p call cause) old e = at_one of.0 e _ (facts_at past).memory (fewer_calls rows ((facts_at past).memory of.0).waiting call.0 (old of.0)) (old e)
make_line rows past (lines.Release of call) old e = at_one of.0 e (with_released call ((facts_at past).memory of.0)) (facts_at past).memory (old of.0) (old e)
make_line rows past _ old e = old e

pub all_makes : RowLaws Waiting → (past : List Line) (e : ℕ) → AreMakes ((facts_at past).memory e).waiting
all_makes rows [] e = record { ascends = no_rows Waiting; makes = λ k w found. absurd (let none = rows.none k in let clash : None ≡ Some w = sym none ∙ found in cc) }
all_makes rows (line ∷ past) e = make_line rows past line (all_makes rows past) e
