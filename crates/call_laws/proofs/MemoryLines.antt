-- The makes that wait at an enclave are those whose cells wait.
use Rattle.std.proofs.Common.{◌≡◌, ◌+◌, ℕ, List, ◌∷◌, map, Bool, true, false, cond, ◌&&◌, eqb, Option, None, Some, is_some, refl, sym, ap, ◌∙◌, subst}
use Rattle.std.specs.Option.{option_map_or}
use Rattle.std.proofs.lemmas.Bool.{eqb-true}
use Rattle.xm_num.specs.declared.CallNo.{CallNo}
use Rattle.xm_num.specs.declared.Frame.{Frame}
use Rattle.xm_num.specs.declared.Pid.{Pid}
use Rattle.xm_num.specs.Rows.{at, put, IsAscending}
use Rattle.xm_num.specs.RowLaws.{RowLaws}
use Rattle.xemem_language.specs.declared.line.Line.{Line}
use Rattle.xemem_language.specs.declared.line.Line.TheVariants as lines
use Rattle.attach_map.specs.declared.Pending.TheVariants as pendings
use Rattle.attach_map.specs.declared.Waiting.{Waiting}
use Rattle.attach_map.specs.Attaching.{AttacherState, ProcessState}
use Rattle.enclave_rules.specs.Core.{local_frame}
use Rattle.enclave_rules.specs.Exports.{segid_number}
use Rattle.enclave_rules.specs.Memory.{new_process, with_answered, with_issued, with_pages, with_process}
use Rattle.enclave_rules.specs.Segments.{is_make}
use Rattle.global_model.specs.Facts.{Facts, fact_of, facts_at}
use Rattle.call_laws.specs.Cells.{CallCell, cells, makes, is_cell, has_drawn, as_issued, as_drawn, as_near, as_answered, as_forgotten}
use Rattle.call_laws.proofs.Rows.{some_put}

-- what waits there, where it is a make
abbrev pub make_row : Option Waiting → Option Waiting
make_row None = None
make_row (Some w) = cond (is_make w.what) (Some w) None

pub make_is : (w : Waiting) → is_make w.what ≡ true → make_row (Some w) ≡ Some w
make_is w is = ap (λ t. cond t (Some w) None) is

pub make_found : (row : Option Waiting) (w : Waiting) → make_row row ≡ Some w → row ≡ Some w
make_found None w is = cc
make_found (Some v) w is = by (is_make v.what) is
  where
    by : (t : Bool) → cond t (Some v) None ≡ Some w → Some v ≡ Some w
    by true is = is
    by false is = cc

-- the make that waits under that number, by its cell
abbrev pub waiting_row : ℕ → CallCell → Option Waiting
waiting_row k c = cond c.waits (Some (record { call = record { 0 = k }; pid = record { 0 = c.process }; living = true; what = pendings.Make })) None

pub record IsMemoryOf (m : AttacherState) (C : ℕ → CallCell) : Type 0 where
  pub ascends : IsAscending m.waiting
  pub waiting : (k : ℕ) → make_row (at m.waiting k) ≡ waiting_row k (C k)
  pub runs : (k : ℕ) → (C k).waits ≡ true → is_some (at m.processes (C k).process) ≡ true

abbrev pub IsMemory : List Line → Type 0
IsMemory past = (e : ℕ) → IsMemoryOf ((facts_at past).memory e) (cells past e)

-- ---- an enclave's cells change in nothing that waits

pub record IsLike (c d : CallCell) : Type 0 where
  pub process : d.process ≡ c.process
  pub waits : d.waits ≡ c.waits

like_cond : (change : CallCell → CallCell) → ((c : CallCell) → IsLike c (change c)) → (t : Bool) (c : CallCell) → IsLike c (cond t (change c) c)
like_cond change like true c = like c
like_cond change like false c = record { process = refl; waits = refl }

like_memory : (m : AttacherState) (C D : ℕ → CallCell) → ((k : ℕ) → IsLike (C k) (D k)) → IsMemoryOf m C → IsMemoryOf m D
like_memory m C D like old = record {
  ascends = old.ascends;
  waiting = λ k. old.waiting k ∙ (λ i. cond (sym ((like k).waits) i) (Some (record { call = record { 0 = k }; pid = record { 0 = sym ((like k).process) i }; living = true; what = pendings.Make })) None);
  runs = λ k is. ap (λ p. is_some (at m.processes p)) ((like k).process) ∙ old.runs k (sym ((like k).waits) ∙ is);
}

-- ---- the processes grow

pub record IsGrown (m n : AttacherState) : Type 0 where
  pub waiting : n.waiting ≡ m.waiting
  pub processes : (p : ℕ) → is_some (at m.processes p) ≡ true → is_some (at n.processes p) ≡ true

grown_memory : (m n : AttacherState) (C : ℕ → CallCell) → IsGrown m n → IsMemoryOf m C → IsMemoryOf n C
grown_memory m n C grown old = record {
  ascends = subst IsAscending (sym grown.waiting) old.ascends;
  waiting = λ k. ap (λ rows. make_row (at rows k)) grown.waiting ∙ old.waiting k;
  runs = λ k is. grown.processes (C k).process (old.runs k is);
}

paged : (m : AttacherState) (p page : ℕ) (frames : List Frame) → IsGrown m (with_process p (with_pages page frames) m)
paged m p page frames = by (at m.processes p)
  where
    by : (found : Option ProcessState)
        → IsGrown m (option_map_or (λ process. record m { processes = put m.processes p (with_pages page frames process) }) found m)
    by None = record { waiting = refl; processes = λ q is. is }
    by (Some process) = record { waiting = refl; processes = λ q is. some_put m.processes p q (with_pages page frames process) is }

-- ---- a call is issued, and answered

issued_memory : RowLaws Waiting → (m : AttacherState) (C : ℕ → CallCell) (p : Pid) (call : CallNo) → is_some (at m.processes p.0) ≡ true
    → IsMemoryOf m C → IsMemoryOf (with_issued p call m) (λ k. cond (eqb call.0 k) (as_issued p.0 (C k)) (C k))
issued_memory rows m C p call running old = record {
  ascends = rows.put_ascends m.waiting call.0 w old.ascends;
  waiting = λ k. ap make_row (rows.put_at m.waiting call.0 k w) ∙ waits k (eqb call.0 k) refl;
  runs = λ k. process k (eqb call.0 k);
}
  where
    w : Waiting
    w = record { call = call; pid = p; living = true; what = pendings.Make }

    waits : (k : ℕ) (t : Bool) → eqb call.0 k ≡ t → make_row (cond t (Some w) (at m.waiting k)) ≡ waiting_row k (cond t (as_issued p.0 (C k)) (C k))
    waits k true is = ap (λ n. Some (record { call = record { 0 = n }; pid = p; living = true; what = pendings.Make })) (eqb-true call.0 k is)
    waits k false is = old.waiting k

    process : (k : ℕ) (t : Bool) → (cond t (as_issued p.0 (C k)) (C k)).waits ≡ true
        → is_some (at m.processes (cond t (as_issued p.0 (C k)) (C k)).process) ≡ true
    process k true is = running
    process k false is = old.runs k is

answered_memory : RowLaws Waiting → (m : AttacherState) (C : ℕ → CallCell) (call : CallNo) → IsMemoryOf m C
    → IsMemoryOf (with_answered call m) (λ k. cond (eqb call.0 k) (as_answered (C k)) (C k))
answered_memory rows m C call old = record {
  ascends = rows.less_ascends m.waiting call.0 old.ascends;
  waiting = λ k. ap make_row (rows.less_at m.waiting call.0 k old.ascends) ∙ waits k (eqb call.0 k);
  runs = λ k. process k (eqb call.0 k);
}
  where
    waits : (k : ℕ) (t : Bool) → make_row (cond t None (at m.waiting k)) ≡ waiting_row k (cond t (as_answered (C k)) (C k))
    waits k true = refl
    waits k false = old.waiting k

    process : (k : ℕ) (t : Bool) → (cond t (as_answered (C k)) (C k)).waits ≡ true
        → is_some (at m.processes (cond t (as_answered (C k)) (C k)).process) ≡ true
    process k true is = absurd (cc)
    process k false is = old.runs k is

-- ---- line by line

-- an issued call is the next one, of a process that lives, and so far a make; so no get is answered, and no permit ends
abbrev pub IssuesNext : Facts → Line → Type 0
IssuesNext G (lines.Issue e p call) = (is_some (at (G.memory e.0).processes p.0) ≡ true) × (call.0 ≡ (G.memory e.0).issued + 1) × (makes G.hand ≡ true)
IssuesNext G (lines.AnswerApid e p call apid pages) = ⊥
IssuesNext G (lines.AnswerRefused e p call cause) = ⊥
IssuesNext G (lines.Release e call) = ⊥
IssuesNext G line = Unit {0}

-- one enclave's memory and cells change, and no other's
memory_at : (past : List Line) (of j : ℕ) (m : AttacherState) (change : ℕ → CallCell → CallCell) → IsMemory past
    → (IsMemoryOf ((facts_at past).memory of) (cells past of) → IsMemoryOf m (λ k. change k (cells past of k)))
    → (t : Bool) → eqb j of ≡ t → IsMemoryOf (cond t m ((facts_at past).memory j)) (λ k. cond t (change k (cells past j k)) (cells past j k))
memory_at past of j m change old here true is =
    subst (λ n. IsMemoryOf m (λ k. change k (cells past n k))) (sym (eqb-true j of is)) (here (old of))
memory_at past of j m change old here false is = old j

cond_and : {A : Type 0} (s t : Bool) (a b : A) → cond (s && t) a b ≡ cond s (cond t a b) b
cond_and true t a b = refl
cond_and false t a b = refl

change_at : (m : AttacherState) (s : Bool) (call : ℕ) (change : CallCell → CallCell) (C : ℕ → CallCell)
    → IsMemoryOf m (λ k. cond s (cond (eqb call k) (change (C k)) (C k)) (C k)) → IsMemoryOf m (λ k. cond (s && eqb call k) (change (C k)) (C k))
change_at m true call change C is = is
change_at m false call change C is = is

pub memory_line_kept : RowLaws Waiting → (past : List Line) (line : Line) → IssuesNext (facts_at past) line → IsMemory past → IsMemory (line ∷ past)
memory_line_kept rows past (lines.Issue e p call) next old j =
    subst (λ made. IsMemoryOf ((facts_at (lines.Issue e p call ∷ past)).memory j) (λ k. cond (made && is_cell j k e.0 call.0) (as_issued p.0 (cells past j k)) (cells past j k))) (sym next.2)
    (change_at _ (eqb j e.0) call.0 (as_issued p.0) (cells past j)
    (memory_at past e.0 j (with_issued p call ((facts_at past).memory e.0)) (λ k c. cond (eqb call.0 k) (as_issued p.0 c) c) old
    (issued_memory rows ((facts_at past).memory e.0) (cells past e.0) p call next.0) (eqb j e.0) refl))
memory_line_kept rows past (lines.AnswerSegid e p call segid) next old j =
    change_at _ (eqb j e.0) call.0 as_answered (cells past j)
    (memory_at past e.0 j (with_answered call ((facts_at past).memory e.0)) (λ k c. cond (eqb call.0 k) (as_answered c) c) old
    (answered_memory rows ((facts_at past).memory e.0) (cells past e.0) call) (eqb j e.0) refl)
memory_line_kept rows past (lines.Proc e p uid gid) next old j = by (eqb j e.0) refl
  where
    m : AttacherState
    m = (facts_at past).memory e.0

    by : (t : Bool) → eqb j e.0 ≡ t
        → IsMemoryOf (cond t (record m { started = m.started + 1; processes = put m.processes p.0 (new_process uid gid) }) ((facts_at past).memory j)) (cells past j)
    by true is = grown_memory ((facts_at past).memory e.0) _ (cells past j)
        (record { waiting = refl; processes = λ q some. some_put ((facts_at past).memory e.0).processes p.0 q (new_process uid gid) some })
        (subst (λ n. IsMemoryOf ((facts_at past).memory n) (cells past j)) (eqb-true j e.0 is) (old j))
    by false is = old j
memory_line_kept rows past (lines.Alloc e p page frames) next old j = by (eqb j e.0) refl
  where
    local : List Frame
    local = map (local_frame (fact_of ((facts_at past).enclave e.0)).kind (fact_of ((facts_at past).enclave e.0)).blocks) frames

    by : (t : Bool) → eqb j e.0 ≡ t
        → IsMemoryOf (cond t (with_process p.0 (with_pages page.0 local) ((facts_at past).memory e.0)) ((facts_at past).memory j)) (cells past j)
    by true is = grown_memory ((facts_at past).memory e.0) _ (cells past j) (paged ((facts_at past).memory e.0) p.0 page.0 local)
        (subst (λ n. IsMemoryOf ((facts_at past).memory n) (cells past j)) (eqb-true j e.0 is) (old j))
    by false is = old j
memory_line_kept rows past (lines.Drew e call segid) next old j =
    like_memory ((facts_at past).memory j) (cells past j) (cells (lines.Drew e call segid ∷ past) j)
    (λ k. like_cond (as_drawn (segid_number segid)) (λ c. record { process = refl; waits = refl }) (is_cell j k e.0 call.0) (cells past j k)) (old j)
memory_line_kept rows past (lines.Named e call segid) next old j =
    like_memory ((facts_at past).memory j) (cells past j) (cells (lines.Named e call segid ∷ past) j)
    (λ k. like_cond (as_near true) (λ c. record { process = refl; waits = refl }) (is_cell j k e.0 call.0) (cells past j k)) (old j)
memory_line_kept rows past (lines.Remove e segid) next old j =
    like_memory ((facts_at past).memory j) (cells past j) (cells (lines.Remove e segid ∷ past) j)
    (λ k. like_cond (as_near false) (λ c. record { process = refl; waits = refl }) (eqb j e.0 && has_drawn (segid_number segid) (cells past j k)) (cells past j k)) (old j)
memory_line_kept rows past (lines.Unnamed segid) next old j =
    like_memory ((facts_at past).memory j) (cells past j) (cells (lines.Unnamed segid ∷ past) j)
    (λ k. like_cond as_forgotten (λ c. record { process = refl; waits = refl }) (has_drawn (segid_number segid) (cells past j k)) (cells past j k)) (old j)
memory_line_kept rows past (lines.AnswerApid e p call apid pages) next old j = absurd next
memory_line_kept rows past (lines.AnswerRefused e p call cause) next old j = absurd next
memory_line_kept rows past (lines.Release e call) next old j = absurd next
memory_line_kept rows past _ next old j = old j
