-- Calls are numbered from 1 on, and a make that was issued and waits no longer has a segid.
use Rattle.std.proofs.Common.{◌≡◌, ℕ, List, [], ◌∷◌, Bool, true, false, cond, ◌&&◌, eqb, is_some, refl, ap, arith}
use Rattle.std.proofs.lemmas.Bool.{and_right, ne_eqb}
use Rattle.xemem_language.specs.declared.line.Line.{Line}
use Rattle.xemem_language.specs.declared.line.Line.TheVariants as lines
use Rattle.enclave_rules.specs.Exports.{segid_number}
use Rattle.global_model.specs.Facts.{facts_at}
use Rattle.global_model.specs.Journals.{Follows, onto}
use Rattle.call_laws.specs.Cells.{CallCell, cells, is_cell, has_drawn, as_issued, as_drawn, as_near, as_answered, as_forgotten, makes}
use Rattle.call_laws.specs.Legal.{CallAt}
use Rattle.call_laws.proofs.CellLines.{cell_at, same_issued}
use Rattle.call_laws.proofs.MemoryLines.{IssuesNext}
use Rattle.call_laws.proofs.Tied.{KeepsAt}

abbrev pub IsSettled : CallCell → Type 0
IsSettled c = c.issued ≡ true → c.waits ≡ false → is_some c.drew ≡ true

pub record AreNumbered (past : List Line) : Type 0 where
  pub zero : (e : ℕ) → (cells past e 0).issued ≡ false
  pub settled : (e k : ℕ) → IsSettled (cells past e k)

zero_line : (past : List Line) (line : Line) → IssuesNext (facts_at past) line → ((e : ℕ) → (cells past e 0).issued ≡ false) → (e : ℕ) → (cells (line ∷ past) e 0).issued ≡ false
zero_line past (lines.Issue of p call) next old e =
    by (makes (facts_at past).hand && is_cell e 0 of.0 call.0)
    (and_right (makes (facts_at past).hand) (is_cell e 0 of.0 call.0) (and_right (eqb e of.0) (eqb call.0 0) (ne_eqb call.0 0 (λ same. let one = next.1 in omega (arith, same, one)))))
  where
    by : (t : Bool) → t ≡ false → (cond t (as_issued p.0 (cells past e 0)) (cells past e 0)).issued ≡ false
    by true is = cc
    by false is = old e
zero_line past (lines.Drew of call segid) next old e = same_issued (as_drawn (segid_number segid)) (λ c. refl) (is_cell e 0 of.0 call.0) (cells past e 0) (old e)
zero_line past (lines.Named of call segid) next old e = same_issued (as_near true) (λ c. refl) (is_cell e 0 of.0 call.0) (cells past e 0) (old e)
zero_line past (lines.AnswerSegid of p call segid) next old e = same_issued as_answered (λ c. refl) (is_cell e 0 of.0 call.0) (cells past e 0) (old e)
zero_line past (lines.Remove of segid) next old e = same_issued (as_near false) (λ c. refl) (eqb e of.0 && has_drawn (segid_number segid) (cells past e 0)) (cells past e 0) (old e)
zero_line past (lines.Unnamed segid) next old e = same_issued as_forgotten (λ c. refl) (has_drawn (segid_number segid) (cells past e 0)) (cells past e 0) (old e)
zero_line past _ next old e = old e

keeps_settled : (change : CallCell → CallCell) → ((c : CallCell) → IsSettled c → IsSettled (change c)) → (t : Bool) (c : CallCell) → IsSettled c → IsSettled (cond t (change c) c)
keeps_settled change keeps true c old = keeps c old
keeps_settled change keeps false c old = old

settled_line : (past : List Line) (line : Line) → CallAt past line → ((e k : ℕ) → IsSettled (cells past e k)) → (e k : ℕ) → IsSettled (cells (line ∷ past) e k)
settled_line past (lines.Issue of p call) legal old e k =
    keeps_settled (as_issued p.0) (λ c was issued waits. absurd (cc)) (makes (facts_at past).hand && is_cell e k of.0 call.0) (cells past e k) (old e k)
settled_line past (lines.Drew of call segid) legal old e k =
    keeps_settled (as_drawn (segid_number segid)) (λ c was issued waits. refl) (is_cell e k of.0 call.0) (cells past e k) (old e k)
settled_line past (lines.Named of call segid) legal old e k =
    keeps_settled (as_near true) (λ c was issued waits. was issued waits) (is_cell e k of.0 call.0) (cells past e k) (old e k)
settled_line past (lines.AnswerSegid of p call segid) legal old e k =
    cell_at (λ e k c. IsSettled c) as_answered (cells past) of.0 call.0 e k (λ issued waits. ap is_some legal.drawn) (λ other. old e k)
settled_line past (lines.Remove of segid) legal old e k =
    keeps_settled (as_near false) (λ c was issued waits. was issued waits) (eqb e of.0 && has_drawn (segid_number segid) (cells past e k)) (cells past e k) (old e k)
settled_line past (lines.Unnamed segid) legal old e k =
    keeps_settled as_forgotten (λ c was issued waits. was issued waits) (has_drawn (segid_number segid) (cells past e k)) (cells past e k) (old e k)
settled_line past _ legal old e k = old e k

pub numbered_lines : (past ls : List Line) → Follows KeepsAt past ls → AreNumbered past → AreNumbered (onto ls past)
numbered_lines past [] keeps old = old
numbered_lines past (l ∷ ls) keeps old =
    numbered_lines (l ∷ past) ls keeps.1 (record { zero = zero_line past l keeps.0.next old.zero; settled = settled_line past l keeps.0.legal old.settled })
