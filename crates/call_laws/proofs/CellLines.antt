-- What the lines of calls leave of cells.
use Rattle.std.proofs.Common.{◌≡◌, ◌+◌, ◌≤◌, ℕ, List, [], ◌∷◌, Bool, true, false, cond, ◌&&◌, eqb, Option, None, Some, inl, inr, refl, sym, ap, ◌∙◌, subst, arith}
use Rattle.std.specs.Option.{option_map_or}
use Rattle.std.proofs.lemmas.Bool.{and_parts, and_right, or_parts, eqb-true, eq-eqb, cases_Bool}
use Rattle.xemem_language.specs.declared.line.Line.{Line}
use Rattle.xemem_language.specs.declared.line.Line.TheVariants as lines
use Rattle.enclave_rules.specs.Exports.{segid_number}
use Rattle.global_model.specs.Facts.{facts_at}
use Rattle.call_laws.specs.Cells.{CallCell, cells, makes, no_call, is_cell, has_drawn, drawn_in, issued_in, as_issued, as_drawn, as_near, as_answered, as_forgotten}
use Rattle.call_laws.specs.Legal.{CallAt, MayDraw}

-- ---- which cell a line changes

pub record IsSame (e k of call : ℕ) : Type 0 where
  pub enclave : e ≡ of
  pub call_is : call ≡ k

pub same_call : (e k of call : ℕ) → is_cell e k of call ≡ true → IsSame e k of call
same_call e k of call is =
    let both = and_parts (eqb e of) (eqb call k) is in
    record { enclave = eqb-true e of both.0; call_is = eqb-true call k both.1 }

pub is_cell_itself : (e k : ℕ) → is_cell e k e k ≡ true
is_cell_itself e k = rw (eq-eqb e e refl, eq-eqb k k refl) refl

-- what holds of the changed cell of the call, and of the others as before, holds of each
pub cell_at : (P : ℕ → ℕ → CallCell → Type 0) (change : CallCell → CallCell) (C : ℕ → ℕ → CallCell) (of call e k : ℕ) → P of call (change (C of call))
    → (is_cell e k of call ≡ false → P e k (C e k)) → P e k (cond (is_cell e k of call) (change (C e k)) (C e k))
cell_at P change C of call e k here there = by (is_cell e k of call) refl
  where
    by : (t : Bool) → is_cell e k of call ≡ t → P e k (cond t (change (C e k)) (C e k))
    by true is =
        let same = same_call e k of call is in
        subst (λ n. P n k (change (C n k))) (sym same.enclave) (subst (λ n. P of n (change (C of n))) same.call_is here)
    by false is = there is

pub drawn_is : (s : ℕ) (c : CallCell) → has_drawn s c ≡ true → c.drew ≡ Some s
drawn_is s c = by c.drew
  where
    by : (drew : Option ℕ) → option_map_or (λ own. eqb own s) drew false ≡ true → drew ≡ Some s
    by None is = cc
    by (Some own) is = ap (λ n. Some n) (eqb-true own s is)

pub drawn_has : (s : ℕ) (c : CallCell) → c.drew ≡ Some s → has_drawn s c ≡ true
drawn_has s c is = ap (λ drew. option_map_or (λ own. eqb own s) drew false) is ∙ eq-eqb s s refl

-- ---- a call that wasn't issued is no make that was

pub same_issued : (change : CallCell → CallCell) → ((c : CallCell) → (change c).issued ≡ c.issued) → (t : Bool) (c : CallCell) → c.issued ≡ false → (cond t (change c) c).issued ≡ false
same_issued change same true c none = same c ∙ none
same_issued change same false c none = none

unissued_line : (past : List Line) (line : Line) (e k : ℕ) → (issued_in past e k ≡ false → (cells past e k).issued ≡ false) → issued_in (line ∷ past) e k ≡ false
    → (cells (line ∷ past) e k).issued ≡ false
unissued_line past (lines.Issue of p call) e k old none =
    let both = or_parts (is_cell e k of.0 call.0) (issued_in past e k) none in
    by (makes (facts_at past).hand && is_cell e k of.0 call.0) (and_right (makes (facts_at past).hand) (is_cell e k of.0 call.0) both.0) (old both.1)
  where
    by : (t : Bool) → t ≡ false → (cells past e k).issued ≡ false → (cond t (as_issued p.0 (cells past e k)) (cells past e k)).issued ≡ false
    by true is was = cc
    by false is was = was
unissued_line past (lines.Drew of call segid) e k old none = same_issued (as_drawn (segid_number segid)) (λ c. refl) (is_cell e k of.0 call.0) (cells past e k) (old none)
unissued_line past (lines.Named of call segid) e k old none = same_issued (as_near true) (λ c. refl) (is_cell e k of.0 call.0) (cells past e k) (old none)
unissued_line past (lines.AnswerSegid of p call segid) e k old none = same_issued as_answered (λ c. refl) (is_cell e k of.0 call.0) (cells past e k) (old none)
unissued_line past (lines.Remove of segid) e k old none =
    same_issued (as_near false) (λ c. refl) (eqb e of.0 && has_drawn (segid_number segid) (cells past e k)) (cells past e k) (old none)
unissued_line past (lines.Unnamed segid) e k old none = same_issued as_forgotten (λ c. refl) (has_drawn (segid_number segid) (cells past e k)) (cells past e k) (old none)
unissued_line past _ e k old none = old none

pub unissued : (past : List Line) (e k : ℕ) → issued_in past e k ≡ false → (cells past e k).issued ≡ false
unissued [] e k none = refl
unissued (line ∷ past) e k none = unissued_line past line e k (unissued past e k) none

-- the cell that an issue of a new call changes
pub new_cell : (past : List Line) (of call : ℕ) → issued_in past of call ≡ false → (e k : ℕ) (made : Bool) → (made && is_cell e k of call) ≡ true → (cells past e k).issued ≡ false
new_cell past of call none e k made is =
    let same = same_call e k of call (and_parts made (is_cell e k of call) is).1 in
    (λ i. (cells past (same.enclave i) (sym same.call_is i)).issued) ∙ unissued past of call none

-- ---- a make that wasn't issued has nothing

abbrev pub IsBlank : CallCell → Type 0
IsBlank c = c.issued ≡ false → c ≡ no_call

blank_waits : (c : CallCell) → IsBlank c → c.waits ≡ true → c.issued ≡ true
blank_waits c blank waits = elim (cases_Bool c.issued) [
  | inl is ↦ is
  | inr none ↦ let clash : false ≡ true = sym (ap (λ c. c.waits) (blank none)) ∙ waits in absurd (cc)
]

pub blank_line : (past : List Line) (line : Line) → CallAt past line → ((e k : ℕ) → IsBlank (cells past e k)) → (e k : ℕ)
    → IsBlank (cells (line ∷ past) e k)
blank_line past (lines.Issue of p call) legal blank e k = by (makes (facts_at past).hand && is_cell e k of.0 call.0)
  where
    by : (t : Bool) → IsBlank (cond t (as_issued p.0 (cells past e k)) (cells past e k))
    by true none = cc
    by false none = blank e k none
blank_line past (lines.Drew of call segid) legal blank e k =
    cell_at (λ e k c. IsBlank c) (as_drawn (segid_number segid)) (cells past) of.0 call.0 e k
    (λ none. let clash : true ≡ false = sym legal.issued ∙ none in absurd (cc)) (λ other. blank e k)
blank_line past (lines.Named of call segid) legal blank e k =
    cell_at (λ e k c. IsBlank c) (as_near true) (cells past) of.0 call.0 e k
    (λ none. let clash : true ≡ false = sym (blank_waits (cells past of.0 call.0) (blank of.0 call.0) legal.waits) ∙ none in absurd (cc)) (λ other. blank e k)
blank_line past (lines.AnswerSegid of p call segid) legal blank e k =
    cell_at (λ e k c. IsBlank c) as_answered (cells past) of.0 call.0 e k
    (λ none. let clash : true ≡ false = sym (blank_waits (cells past of.0 call.0) (blank of.0 call.0) legal.waits) ∙ none in absurd (cc)) (λ other. blank e k)
blank_line past (lines.Remove of segid) legal blank e k = by (eqb e of.0 && has_drawn (segid_number segid) (cells past e k))
  where
    by : (t : Bool) → IsBlank (cond t (as_near false (cells past e k)) (cells past e k))
    by true none = ap (as_near false) (blank e k none)
    by false none = blank e k none
blank_line past (lines.Unnamed segid) legal blank e k = by (has_drawn (segid_number segid) (cells past e k))
  where
    by : (t : Bool) → IsBlank (cond t (as_forgotten (cells past e k)) (cells past e k))
    by true none = ap as_forgotten (blank e k none)
    by false none = blank e k none
blank_line past _ legal blank e k = blank e k

-- ---- segids are drawn upwards, each once

pub record AreOnes (past : List Line) : Type 0 where
  pub some : (e k s : ℕ) → (cells past e k).drew ≡ Some s → (1 ≤ s) × (s ≤ drawn_in past)
  pub one : (e k e' k' s : ℕ) → (cells past e k).drew ≡ Some s → (cells past e' k').drew ≡ Some s → (e ≡ e') × (k ≡ k')

-- a line that draws none
same_ones : (past : List Line) (line : Line) → ((e k : ℕ) → (cells (line ∷ past) e k).drew ≡ (cells past e k).drew) → drawn_in (line ∷ past) ≡ drawn_in past
    → AreOnes past → AreOnes (line ∷ past)
same_ones past line same count ones = record {
  some = λ e k s is. let old = ones.some e k s (sym (same e k) ∙ is) in (old.0, (let le = old.1 in omega (arith, le, count)));
  one = λ e k e' k' s is is'. ones.one e k e' k' s (sym (same e k) ∙ is) (sym (same e' k') ∙ is');
}

drew_kept : (change : CallCell → CallCell) → ((c : CallCell) → (change c).drew ≡ c.drew) → (t : Bool) (c : CallCell) → (cond t (change c) c).drew ≡ c.drew
drew_kept change same true c = same c
drew_kept change same false c = refl

drew_ones : (past : List Line) (of call s : ℕ) → MayDraw past of call s → AreOnes past → (next : List Line) → drawn_in next ≡ drawn_in past + 1
    → ((e k : ℕ) → (cells next e k).drew ≡ cond (is_cell e k of call) (Some s) (cells past e k).drew) → AreOnes next
drew_ones past of call s legal ones next count changed = record { some = λ e k q is. some e k q (is_cell e k of call) (sym (changed e k) ∙ is); one = λ e k e' k' q is is'. one e k e' k' q (is_cell e k of call) refl (is_cell e' k' of call) refl (sym (changed e k) ∙ is) (sym (changed e' k') ∙ is') }
  where
    is_next : s ≡ drawn_in past + 1
    is_next = legal.next

    some : (e k q : ℕ) (t : Bool) → cond t (Some s) (cells past e k).drew ≡ Some q → (1 ≤ q) × (q ≤ drawn_in next)
    some e k q true is = let same : s ≡ q = cc in (omega (arith, same, is_next), omega (arith, same, is_next, count))
    some e k q false is = let old = ones.some e k q is in (old.0, (let le = old.1 in omega (arith, le, count)))

    one : (e k e' k' q : ℕ) (t : Bool) → is_cell e k of call ≡ t → (t' : Bool) → is_cell e' k' of call ≡ t'
        → cond t (Some s) (cells past e k).drew ≡ Some q → cond t' (Some s) (cells past e' k').drew ≡ Some q → (e ≡ e') × (k ≡ k')
    one e k e' k' q true here true here' is is' =
        let same = same_call e k of call here in
        let same' = same_call e' k' of call here' in
        (same.enclave ∙ sym same'.enclave, sym same.call_is ∙ same'.call_is)
    one e k e' k' q true here false there is is' =
        absurd (let same : s ≡ q = cc in let le = (ones.some e' k' q is').1 in omega (arith, same, is_next, le))
    one e k e' k' q false there true here is is' =
        absurd (let same : s ≡ q = cc in let le = (ones.some e k q is).1 in omega (arith, same, is_next, le))
    one e k e' k' q false there false there' is is' = ones.one e k e' k' q is is'

pub ones_line : (past : List Line) (line : Line) → CallAt past line → AreOnes past → AreOnes (line ∷ past)
ones_line past (lines.Issue of p call) legal ones =
    same_ones past (lines.Issue of p call) (λ e k. drew_kept (as_issued p.0) (λ c. refl) (makes (facts_at past).hand && is_cell e k of.0 call.0) (cells past e k)) refl ones
ones_line past (lines.Drew of call segid) legal ones =
    drew_ones past of.0 call.0 (segid_number segid) legal ones (lines.Drew of call segid ∷ past) (omega arith)
    (λ e k. by (is_cell e k of.0 call.0) (cells past e k))
  where
    by : (t : Bool) (c : CallCell) → (cond t (as_drawn (segid_number segid) c) c).drew ≡ cond t (Some (segid_number segid)) c.drew
    by true c = refl
    by false c = refl
ones_line past (lines.Named of call segid) legal ones =
    same_ones past (lines.Named of call segid) (λ e k. drew_kept (as_near true) (λ c. refl) (is_cell e k of.0 call.0) (cells past e k)) refl ones
ones_line past (lines.AnswerSegid of p call segid) legal ones =
    same_ones past (lines.AnswerSegid of p call segid) (λ e k. drew_kept as_answered (λ c. refl) (is_cell e k of.0 call.0) (cells past e k)) refl ones
ones_line past (lines.Remove of segid) legal ones =
    same_ones past (lines.Remove of segid)
    (λ e k. drew_kept (as_near false) (λ c. refl) (eqb e of.0 && has_drawn (segid_number segid) (cells past e k)) (cells past e k)) refl ones
ones_line past (lines.Unnamed segid) legal ones =
    same_ones past (lines.Unnamed segid) (λ e k. drew_kept as_forgotten (λ c. refl) (has_drawn (segid_number segid) (cells past e k)) (cells past e k)) refl ones
ones_line past line legal ones = same_ones past line (λ e k. refl) refl ones
