-- Cells say all that the facts do: where a cell is far its name stands, where it waits its export is asked, and where it is near that
-- is live.
use Rattle.std.proofs.Common.{◌≡◌, ◌+◌, ◌≤◌, ℕ, List, ◌∷◌, Bool, true, false, cond, ◌&&◌, eqb, None, Some, refl, sym, ap, ◌∙◌, arith}
use Rattle.std.proofs.lemmas.Bool.{eqb-true, eq-eqb}
use Rattle.xm_num.specs.declared.Enclave.{Enclave}
use Rattle.xm_num.specs.Rows.{at, less, put}
use Rattle.xm_num.specs.RowLaws.{RowLaws}
use Rattle.xemem_language.specs.declared.line.Line.{Line}
use Rattle.xemem_language.specs.declared.line.Line.TheVariants as lines
use Rattle.name_server.specs.Names.{NamesState}
use Rattle.enclave_rules.specs.Exports.{segid_number}
use Rattle.global_model.specs.Facts.{at_number, facts_at}
use Rattle.call_laws.specs.Cells.{CallCell, cells, drawn_in, is_cell, has_drawn, as_issued, as_drawn, as_near, as_answered, as_forgotten, makes}
use Rattle.call_laws.specs.Legal.{CallAt}
use Rattle.call_laws.proofs.CellLines.{AreOnes, drawn_has, same_call}
use Rattle.call_laws.proofs.NameLines.{IsServed, IsServer, IsStanding}

-- ---- names

-- the name of a call that is far stands
abbrev pub AreNames : List Line → Type 0
AreNames past = (e k s : ℕ) → (cells past e k).drew ≡ Some s → (cells past e k).far ≡ true
    → at ((facts_at past).names (facts_at past).holder.0).pairs s ≡ Some (record { 0 = e })

names_itself : (k : ℕ) (n : NamesState) (names : ℕ → NamesState) → at_number k n names k ≡ n
names_itself k n names = ap (λ t. cond t n (names k)) (eq-eqb k k refl)

same_names : (past : List Line) (line : Line) → ((e k : ℕ) → IsStanding (cells past e k) (cells (line ∷ past) e k))
    → (facts_at (line ∷ past)).names ≡ (facts_at past).names → (facts_at (line ∷ past)).holder ≡ (facts_at past).holder → AreNames past → AreNames (line ∷ past)
same_names past line cell names holder old e k s drew far =
    (λ i. at (names i (holder i).0).pairs s) ∙ old e k s (sym ((cell e k).drew) ∙ drew) (sym ((cell e k).far) ∙ far)

keeps_standing : (change : CallCell → CallCell) → ((c : CallCell) → IsStanding c (change c)) → (t : Bool) (c : CallCell) → IsStanding c (cond t (change c) c)
keeps_standing change same true c = same c
keeps_standing change same false c = record { drew = refl; far = refl }

pub names_line_kept : RowLaws Enclave → (past : List Line) (line : Line) → CallAt past line → IsServed (facts_at past) line → AreOnes past → IsServer past → AreNames past
    → AreNames (line ∷ past)
names_line_kept rows past (lines.Drew of call segid) legal served ones server old e k s drew far =
    ap (λ n. at n.pairs s) (names_itself h n (facts_at past).names) ∙ rows.put_at ((facts_at past).names h).pairs s0 s of ∙ by (is_cell e k of.0 call.0) refl drew far
  where
    h : ℕ
    h = (facts_at past).holder.0

    s0 : ℕ
    s0 = segid_number segid

    n : NamesState
    n = record { drawn = ((facts_at past).names h).drawn + 1; pairs = put ((facts_at past).names h).pairs s0 of }

    next : s0 ≡ drawn_in past + 1
    next = legal.next

    other : (t : Bool) → eqb s0 s ≡ t → s ≤ drawn_in past → at ((facts_at past).names h).pairs s ≡ Some (record { 0 = e })
        → cond t (Some of) (at ((facts_at past).names h).pairs s) ≡ Some (record { 0 = e })
    other true is least was = absurd (let same = eqb-true s0 s is in omega (arith, same, least, next))
    other false is least was = was

    by : (t : Bool) → is_cell e k of.0 call.0 ≡ t → (cond t (as_drawn s0 (cells past e k)) (cells past e k)).drew ≡ Some s
        → (cond t (as_drawn s0 (cells past e k)) (cells past e k)).far ≡ true
        → cond (eqb s0 s) (Some of) (at ((facts_at past).names h).pairs s) ≡ Some (record { 0 = e })
    by true here drew far =
        let same : s0 ≡ s = cc in
        let enclave = (same_call e k of.0 call.0 here).enclave in
        ap (λ t. cond t (Some of) (at ((facts_at past).names h).pairs s)) (eq-eqb s0 s same) ∙ ap (λ n. Some (record { 0 = n })) (sym enclave)
    by false there drew far = other (eqb s0 s) refl (ones.some e k s drew).1 (old e k s drew far)
names_line_kept rows past (lines.Unnamed segid) legal served ones server old e k s drew far =
    ap (λ n. at n.pairs s) (names_itself h n (facts_at past).names) ∙ rows.less_at ((facts_at past).names h).pairs s0 s (server.ascends h)
    ∙ by (has_drawn s0 (cells past e k)) refl drew far
  where
    h : ℕ
    h = (facts_at past).holder.0

    s0 : ℕ
    s0 = segid_number segid

    n : NamesState
    n = record { drawn = ((facts_at past).names h).drawn; pairs = less ((facts_at past).names h).pairs s0 }

    other : (t : Bool) → eqb s0 s ≡ t → (cells past e k).drew ≡ Some s → has_drawn s0 (cells past e k) ≡ false
        → at ((facts_at past).names h).pairs s ≡ Some (record { 0 = e }) → cond t None (at ((facts_at past).names h).pairs s) ≡ Some (record { 0 = e })
    other true is drew none was = absurd (
        let has = drawn_has s0 (cells past e k) (drew ∙ ap (λ n. Some n) (sym (eqb-true s0 s is))) in
        let clash : true ≡ false = sym has ∙ none in cc)
    other false is drew none was = was

    by : (t : Bool) → has_drawn s0 (cells past e k) ≡ t → (cond t (as_forgotten (cells past e k)) (cells past e k)).drew ≡ Some s
        → (cond t (as_forgotten (cells past e k)) (cells past e k)).far ≡ true
        → cond (eqb s0 s) None (at ((facts_at past).names h).pairs s) ≡ Some (record { 0 = e })
    by true here drew far = cc
    by false there drew far = other (eqb s0 s) refl drew there (old e k s drew far)
names_line_kept rows past (lines.Born child kind parent ns blocks) legal served ones server old e k s drew far = by ns served.1
  where
    by : (t : Bool) → (t && (facts_at past).server) ≡ false → at ((facts_at past).names (cond t child (facts_at past).holder).0).pairs s ≡ Some (record { 0 = e })
    by true one = absurd (let none = server.before one in let some = ones.some e k s drew in let low = some.0 in let high = some.1 in omega (arith, none, low, high))
    by false one = old e k s drew far
names_line_kept rows past (lines.Issue of p call) legal served ones server old e k s drew far =
    same_names past (lines.Issue of p call) (λ e k. keeps_standing (as_issued p.0) (λ c. record { drew = refl; far = refl }) (makes (facts_at past).hand && is_cell e k of.0 call.0) (cells past e k)) refl refl old e k s drew far
names_line_kept rows past (lines.Named of call segid) legal served ones server old e k s drew far =
    same_names past (lines.Named of call segid) (λ e k. keeps_standing (as_near true) (λ c. record { drew = refl; far = refl }) (is_cell e k of.0 call.0) (cells past e k)) refl refl old e k s drew far
names_line_kept rows past (lines.AnswerSegid of p call segid) legal served ones server old e k s drew far =
    same_names past (lines.AnswerSegid of p call segid) (λ e k. keeps_standing as_answered (λ c. record { drew = refl; far = refl }) (is_cell e k of.0 call.0) (cells past e k)) refl refl old e k s drew far
names_line_kept rows past (lines.Remove of segid) legal served ones server old e k s drew far =
    same_names past (lines.Remove of segid)
    (λ e k. keeps_standing (as_near false) (λ c. record { drew = refl; far = refl }) (eqb e of.0 && has_drawn (segid_number segid) (cells past e k)) (cells past e k)) refl refl old e k s drew far
names_line_kept rows past line legal served ones server old e k s drew far =
    same_names past line (λ e k. record { drew = refl; far = refl }) refl refl old e k s drew far
