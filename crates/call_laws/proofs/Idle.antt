-- A call of which no record is under way neither waits nor has a name without a live segment: what lines leave of that.
use Rattle.std.proofs.Common.{◌≡◌, ℕ, List, [], ◌∷◌, ◌++◌, filter, Bool, true, false, cond, ◌&&◌, eqb, refl, sym, ap, ◌∙◌, subst}
use Rattle.std.proofs.lemmas.Bool.{and_right, eq-eqb}
use Rattle.xm_num.specs.declared.Enclave.{Enclave}
use Rattle.xemem_language.specs.declared.record.Record.{Record}
use Rattle.xemem_language.specs.declared.line.Line.{Line}
use Rattle.xemem_language.specs.declared.line.Line.TheVariants as lines
use Rattle.enclave_rules.specs.Exports.{segid_number}
use Rattle.global_model.specs.Facts.{Facts, facts_at}
use Rattle.global_model.specs.Journals.{Follows, onto}
use Rattle.discovery_laws.specs.Known.{in_flight}
use Rattle.call_laws.specs.Cells.{CallCell, cells, is_cell, has_drawn, makes}
use Rattle.call_laws.specs.Flights.{IsNowhere, is_of}
use Rattle.call_laws.specs.Laws.{CallRows}
use Rattle.call_laws.proofs.CellLines.{same_call}
use Rattle.call_laws.proofs.Requests.{AsksOnce, IsBounded, same_pair, tested, tested_got, tested_sent, tested_took}
use Rattle.call_laws.proofs.Tied.{AreFreeOfCalls, IsFreeOfCalls, IsTied, KeepsAt, tied_line}

pub record IsIdleCell (c : CallCell) : Type 0 where
  pub waits : c.waits ≡ false
  pub even : c.far ≡ c.near

abbrev pub IdleAt : List Line → ℕ → ℕ → Type 0
IdleAt past e k = IsNowhere (facts_at past) e k → IsIdleCell (cells past e k)

abbrev pub AreIdle : List Line → Type 0
AreIdle past = (e k : ℕ) → IdleAt past e k

-- the line leaves the cell of that call, and takes no record of it
abbrev pub Spares : ℕ → ℕ → List Line → Line → Type 0
Spares e k past (lines.Got x y) = (r : Record) (rs : List Record) → in_flight (facts_at past) x.0 y.0 ≡ r ∷ rs → is_of e k r ≡ false
Spares e k past (lines.Issue of p call) = is_cell e k of.0 call.0 ≡ false
Spares e k past (lines.Drew of call segid) = is_cell e k of.0 call.0 ≡ false
Spares e k past (lines.Named of call segid) = is_cell e k of.0 call.0 ≡ false
Spares e k past (lines.AnswerSegid of p call segid) = is_cell e k of.0 call.0 ≡ false
Spares e k past (lines.Remove of segid) = (eqb e of.0 && has_drawn (segid_number segid) (cells past e k)) ≡ false
Spares e k past (lines.Unnamed segid) = has_drawn (segid_number segid) (cells past e k) ≡ false
Spares e k past line = Unit {0}

-- ---- line by line

front_none : {A : Type 0} (xs ys : List A) → xs ++ ys ≡ [] → xs ≡ []
front_none [] ys is = refl
front_none (x ∷ xs) ys is = cc

either_none : {A : Type 0} (t : Bool) (xs ys : List A) → cond t (xs ++ ys) xs ≡ [] → xs ≡ []
either_none true xs ys is = front_none xs ys is
either_none false xs ys is = is

idle_cond : (t : Bool) (c d : CallCell) → t ≡ false → IsIdleCell c → IsIdleCell (cond t d c)
idle_cond true c d other old = cc
idle_cond false c d other old = old

-- what is behind one that isn't of the call
behind_none : (past : List Line) (x y : Enclave) (e k : ℕ) (r : Record) (rs : List Record) → in_flight (facts_at past) x.0 y.0 ≡ r ∷ rs → is_of e k r ≡ false
    → IsNowhere (facts_at (lines.Got x y ∷ past)) e k → IsNowhere (facts_at past) e k
behind_none past x y e k r rs is fails none a b = by (eqb a x.0 && eqb b y.0) refl (sym (tested_got (is_of e k) (facts_at past) x y r rs a b is) ∙ none a b)
  where
    by : (t : Bool) → (eqb a x.0 && eqb b y.0) ≡ t → cond t (filter (is_of e k) rs) (tested (is_of e k) (facts_at past) a b) ≡ [] → tested (is_of e k) (facts_at past) a b ≡ []
    by true here empty =
        let first : filter (is_of e k) (r ∷ rs) ≡ filter (is_of e k) rs = rw fails refl in
        ap (filter (is_of e k)) (same_pair (facts_at past) x.0 y.0 a b (r ∷ rs) here is) ∙ first ∙ empty
    by false there empty = empty

pub idle_line : (past : List Line) (line : Line) (e k : ℕ) → AsksOnce past line → IsBounded (facts_at past) → Spares e k past line → IdleAt past e k → IdleAt (line ∷ past) e k
idle_line past (lines.Sent x y r) e k once bounded spares old none =
    old (λ a b. either_none (eqb a x.0 && eqb b y.0) (tested (is_of e k) (facts_at past) a b) (filter (is_of e k) (r ∷ []))
    (sym (tested_sent (is_of e k) (facts_at past) x y r a b bounded) ∙ none a b))
idle_line past (lines.Got x y) e k once bounded spares old none =
    old (behind_none past x y e k once.0 once.1.others once.1.is (spares once.0 once.1.others once.1.is) none)
idle_line past (lines.Took x y count) e k once bounded spares old none = old (λ a b. sym (tested_took (is_of e k) (facts_at past) x y count a b) ∙ none a b)
idle_line past (lines.Issue of p call) e k once bounded spares old none =
    idle_cond (makes (facts_at past).hand && is_cell e k of.0 call.0) (cells past e k) _ (and_right (makes (facts_at past).hand) (is_cell e k of.0 call.0) spares) (old none)
idle_line past (lines.Drew of call segid) e k once bounded spares old none = idle_cond (is_cell e k of.0 call.0) (cells past e k) _ spares (old none)
idle_line past (lines.Named of call segid) e k once bounded spares old none = idle_cond (is_cell e k of.0 call.0) (cells past e k) _ spares (old none)
idle_line past (lines.AnswerSegid of p call segid) e k once bounded spares old none = idle_cond (is_cell e k of.0 call.0) (cells past e k) _ spares (old none)
idle_line past (lines.Remove of segid) e k once bounded spares old none =
    idle_cond (eqb e of.0 && has_drawn (segid_number segid) (cells past e k)) (cells past e k) _ spares (old none)
idle_line past (lines.Unnamed segid) e k once bounded spares old none = idle_cond (has_drawn (segid_number segid) (cells past e k)) (cells past e k) _ spares (old none)
idle_line past line e k once bounded spares old none = old none

pub idle_lines : CallRows → (past ls : List Line) (e k : ℕ) → Follows KeepsAt past ls → IsTied past → Follows (Spares e k) past ls → IdleAt past e k → IdleAt (onto ls past) e k
idle_lines rows past [] e k keeps tied spares old = old
idle_lines rows past (l ∷ ls) e k keeps tied spares old =
    idle_lines rows (l ∷ past) ls e k keeps.1 (tied_line rows past l keeps.0 tied) spares.1 (idle_line past l e k keeps.0.once tied.only.bounded spares.0 old)

spares_free : (past : List Line) (line : Line) (e k : ℕ) → IsFreeOfCalls line → Spares e k past line
spares_free past (lines.Sent x y r) e k free = tt
spares_free past _ e k free = search

pub spare_free : (past ls : List Line) (e k : ℕ) → AreFreeOfCalls ls → Follows (Spares e k) past ls
spare_free past [] e k free = tt
spare_free past (l ∷ ls) e k free = (spares_free past l e k free.0, spare_free (l ∷ past) ls e k free.1)

-- ---- lines that are about one call

-- they spare the others, and behind them it is idle
pub record Settles (past ls : List Line) (e k : ℕ) : Type 0 where
  pub others : (f j : ℕ) → is_cell f j e k ≡ false → Follows (Spares f j) past ls
  pub own : IdleAt (onto ls past) e k

pub settled : CallRows → (past ls : List Line) (e k : ℕ) → Follows KeepsAt past ls → IsTied past → Settles past ls e k → AreIdle past → AreIdle (onto ls past)
settled rows past ls e k keeps tied settles idle f j = by (is_cell f j e k) refl
  where
    by : (t : Bool) → is_cell f j e k ≡ t → IdleAt (onto ls past) f j
    by true is =
        let same = same_call f j e k is in
        subst (λ n. IdleAt (onto ls past) n j) (sym same.enclave) (subst (λ n. IdleAt (onto ls past) e n) same.call_is settles.own)
    by false is = idle_lines rows past ls f j keeps tied (settles.others f j is) (idle f j)

pub settles_first : (past : List Line) (l : Line) (ls : List Line) (e k : ℕ) → ((f j : ℕ) → is_cell f j e k ≡ false → Spares f j past l) → Settles (l ∷ past) ls e k → Settles past (l ∷ ls) e k
settles_first past l ls e k first more = record { others = λ f j apart. (first f j apart, more.others f j apart); own = more.own }

pub settles_end : (past : List Line) (e k : ℕ) → IsIdleCell (cells past e k) → Settles past [] e k
settles_end past e k idle = record { others = λ f j apart. tt; own = λ none. idle }

-- a record of it is sent
pub settles_sent : (past : List Line) (x y : Enclave) (r : Record) (e k : ℕ) → IsBounded (facts_at past) → is_of e k r ≡ true → Settles past (lines.Sent x y r ∷ []) e k
settles_sent past x y r e k bounded is = record { others = λ f j apart. (tt, tt); own = λ none. absurd (some none) }
  where
    G : Facts
    G = facts_at past

    behind : (xs : List Record) → xs ++ r ∷ [] ≡ [] → ⊥
    behind [] is = cc
    behind (x ∷ xs) is = cc

    some : IsNowhere (facts_at (lines.Sent x y r ∷ past)) e k → ⊥
    some none =
        let there = sym (tested_sent (is_of e k) G x y r x.0 y.0 bounded) ∙ none x.0 y.0 in
        let here : tested (is_of e k) G x.0 y.0 ++ r ∷ [] ≡ [] = rw (eq-eqb x.0 x.0 refl, eq-eqb y.0 y.0 refl, is) at there in
        behind (tested (is_of e k) G x.0 y.0) here
