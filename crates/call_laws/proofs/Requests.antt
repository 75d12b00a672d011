-- A call has at most one record under way, which its cell fits.
use Rattle.std.proofs.Common.{◌≡◌, ◌⊎◌, ◌+◌, ◌-◌, ◌≤◌, ℕ, zero, suc, List, [], ◌∷◌, ◌++◌, append-nil, drop, filter, length, Bool, true, false, cond, ◌&&◌, eqb, Some, refl, sym, ap, ◌∙◌, subst, inl, inr, arith, length-append, length-drop}
use Rattle.std.specs.List.{AllByRecursion}
use Rattle.std.proofs.lemmas.Bool.{and_parts, eqb-true, eq-eqb}
use Rattle.std.proofs.lemmas.List.Elements.{filter-append}
use Rattle.xm_num.specs.declared.Enclave.{Enclave}
use Rattle.xemem_language.specs.declared.record.Record.{Record}
use Rattle.xemem_language.specs.declared.line.Line.{Line}
use Rattle.xemem_language.specs.declared.line.Line.TheVariants as lines
use Rattle.enclave_rules.specs.Exports.{segid_number}
use Rattle.global_model.specs.Facts.{Facts, after_line, facts_at, with_got, with_sent, with_taken}
use Rattle.discovery_laws.specs.Known.{in_flight}
use Rattle.call_laws.specs.Cells.{CallCell, cells, is_cell, has_drawn, as_issued, as_drawn, as_near, as_answered, as_forgotten, makes}
use Rattle.call_laws.specs.Flights.{FitsBy, IsBetween, IsNowhere, IsSingle, alone_at, calls_in, is_of}
use Rattle.call_laws.specs.Legal.{CallAt}
use Rattle.call_laws.proofs.CellLines.{cell_at, drawn_is, same_call}
use Rattle.call_laws.proofs.Flights.{IsNextOf}

-- ---- what is under way, of which a test holds

abbrev pub IsBounded : Facts → Type 0
IsBounded G = (x y : ℕ) → (G.channel x y).got ≤ length (G.channel x y).sent

abbrev pub tested : (Record → Bool) → Facts → ℕ → ℕ → List Record
tested test G a b = filter test (in_flight G a b)

drop-behind : {A : Type 0} (n : ℕ) (xs : List A) (x : A) → n ≤ length xs → drop n (xs ++ x ∷ []) ≡ drop n xs ++ x ∷ []
drop-behind zero xs x le = refl
drop-behind (suc n) [] x le = absurd (omega (arith, le))
drop-behind (suc n) (w ∷ xs) x le = drop-behind n xs x (omega (arith, le))

pub tested_sent : (test : Record → Bool) (G : Facts) (x y : Enclave) (r : Record) (a b : ℕ) → IsBounded G
    → tested test (after_line G (lines.Sent x y r)) a b ≡ cond (eqb a x.0 && eqb b y.0) (tested test G a b ++ filter test (r ∷ [])) (tested test G a b)
tested_sent test G x y r a b bounded = by (eqb a x.0 && eqb b y.0)
  where
    by : (t : Bool) → filter test (drop (cond t (with_sent r (G.channel a b)) (G.channel a b)).got (cond t (with_sent r (G.channel a b)) (G.channel a b)).sent)
        ≡ cond t (tested test G a b ++ filter test (r ∷ [])) (tested test G a b)
    by true = ap (filter test) (drop-behind (G.channel a b).got (G.channel a b).sent r (bounded a b)) ∙ filter-append test (in_flight G a b) (r ∷ [])
    by false = refl

drop-more : {A : Type 0} (n : ℕ) (x : A) (ws xs : List A) → drop n ws ≡ x ∷ xs → drop (n + 1) ws ≡ xs
drop-more zero x [] xs is = cc
drop-more zero x (w ∷ ws) xs is = cc
drop-more (suc n) x [] xs is = cc
drop-more (suc n) x (w ∷ ws) xs is = let e : suc n + 1 ≡ suc (n + 1) = omega arith in rw e (drop-more n x ws xs is)

pub same_pair : (G : Facts) (x y a b : ℕ) (rs : List Record) → (eqb a x && eqb b y) ≡ true → in_flight G x y ≡ rs → in_flight G a b ≡ rs
same_pair G x y a b rs here is =
    let both = and_parts (eqb a x) (eqb b y) here in
    (λ i. in_flight G (eqb-true a x both.0 i) (eqb-true b y both.1 i)) ∙ is

pub tested_got : (test : Record → Bool) (G : Facts) (x y : Enclave) (r : Record) (rs : List Record) (a b : ℕ) → in_flight G x.0 y.0 ≡ r ∷ rs
    → tested test (after_line G (lines.Got x y)) a b ≡ cond (eqb a x.0 && eqb b y.0) (filter test rs) (tested test G a b)
tested_got test G x y r rs a b is = by (eqb a x.0 && eqb b y.0) refl
  where
    by : (t : Bool) → (eqb a x.0 && eqb b y.0) ≡ t
        → filter test (drop (cond t (with_got (G.channel a b)) (G.channel a b)).got (cond t (with_got (G.channel a b)) (G.channel a b)).sent)
        ≡ cond t (filter test rs) (tested test G a b)
    by true here = ap (filter test) (drop-more (G.channel a b).got r (G.channel a b).sent rs (same_pair G x.0 y.0 a b (r ∷ rs) here is))
    by false other = refl

pub tested_took : (test : Record → Bool) (G : Facts) (x y : Enclave) (count a b : ℕ) → tested test (after_line G (lines.Took x y count)) a b ≡ tested test G a b
tested_took test G x y count a b = by (eqb a x.0 && eqb b y.0)
  where
    by : (t : Bool) → filter test (drop (cond t (with_taken count (G.channel a b)) (G.channel a b)).got (cond t (with_taken count (G.channel a b)) (G.channel a b)).sent)
        ≡ tested test G a b
    by true = refl
    by false = refl

-- the one that passes is that one
pub got_same : (test : Record → Bool) (G : Facts) (x y : Enclave) (r : Record) (rs : List Record) (from to : ℕ) (q : Record) → in_flight G x.0 y.0 ≡ r ∷ rs
    → ((a b : ℕ) → tested test G a b ≡ alone_at from to (q ∷ []) a b) → test r ≡ true → q ≡ r
got_same test G x y r rs from to q is alone passes = by (eqb x.0 from && eqb y.0 to) refl
  where
    head : filter test (r ∷ rs) ≡ alone_at from to (q ∷ []) x.0 y.0
    head = ap (filter test) (sym is) ∙ alone x.0 y.0

    by : (t : Bool) → (eqb x.0 from && eqb y.0 to) ≡ t → q ≡ r
    by true here = let rest : r ∷ filter test rs ≡ q ∷ [] = rw (here, passes) at head in cc
    by false here = let rest : r ∷ filter test rs ≡ [] = rw (here, passes) at head in cc

-- the one that passes is got
pub got_gone : (test : Record → Bool) (G : Facts) (x y : Enclave) (r : Record) (rs : List Record) (from to : ℕ) (q : Record) → in_flight G x.0 y.0 ≡ r ∷ rs
    → ((a b : ℕ) → tested test G a b ≡ alone_at from to (q ∷ []) a b) → test r ≡ true
    → (a b : ℕ) → tested test (after_line G (lines.Got x y)) a b ≡ []
got_gone test G x y r rs from to q is alone passes a b = tested_got test G x y r rs a b is ∙ left a b (eqb a x.0 && eqb b y.0) refl
  where
    head : filter test (r ∷ rs) ≡ alone_at from to (q ∷ []) x.0 y.0
    head = ap (filter test) (sym is) ∙ alone x.0 y.0

    none : (t : Bool) → (eqb x.0 from && eqb y.0 to) ≡ t → (filter test rs ≡ []) × (t ≡ true)
    none true here = let rest : r ∷ filter test rs ≡ q ∷ [] = rw (here, passes) at head in ((let both : filter test rs ≡ [] = cc in both), refl)
    none false here = let rest : r ∷ filter test rs ≡ [] = rw (here, passes) at head in cc

    rest : (filter test rs ≡ []) × ((eqb x.0 from && eqb y.0 to) ≡ true)
    rest = none (eqb x.0 from && eqb y.0 to) refl

    left : (a b : ℕ) (t : Bool) → (eqb a x.0 && eqb b y.0) ≡ t → cond t (filter test rs) (tested test G a b) ≡ []
    left a b true here = rest.0
    left a b false there = alone a b ∙ elsewhere (eqb a from && eqb b to) refl
      where
        elsewhere : (t : Bool) → (eqb a from && eqb b to) ≡ t → cond t (q ∷ []) [] ≡ []
        elsewhere false is = refl
        elsewhere true is =
            let there_is = and_parts (eqb a from) (eqb b to) is in
            let here_is = and_parts (eqb x.0 from) (eqb y.0 to) rest.1 in
            let same_a : a ≡ x.0 = eqb-true a from there_is.0 ∙ sym (eqb-true x.0 from here_is.0) in
            let same_b : b ≡ y.0 = eqb-true b to there_is.1 ∙ sym (eqb-true y.0 to here_is.1) in
            absurd (let clash : true ≡ false = sym (rw (eq-eqb a x.0 same_a, eq-eqb b y.0 same_b) refl) ∙ there in cc)

-- what is left once the first is got
pub got_alone : (test : Record → Bool) (G : Facts) (x y : Enclave) (r : Record) (rs : List Record) (from to : ℕ) (q : Record) → in_flight G x.0 y.0 ≡ r ∷ rs
    → ((a b : ℕ) → tested test G a b ≡ alone_at from to (q ∷ []) a b)
    → ((a b : ℕ) → tested test (after_line G (lines.Got x y)) a b ≡ []) ⊎ ((a b : ℕ) → tested test (after_line G (lines.Got x y)) a b ≡ alone_at from to (q ∷ []) a b)
got_alone test G x y r rs from to q is alone = by (test r) refl
  where
    by : (t : Bool) → test r ≡ t
        → ((a b : ℕ) → tested test (after_line G (lines.Got x y)) a b ≡ []) ⊎ ((a b : ℕ) → tested test (after_line G (lines.Got x y)) a b ≡ alone_at from to (q ∷ []) a b)
    by true passes = inl (got_gone test G x y r rs from to q is alone passes)
    by false fails = inr (λ a b. tested_got test G x y r rs a b is ∙ left a b (eqb a x.0 && eqb b y.0) refl ∙ alone a b)
      where
        left : (a b : ℕ) (t : Bool) → (eqb a x.0 && eqb b y.0) ≡ t → cond t (filter test rs) (tested test G a b) ≡ tested test G a b
        left a b true here = let first : filter test (r ∷ rs) ≡ filter test rs = rw fails refl in sym (ap (filter test) (same_pair G x.0 y.0 a b (r ∷ rs) here is) ∙ first)
        left a b false there = refl

pub got_none : (test : Record → Bool) (G : Facts) (x y : Enclave) (r : Record) (rs : List Record) → in_flight G x.0 y.0 ≡ r ∷ rs → ((a b : ℕ) → tested test G a b ≡ [])
    → (a b : ℕ) → tested test (after_line G (lines.Got x y)) a b ≡ []
got_none test G x y r rs is none a b = tested_got test G x y r rs a b is ∙ by (eqb a x.0 && eqb b y.0)
  where
    rest : filter test (r ∷ rs) ≡ [] → filter test rs ≡ []
    rest = first (test r)
      where
        first : (t : Bool) → cond t (r ∷ filter test rs) (filter test rs) ≡ [] → filter test rs ≡ []
        first true is = cc
        first false is = is

    by : (t : Bool) → cond t (filter test rs) (tested test G a b) ≡ []
    by true = rest (ap (filter test) (sym is) ∙ none x.0 y.0)
    by false = none a b

pub tested_none : (test : Record → Bool) (rs : List Record) → AllByRecursion (λ r. test r ≡ false) rs → filter test rs ≡ []
tested_none test [] all = refl
tested_none test (r ∷ rs) all = rw all.0 (tested_none test rs all.1)

pub all-behind : (P : Record → Type 0) (n : ℕ) (rs : List Record) → AllByRecursion P rs → AllByRecursion P (drop n rs)
all-behind P zero rs all = all
all-behind P (suc n) [] all = tt
all-behind P (suc n) (r ∷ rs) all = all-behind P n rs all.1

-- ---- the records of calls

pub record AreOnly (past : List Line) : Type 0 where
  pub bounded : IsBounded (facts_at past)
  pub only : (e k : ℕ) → IsSingle past e k
  pub stands : (e k : ℕ) → (cells past e k).near ≡ true → (cells past e k).far ≡ true

-- of that record
abbrev pub RequestsOnce : List Line → Record → Type 0
RequestsOnce past r = (e k : ℕ) → is_of e k r ≡ true → IsNowhere (facts_at past) e k × FitsBy (cells past e k) r.body

-- A record that is got was under way, and one of a call is sent where none is under way and the cell fits it. A cell changes where
-- none of its call is.
abbrev pub AsksOnce : List Line → Line → Type 0
AsksOnce past (lines.Got x y) = (r : Record) × IsNextOf r (in_flight (facts_at past) x.0 y.0)
AsksOnce past (lines.Sent x y r) = RequestsOnce past r
AsksOnce past (lines.Issue e p call) = IsNowhere (facts_at past) e.0 call.0
AsksOnce past (lines.Drew e call segid) = IsNowhere (facts_at past) e.0 call.0
AsksOnce past (lines.Named e call segid) = IsNowhere (facts_at past) e.0 call.0 × ((cells past e.0 call.0).far ≡ true)
AsksOnce past (lines.AnswerSegid e p call segid) = IsNowhere (facts_at past) e.0 call.0
AsksOnce past (lines.Remove e segid) = (k : ℕ) → (cells past e.0 k).drew ≡ Some (segid_number segid) → IsNowhere (facts_at past) e.0 k
AsksOnce past (lines.Unnamed segid) = (e k : ℕ) → (cells past e k).drew ≡ Some (segid_number segid) → IsNowhere (facts_at past) e k
AsksOnce past line = Unit {0}

-- ---- line by line

moved : (G H : Facts) (c : CallCell) (e k : ℕ) → ((a b : ℕ) → calls_in H e k a b ≡ calls_in G e k a b) → IsNowhere G e k ⊎ IsBetween G c e k → IsNowhere H e k ⊎ IsBetween H c e k
moved G H c e k same (inl none) = inl (λ a b. same a b ∙ none a b)
moved G H c e k same (inr one) = inr (record { from = one.from; to = one.to; rec = one.rec; flight = λ a b. same a b ∙ one.flight a b; fits = one.fits })

stands_cond : (change : CallCell → CallCell) → ((c : CallCell) → (c.near ≡ true → c.far ≡ true) → (change c).near ≡ true → (change c).far ≡ true)
    → (t : Bool) (c : CallCell) → (c.near ≡ true → c.far ≡ true) → (cond t (change c) c).near ≡ true → (cond t (change c) c).far ≡ true
stands_cond change keeps true c old = keeps c old
stands_cond change keeps false c old = old

-- cells change where none of their records is under way
cell_changes : (past : List Line) (line : Line) → ((a b : ℕ) → (facts_at (line ∷ past)).channel a b ≡ (facts_at past).channel a b)
    → ((e k : ℕ) → IsSingle past e k → IsNowhere (facts_at past) e k ⊎ IsBetween (facts_at past) (cells (line ∷ past) e k) e k)
    → ((e k : ℕ) → (cells (line ∷ past) e k).near ≡ true → (cells (line ∷ past) e k).far ≡ true) → AreOnly past → AreOnly (line ∷ past)
cell_changes past line channels single stands old = record {
  bounded = λ x y. subst (λ c. c.got ≤ length c.sent) (sym (channels x y)) (old.bounded x y);
  only = λ e k. moved (facts_at past) (facts_at (line ∷ past)) (cells (line ∷ past) e k) e k (λ a b. ap (λ c. filter (is_of e k) (drop c.got c.sent)) (channels a b)) (single e k (old.only e k));
  stands = stands;
}

-- the cell of one call
own_single : (past : List Line) (guard : Bool) (of call : ℕ) (change : CallCell → CallCell) → IsNowhere (facts_at past) of call → (e k : ℕ) → IsSingle past e k
    → IsNowhere (facts_at past) e k ⊎ IsBetween (facts_at past) (cond (guard && is_cell e k of call) (change (cells past e k)) (cells past e k)) e k
own_single past guard of call change nowhere e k was = by (guard && is_cell e k of call) refl
  where
    by : (t : Bool) → (guard && is_cell e k of call) ≡ t → IsNowhere (facts_at past) e k ⊎ IsBetween (facts_at past) (cond t (change (cells past e k)) (cells past e k)) e k
    by true is =
        let same = same_call e k of call (and_parts guard (is_cell e k of call) is).1 in
        inl (subst (λ n. IsNowhere (facts_at past) n k) (sym same.enclave) (subst (λ n. IsNowhere (facts_at past) of n) same.call_is nowhere))
    by false is = was

-- those of one segid
drawn_single : (past : List Line) (change : CallCell → CallCell) (e k s : ℕ) (guard : Bool) → ((cells past e k).drew ≡ Some s → guard ≡ true → IsNowhere (facts_at past) e k) → IsSingle past e k
    → IsNowhere (facts_at past) e k ⊎ IsBetween (facts_at past) (cond (guard && has_drawn s (cells past e k)) (change (cells past e k)) (cells past e k)) e k
drawn_single past change e k s guard nowhere was = by guard refl (has_drawn s (cells past e k)) refl
  where
    by : (g : Bool) → guard ≡ g → (t : Bool) → has_drawn s (cells past e k) ≡ t
        → IsNowhere (facts_at past) e k ⊎ IsBetween (facts_at past) (cond (g && t) (change (cells past e k)) (cells past e k)) e k
    by true holds true is = inl (nowhere (drawn_is s (cells past e k) is) holds)
    by true holds false is = was
    by false holds t is = was

sent_only : (past : List Line) (x y : Enclave) (r : Record) → AsksOnce past (lines.Sent x y r) → AreOnly past → AreOnly (lines.Sent x y r ∷ past)
sent_only past x y r once old = record {
  bounded = λ a b. bounded a b (eqb a x.0 && eqb b y.0);
  only = λ e k. by e k (is_of e k r) refl (old.only e k);
  stands = old.stands;
}
  where
    G : Facts
    G = facts_at past

    bounded : (a b : ℕ) (t : Bool) → (cond t (with_sent r (G.channel a b)) (G.channel a b)).got ≤ length (cond t (with_sent r (G.channel a b)) (G.channel a b)).sent
    bounded a b true = omega (arith, old.bounded a b, length-append (G.channel a b).sent (r ∷ []))
    bounded a b false = old.bounded a b

    other : (e k : ℕ) → is_of e k r ≡ false → (a b : ℕ) → calls_in (facts_at (lines.Sent x y r ∷ past)) e k a b ≡ calls_in G e k a b
    other e k fails a b = tested_sent (is_of e k) G x y r a b old.bounded ∙ rw fails (either (eqb a x.0 && eqb b y.0))
      where
        either : (t : Bool) → cond t (tested (is_of e k) G a b ++ []) (tested (is_of e k) G a b) ≡ tested (is_of e k) G a b
        either true = append-nil (tested (is_of e k) G a b)
        either false = refl

    own : (e k : ℕ) → is_of e k r ≡ true → IsNowhere G e k → (a b : ℕ) → calls_in (facts_at (lines.Sent x y r ∷ past)) e k a b ≡ alone_at x.0 y.0 (r ∷ []) a b
    own e k passes none a b = tested_sent (is_of e k) G x y r a b old.bounded ∙ rw (none a b, passes) refl

    by : (e k : ℕ) (t : Bool) → is_of e k r ≡ t → IsSingle past e k → IsSingle (lines.Sent x y r ∷ past) e k
    by e k true passes was =
        let free = once e k passes in
        inr (record { from = x.0; to = y.0; rec = r; flight = own e k passes free.0; fits = free.1 })
    by e k false fails was = moved G (facts_at (lines.Sent x y r ∷ past)) (cells past e k) e k (other e k fails) was

got_only : (past : List Line) (x y : Enclave) (r : Record) (rs : List Record) → in_flight (facts_at past) x.0 y.0 ≡ r ∷ rs → AreOnly past → AreOnly (lines.Got x y ∷ past)
got_only past x y r rs is old = record {
  bounded = λ a b. bounded a b (eqb a x.0 && eqb b y.0) refl;
  only = λ e k. by e k (old.only e k);
  stands = old.stands;
}
  where
    G : Facts
    G = facts_at past

    bounded : (a b : ℕ) (t : Bool) → (eqb a x.0 && eqb b y.0) ≡ t
        → (cond t (with_got (G.channel a b)) (G.channel a b)).got ≤ length (cond t (with_got (G.channel a b)) (G.channel a b)).sent
    bounded a b true here =
        let some : length (G.channel a b).sent - (G.channel a b).got ≡ suc (length rs)
        = sym (length-drop (G.channel a b).got (G.channel a b).sent) ∙ ap length (same_pair G x.0 y.0 a b (r ∷ rs) here is) in
        omega (arith, some)
    bounded a b false there = old.bounded a b

    by : (e k : ℕ) → IsSingle past e k → IsSingle (lines.Got x y ∷ past) e k
    by e k (inl none) = inl (got_none (is_of e k) G x y r rs is none)
    by e k (inr one) = elim (got_alone (is_of e k) G x y r rs one.from one.to one.rec is one.flight) [
      | inl none ↦ inl none
      | inr still ↦ inr (record { from = one.from; to = one.to; rec = one.rec; flight = still; fits = one.fits })
    ]

pub only_line : (past : List Line) (line : Line) → CallAt past line → AsksOnce past line → AreOnly past → AreOnly (line ∷ past)
only_line past (lines.Sent x y r) legal once old = sent_only past x y r once old
only_line past (lines.Got x y) legal once old = got_only past x y once.0 once.1.others once.1.is old
only_line past (lines.Took x y count) legal once old = record {
  bounded = λ a b. bounded a b (eqb a x.0 && eqb b y.0);
  only = λ e k. moved G (facts_at (lines.Took x y count ∷ past)) (cells past e k) e k (tested_took (is_of e k) G x y count) (old.only e k);
  stands = old.stands;
}
  where
    G : Facts
    G = facts_at past

    bounded : (a b : ℕ) (t : Bool) → (cond t (with_taken count (G.channel a b)) (G.channel a b)).got ≤ length (cond t (with_taken count (G.channel a b)) (G.channel a b)).sent
    bounded a b true = old.bounded a b
    bounded a b false = old.bounded a b
only_line past (lines.Issue of p call) legal once old =
    cell_changes past (lines.Issue of p call) (λ a b. refl) (own_single past (makes (facts_at past).hand) of.0 call.0 (as_issued p.0) once)
    (λ e k. stands_cond (as_issued p.0) (λ c was. was) (makes (facts_at past).hand && is_cell e k of.0 call.0) (cells past e k) (old.stands e k)) old
only_line past (lines.Drew of call segid) legal once old =
    cell_changes past (lines.Drew of call segid) (λ a b. refl) (own_single past true of.0 call.0 (as_drawn (segid_number segid)) once)
    (λ e k. stands_cond (as_drawn (segid_number segid)) (λ c was near. refl) (is_cell e k of.0 call.0) (cells past e k) (old.stands e k)) old
only_line past (lines.Named of call segid) legal once old =
    cell_changes past (lines.Named of call segid) (λ a b. refl) (own_single past true of.0 call.0 (as_near true) once.0)
    (λ e k. cell_at (λ e k c. c.near ≡ true → c.far ≡ true) (as_near true) (cells past) of.0 call.0 e k (λ near. once.1) (λ other. old.stands e k)) old
only_line past (lines.AnswerSegid of p call segid) legal once old =
    cell_changes past (lines.AnswerSegid of p call segid) (λ a b. refl) (own_single past true of.0 call.0 as_answered once)
    (λ e k. stands_cond as_answered (λ c was. was) (is_cell e k of.0 call.0) (cells past e k) (old.stands e k)) old
only_line past (lines.Remove of segid) legal once old =
    cell_changes past (lines.Remove of segid) (λ a b. refl)
    (λ e k was. drawn_single past (as_near false) e k (segid_number segid) (eqb e of.0)
    (λ drew here. subst (λ n. IsNowhere (facts_at past) n k) (sym (eqb-true e of.0 here))
    (once k (subst (λ n. (cells past n k).drew ≡ Some (segid_number segid)) (eqb-true e of.0 here) drew))) was)
    (λ e k. stands_cond (as_near false) (λ c was near. absurd (cc)) (eqb e of.0 && has_drawn (segid_number segid) (cells past e k)) (cells past e k) (old.stands e k)) old
only_line past (lines.Unnamed segid) legal once old =
    cell_changes past (lines.Unnamed segid) (λ a b. refl)
    (λ e k was. drawn_single past as_forgotten e k (segid_number segid) true (λ drew here. once e k drew) was)
    (λ e k. stands e k (has_drawn (segid_number segid) (cells past e k)) refl) old
  where
    stands : (e k : ℕ) (t : Bool) → has_drawn (segid_number segid) (cells past e k) ≡ t → (cond t (as_forgotten (cells past e k)) (cells past e k)).near ≡ true
        → (cond t (as_forgotten (cells past e k)) (cells past e k)).far ≡ true
    stands e k true is near =
        let none = (legal.ended e k (drawn_is (segid_number segid) (cells past e k) is)).0 in
        let clash : true ≡ false = sym near ∙ none in
        absurd (cc)
    stands e k false is near = old.stands e k near
only_line past line legal once old = cell_changes past line (λ a b. refl) (λ e k was. was) old.stands old
