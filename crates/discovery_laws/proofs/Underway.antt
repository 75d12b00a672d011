-- What is under way from one enclave to another: what was sent and wasn't got.
use Rattle.std.proofs.Common.{◌≡◌, ◌+◌, ◌-◌, ◌≤◌, ℕ, zero, suc, List, [], ◌∷◌, ◌++◌, drop, length, Bool, true, false, cond, ◌&&◌, eqb, leb, refl, sym, ap, ◌∙◌, subst, arith, length-append, length-drop}
use Rattle.std.specs.List.{AllByRecursion}
use Rattle.std.proofs.lemmas.Bool.{eqb-true, and_parts}
use Rattle.xm_num.specs.declared.Enclave.{Enclave}
use Rattle.xemem_language.specs.declared.record.Record.{Record}
use Rattle.xemem_language.specs.declared.line.Line.TheVariants as lines
use Rattle.global_model.specs.Channels.{arriving, size_of, whole_records}
use Rattle.global_model.specs.Facts.{Facts, after_line, with_got, with_sent}
use Rattle.discovery_laws.specs.Known.{in_flight}

-- no more records were got of a channel than were sent
abbrev pub IsBounded : Facts → Type 0
IsBounded G = (x y : ℕ) → (G.channel x y).got ≤ length (G.channel x y).sent

-- ---- a record is sent

-- what was sent is under way until it is got
pub drop-behind : {A : Type 0} (n : ℕ) (xs : List A) (x : A) → n ≤ length xs → drop n (xs ++ x ∷ []) ≡ drop n xs ++ x ∷ []
drop-behind zero xs x le = refl
drop-behind (suc n) [] x le = absurd (omega (arith, le))
drop-behind (suc n) (w ∷ xs) x le = drop-behind n xs x (omega (arith, le))

pub flight_sent : (G : Facts) (x y : Enclave) (r : Record) (a b : ℕ) → IsBounded G
    → in_flight (after_line G (lines.Sent x y r)) a b ≡ cond (eqb a x.0 && eqb b y.0) (in_flight G a b ++ r ∷ []) (in_flight G a b)
flight_sent G x y r a b bounded = by (eqb a x.0 && eqb b y.0)
  where
    by : (t : Bool) → drop (cond t (with_sent r (G.channel a b)) (G.channel a b)).got (cond t (with_sent r (G.channel a b)) (G.channel a b)).sent
        ≡ cond t (in_flight G a b ++ r ∷ []) (in_flight G a b)
    by true = drop-behind (G.channel a b).got (G.channel a b).sent r (bounded a b)
    by false = refl

pub bounded_sent : (G : Facts) (x y : Enclave) (r : Record) → IsBounded G → IsBounded (after_line G (lines.Sent x y r))
bounded_sent G x y r bounded a b = by (eqb a x.0 && eqb b y.0)
  where
    by : (t : Bool) → (cond t (with_sent r (G.channel a b)) (G.channel a b)).got ≤ length (cond t (with_sent r (G.channel a b)) (G.channel a b)).sent
    by true = omega (arith, bounded a b, length-append (G.channel a b).sent (r ∷ []))
    by false = bounded a b

-- ---- the next record is got

-- a record is the next of those under way, and these come behind it
pub record IsNextOf (r : Record) (rs : List Record) : Type 0 where
  pub others : List Record
  pub is : rs ≡ r ∷ others

next_sent : (n bytes : ℕ) (r : Record) (rs others : List Record) → drop n (whole_records bytes rs) ≡ r ∷ others → IsNextOf r (drop n rs)
next_sent zero bytes r [] others is = cc
next_sent (suc n) bytes r [] others is = cc
next_sent zero bytes r (s ∷ ss) others is = by (leb (size_of s) bytes) is
  where
    by : (b : Bool) → cond b (s ∷ whole_records (bytes - size_of s) ss) [] ≡ r ∷ others → IsNextOf r (s ∷ ss)
    by true found = record { others = ss; is = let same : s ≡ r = cc in ap (λ t. t ∷ ss) same }
    by false found = cc
next_sent (suc n) bytes r (s ∷ ss) others is = by (λ found. next_sent n (bytes - size_of s) r ss others found) (leb (size_of s) bytes) is
  where
    by : (drop n (whole_records (bytes - size_of s) ss) ≡ r ∷ others → IsNextOf r (drop n ss)) → (b : Bool)
        → drop (suc n) (cond b (s ∷ whole_records (bytes - size_of s) ss) []) ≡ r ∷ others → IsNextOf r (drop n ss)
    by later true found = later found
    by later false found = cc

-- what arrives next is the next of what is under way
pub next_flight : (G : Facts) (x y : ℕ) (r : Record) (others : List Record) → arriving (G.channel x y) ≡ r ∷ others → IsNextOf r (in_flight G x y)
next_flight G x y r others is = next_sent (G.channel x y).got (G.channel x y).taken r (G.channel x y).sent others is

pub drop-more : {A : Type 0} (n : ℕ) (x : A) (ws xs : List A) → drop n ws ≡ x ∷ xs → drop (n + 1) ws ≡ xs
drop-more zero x [] xs is = cc
drop-more zero x (w ∷ ws) xs is = cc
drop-more (suc n) x [] xs is = cc
drop-more (suc n) x (w ∷ ws) xs is = let e : suc n + 1 ≡ suc (n + 1) = omega arith in rw e (drop-more n x ws xs is)

pub flight_got : (G : Facts) (x y : Enclave) (r : Record) (rs : List Record) (a b : ℕ) → in_flight G x.0 y.0 ≡ r ∷ rs
    → in_flight (after_line G (lines.Got x y)) a b ≡ cond (eqb a x.0 && eqb b y.0) rs (in_flight G a b)
flight_got G x y r rs a b is = by (eqb a x.0 && eqb b y.0) refl
  where
    by : (t : Bool) → (eqb a x.0 && eqb b y.0) ≡ t
        → drop (cond t (with_got (G.channel a b)) (G.channel a b)).got (cond t (with_got (G.channel a b)) (G.channel a b)).sent
        ≡ cond t rs (in_flight G a b)
    by true here =
        let both = and_parts (eqb a x.0) (eqb b y.0) here in
        let same : in_flight G a b ≡ r ∷ rs = rw (eqb-true a x.0 both.0, eqb-true b y.0 both.1) is in
        drop-more (G.channel a b).got r (G.channel a b).sent rs same
    by false other = refl

pub bounded_got : (G : Facts) (x y : Enclave) (r : Record) (rs : List Record) → in_flight G x.0 y.0 ≡ r ∷ rs → IsBounded G
    → IsBounded (after_line G (lines.Got x y))
bounded_got G x y r rs is bounded a b = by (eqb a x.0 && eqb b y.0) refl
  where
    by : (t : Bool) → (eqb a x.0 && eqb b y.0) ≡ t
        → (cond t (with_got (G.channel a b)) (G.channel a b)).got ≤ length (cond t (with_got (G.channel a b)) (G.channel a b)).sent
    by true here =
        let both = and_parts (eqb a x.0) (eqb b y.0) here in
        let same : in_flight G a b ≡ r ∷ rs = rw (eqb-true a x.0 both.0, eqb-true b y.0 both.1) is in
        let some : length (G.channel a b).sent - (G.channel a b).got ≡ suc (length rs)
        = sym (length-drop (G.channel a b).got (G.channel a b).sent) ∙ ap length same in
        omega (arith, some)
    by false other = bounded a b

-- ---- all records

-- what is under way was sent
all-dropped : (P : Record → Type 0) (n : ℕ) (rs : List Record) → AllByRecursion P rs → AllByRecursion P (drop n rs)
all-dropped P zero rs all = all
all-dropped P (suc n) [] all = tt
all-dropped P (suc n) (r ∷ rs) all = all-dropped P n rs all.1

pub first_has : (P : Record → Type 0) (G : Facts) (x y : ℕ) (r : Record) (rs : List Record) → AllByRecursion P (G.channel x y).sent
    → in_flight G x y ≡ r ∷ rs → P r
first_has P G x y r rs all is = (subst (AllByRecursion P) is (all-dropped P (G.channel x y).got (G.channel x y).sent all)).0
