-- How many records of a kind were sent over a channel, and how many of them are under way.
use Rattle.std.proofs.Common.{◌≡◌, ◌+◌, ℕ, List, [], ◌∷◌, ◌++◌, Bool, true, false, cond, ◌&&◌, eqb, refl, sym, ap, ◌∙◌, subst, arith}
use Rattle.std.proofs.lemmas.Bool.{eqb-true, eq-eqb, and_parts}
use Rattle.xm_num.specs.declared.Enclave.{Enclave}
use Rattle.xemem_language.specs.declared.record.Record.{Record}
use Rattle.xemem_language.specs.declared.line.Line.TheVariants as lines
use Rattle.global_model.specs.Facts.{Facts, after_line, at_pair, with_got, with_sent}
use Rattle.discovery_laws.specs.Known.{in_flight}
use Rattle.discovery_laws.proofs.Underway.{IsBounded, flight_sent, flight_got}

abbrev pub one_if : Bool → ℕ
one_if true = 1
one_if false = 0

-- how many records pass the test
abbrev pub count : (Record → Bool) → List Record → ℕ
count test [] = 0
count test (r ∷ rs) = one_if (test r) + count test rs

pub count-append : (test : Record → Bool) (rs ss : List Record) → count test (rs ++ ss) ≡ count test rs + count test ss
count-append test [] ss = omega arith
count-append test (r ∷ rs) ss = let more = count-append test rs ss in omega (arith, more)

-- one at that pair, where the test passes
abbrev pub add : Bool → ℕ → ℕ → ℕ → ℕ → ℕ
add passes x y a b = one_if (passes && (eqb a x && eqb b y))

pub and_turned : (a b : Bool) → (a && b) ≡ (b && a)
and_turned true true = refl
and_turned true false = refl
and_turned false true = refl
and_turned false false = refl

pub add-turned : (passes : Bool) (x y a b : ℕ) → add passes x y a b ≡ add passes y x b a
add-turned passes x y a b = ap (λ here. one_if (passes && here)) (and_turned (eqb a x) (eqb b y))

pub add-here : (x y : ℕ) → add true x y x y ≡ 1
add-here x y = rw (eq-eqb x x refl, eq-eqb y y refl) refl

-- what holds of the value at one pair after a change, and at all others as before
pub pair_has : {A : Type 0} (P : ℕ → ℕ → Bool → A → Type 0) (x y : ℕ) (h : A → A) (f : ℕ → ℕ → A) (a b : ℕ)
    → P x y true (h (f x y)) → P a b false (f a b) → P a b (eqb a x && eqb b y) (at_pair x y h f a b)
pair_has {A = A} P x y h f a b here there = by (eqb a x && eqb b y) refl
  where
    by : (t : Bool) → (eqb a x && eqb b y) ≡ t → P a b t (cond t (h (f a b)) (f a b))
    by true is =
        let both = and_parts (eqb a x) (eqb b y) is in
        let is_x : a ≡ x = eqb-true a x both.0 in
        let is_y : b ≡ y = eqb-true b y both.1 in
        subst (λ n. P n b true (h (f n b))) (sym is_x) (subst (λ n. P x n true (h (f x n))) (sym is_y) here)
    by false is = there

-- ---- a record is sent

module _ (test : Record → Bool) (G : Facts) (x y : Enclave) (r : Record) where
  pub sent_more : (a b : ℕ) → count test ((after_line G (lines.Sent x y r)).channel a b).sent
      ≡ count test (G.channel a b).sent + add (test r) x.0 y.0 a b
  sent_more a b = pair_has (λ a b t c. count test c.sent ≡ count test (G.channel a b).sent + one_if (test r && t)) x.0 y.0 (with_sent r) G.channel a b
      (by (test r) refl) (away (test r))
    where
      by : (t : Bool) → test r ≡ t → count test ((G.channel x.0 y.0).sent ++ r ∷ []) ≡ count test (G.channel x.0 y.0).sent + one_if (t && true)
      by true is = let more = count-append test (G.channel x.0 y.0).sent (r ∷ []) in rw is at more
      by false is = let more = count-append test (G.channel x.0 y.0).sent (r ∷ []) in rw is at more

      away : (t : Bool) → count test (G.channel a b).sent ≡ count test (G.channel a b).sent + one_if (t && false)
      away true = omega arith
      away false = omega arith

  -- and is under way
  pub flies_more : (a b : ℕ) → IsBounded G
      → count test (in_flight (after_line G (lines.Sent x y r)) a b) ≡ count test (in_flight G a b) + add (test r) x.0 y.0 a b
  flies_more a b bounded = ap (count test) (flight_sent G x y r a b bounded) ∙ by (eqb a x.0 && eqb b y.0) (test r) refl
    where
      by : (t passes : Bool) → test r ≡ passes → count test (cond t (in_flight G a b ++ r ∷ []) (in_flight G a b))
          ≡ count test (in_flight G a b) + one_if (passes && t)
      by true true is = let more = count-append test (in_flight G a b) (r ∷ []) in let one = ap one_if is in omega (arith, more, one)
      by true false is = let more = count-append test (in_flight G a b) (r ∷ []) in let none = ap one_if is in omega (arith, more, none)
      by false true is = omega arith
      by false false is = omega arith

-- ---- the first record under way is got

pub got_sent : (G : Facts) (x y : Enclave) (a b : ℕ) → ((after_line G (lines.Got x y)).channel a b).sent ≡ (G.channel a b).sent
got_sent G x y a b = pair_has (λ a b t c. c.sent ≡ (G.channel a b).sent) x.0 y.0 with_got G.channel a b refl refl

pub flies_less : (G : Facts) (x y : Enclave) (r : Record) (behind : List Record) → in_flight G x.0 y.0 ≡ r ∷ behind
    → (test : Record → Bool) (a b : ℕ)
    → count test (in_flight (after_line G (lines.Got x y)) a b) + add (test r) x.0 y.0 a b ≡ count test (in_flight G a b)
flies_less G x y r behind first test a b = by (eqb a x.0 && eqb b y.0) refl (test r) refl
  where
    by : (t : Bool) → (eqb a x.0 && eqb b y.0) ≡ t → (passes : Bool) → test r ≡ passes
        → count test (in_flight (after_line G (lines.Got x y)) a b) + one_if (passes && t) ≡ count test (in_flight G a b)
    by true is passes test_is =
        let both = and_parts (eqb a x.0) (eqb b y.0) is in
        let here : in_flight G a b ≡ r ∷ behind = (λ i. in_flight G (eqb-true a x.0 both.0 i) (eqb-true b y.0 both.1 i)) ∙ first in
        let now : count test (in_flight (after_line G (lines.Got x y)) a b) ≡ count test behind
        = ap (count test) (flight_got G x y r behind a b first ∙ ap (λ t. cond t behind (in_flight G a b)) is) in
        let before : count test (in_flight G a b) ≡ one_if (test r) + count test behind = ap (count test) here in
        let one : one_if (test r) ≡ one_if (passes && true) = ap one_if test_is ∙ last passes in
        omega (arith, now, before, one)
      where
        last : (t : Bool) → one_if t ≡ one_if (t && true)
        last true = refl
        last false = refl
    by false is passes test_is =
        let now : count test (in_flight (after_line G (lines.Got x y)) a b) ≡ count test (in_flight G a b)
        = ap (count test) (flight_got G x y r behind a b first ∙ ap (λ t. cond t behind (in_flight G a b)) is) in
        let none : one_if (passes && false) ≡ 0 = last passes in
        omega (arith, now, none)
      where
        last : (t : Bool) → one_if (t && false) ≡ 0
        last true = refl
        last false = refl
