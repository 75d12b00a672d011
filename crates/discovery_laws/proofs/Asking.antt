-- Who asks whom for the way, from the query to the answer: by each neighbour that doesn't know the way a query is under way, or
-- the asked one remembers it, or the answer is under way; and no more than one of these.
use Rattle.std.proofs.Common.{◌≡◌, ◌+◌, ◌≤◌, ℕ, List, [], ◌∷◌, Bool, true, false, cond, ◌&&◌, ◌||◌, eqb, drop, inl, inr, is_some, Option, None, Some, refl, sym, ap, ◌∙◌, subst, arith}
use Rattle.std.specs.Prelude.{◌==◌, ◌++◌, ◌⊎◌, if◌then◌else◌}
use Rattle.std.proofs.lemmas.Bool.{eqb-true, eqb-false, eq-eqb, ne_eqb, and_parts}
use Rattle.std.specs.List.Sorted.{IsStrictlySortedBy}
use Rattle.xm_num.specs.declared.Enclave.{Enclave}
use Rattle.xm_num.specs.Rows.{at, put, IsAscending}
use Rattle.xm_num.specs.RowLaws.{RowLaws}
use Rattle.xemem_language.specs.declared.record.Record.{Record}
use Rattle.xemem_language.specs.declared.record.Body.{Body}
use Rattle.xemem_language.specs.declared.record.Body.TheVariants as bodies
use Rattle.xemem_language.specs.declared.line.Line.TheVariants as lines
use Rattle.global_model.specs.Facts.{Facts, after_line, at_number, with_sent}
use Rattle.global_model.specs.Channels.{is_neighbour}
use Rattle.global_model.specs.Tree.{parent_of}
use Rattle.discovery_laws.specs.Known.{askers_of, holds, in_flight, knows, way_at}
use Rattle.discovery_laws.proofs.Effects.{number_at, way_learns, way_clears, asked_leaves, asked_keeps}
use Rattle.discovery_laws.proofs.Flights.{one_if, count, count-append, add, add-turned, pair_has, sent_more, flies_more, got_sent, flies_less}
use Rattle.discovery_laws.proofs.Underway.{IsBounded, bounded_sent, bounded_got}

abbrev pub is_query_body : Body → Bool
is_query_body bodies.Query = true
is_query_body body = false

abbrev pub is_here_body : Body → Bool
is_here_body bodies.Here = true
is_here_body body = false

abbrev pub is_query : Record → Bool
is_query r = is_query_body r.body

abbrev pub is_here : Record → Bool
is_here r = is_here_body r.body

-- the place of a neighbour among those of an enclave with that parent
abbrev pub place : ℕ → ℕ → ℕ
place parent x = if x == parent then 0 else x + 1

-- a remembers that b asked it
abbrev pub remembers : Facts → ℕ → ℕ → Bool
remembers G a b = is_some (at (askers_of G a) (place (parent_of G a) b))

abbrev pub queries_sent : Facts → ℕ → ℕ → ℕ
queries_sent G a b = count is_query (G.channel a b).sent

abbrev pub queries_flying : Facts → ℕ → ℕ → ℕ
queries_flying G a b = count is_query (in_flight G a b)

abbrev pub heres_sent : Facts → ℕ → ℕ → ℕ
heres_sent G a b = count is_here (G.channel a b).sent

abbrev pub heres_flying : Facts → ℕ → ℕ → ℕ
heres_flying G a b = count is_here (in_flight G a b)

-- What holds in the middle of a step, where `owed a b` is 1 where a is still to answer, or to remember, that b asked, and
-- `knowing` are those that know the way or are about to learn it.
pub record IsCounted (owed : ℕ → ℕ → ℕ) (knowing : ℕ → Bool) (G : Facts) : Type 0 where
  pub within : IsBounded G
  pub ascends : (e : ℕ) → IsAscending (askers_of G e)
  pub keyed : (e k : ℕ) (x : Enclave) → at (askers_of G e) k ≡ Some x → k ≡ place (parent_of G e) x.0
  pub still : (e k : ℕ) → knows G e ≡ true → at (askers_of G e) k ≡ None
  pub asks : (a b : ℕ) → queries_sent G a b ≤ 1
  pub once : (a b : ℕ) → heres_sent G a b + one_if (remembers G a b) + owed a b + queries_flying G b a ≤ 1
  pub asked : (a b : ℕ) → is_neighbour G a b ≡ true
      → 1 ≤ one_if (knowing a) + one_if (remembers G b a) + owed b a + queries_flying G a b + heres_flying G b a

pub none_ascends : IsAscending {V = Enclave} []
unfolding IsStrictlySortedBy
none_ascends = tt

not_none : {o : Option Enclave} {x : Enclave} → o ≡ None → o ≡ Some x → ⊥
not_none none some = let clash = sym none ∙ some in cc

-- what holds of the new value at a number, and of all others as before
pub number_has : {A : Type 0} (P : ℕ → A → Type 0) (k : ℕ) (v : A) (f : ℕ → A) (j : ℕ) → P k v → (eqb j k ≡ false → P j (f j))
    → P j (at_number k v f j)
number_has P k v f j here there = by (eqb j k) refl
  where
    by : (t : Bool) → eqb j k ≡ t → P j (cond t v (f j))
    by true is = subst (λ i. P i v) (sym (eqb-true j k is)) here
    by false is = there is

-- ---- lines that change nothing of this

pub record IsAlike (G H : Facts) : Type 0 where
  pub born : H.born ≡ G.born
  pub server : H.server ≡ G.server
  pub holds : (e : ℕ) → holds H e ≡ holds G e
  pub parent : (e : ℕ) → parent_of H e ≡ parent_of G e
  pub near : (a b : ℕ) → is_neighbour H a b ≡ is_neighbour G a b
  pub way : (e : ℕ) → way_at H e ≡ way_at G e
  pub heard : (e : ℕ) → H.heard e ≡ G.heard e
  pub sent : (a b : ℕ) → (H.channel a b).sent ≡ (G.channel a b).sent
  pub got : (a b : ℕ) → (H.channel a b).got ≡ (G.channel a b).got
  pub cut : (a b : ℕ) → (H.channel a b).cut ≡ (G.channel a b).cut

pub record AsksSame (G H : Facts) : Type 0 where
  pub alike : IsAlike G H
  pub askers : (e : ℕ) → askers_of H e ≡ askers_of G e

module _ (G H : Facts) (alike : IsAlike G H) where
  pub same_knows : (e : ℕ) → knows H e ≡ knows G e
  same_knows e = λ i. alike.holds e i || is_some (alike.way e i)

  pub same_flight : (a b : ℕ) → in_flight H a b ≡ in_flight G a b
  same_flight a b = λ i. drop (alike.got a b i) (alike.sent a b i)

module _ (G H : Facts) (same : AsksSame G H) where
  pub same_remembers : (a b : ℕ) → remembers H a b ≡ remembers G a b
  same_remembers a b = λ i. is_some (at (same.askers a i) (place (same.alike.parent a i) b))

  pub counted_same : (owed : ℕ → ℕ → ℕ) (knowing : ℕ → Bool) → IsCounted owed knowing G → IsCounted owed knowing H
  counted_same owed knowing old = record {
    within = λ a b. rw (same.alike.got a b, same.alike.sent a b) (old.within a b);
    ascends = λ e. rw (same.askers e) (old.ascends e);
    keyed = λ e k x is. old.keyed e k x (sym (ap (λ rows. at rows k) (same.askers e)) ∙ is) ∙ ap (λ p. place p x.0) (sym (same.alike.parent e));
    still = λ e k is. ap (λ rows. at rows k) (same.askers e) ∙ old.still e k (sym (same_knows G H same.alike e) ∙ is);
    asks = λ a b. rw (same.alike.sent a b) (old.asks a b);
    once = λ a b.
        let heres : heres_sent H a b ≡ heres_sent G a b = ap (count is_here) (same.alike.sent a b) in
        let kept : one_if (remembers H a b) ≡ one_if (remembers G a b) = ap one_if (same_remembers a b) in
        let queries : queries_flying H b a ≡ queries_flying G b a = ap (count is_query) (same_flight G H same.alike b a) in
        omega (arith, heres, kept, queries, old.once a b);
    asked = λ a b near.
        let heres : heres_flying H b a ≡ heres_flying G b a = ap (count is_here) (same_flight G H same.alike b a) in
        let kept : one_if (remembers H b a) ≡ one_if (remembers G b a) = ap one_if (same_remembers b a) in
        let queries : queries_flying H a b ≡ queries_flying G a b = ap (count is_query) (same_flight G H same.alike a b) in
        omega (arith, heres, kept, queries, old.asked a b (sym (same.alike.near a b) ∙ near));
  }

-- ---- a record is sent

-- what was owed is sent: an answer of x, or the query of y's that x is to send
pub counted_sent : (owed left : ℕ → ℕ → ℕ) (knowing : ℕ → Bool) (G : Facts) (x y : Enclave) (r : Record)
    → ((a b : ℕ) → owed a b ≡ left a b + add (is_here r) x.0 y.0 a b + add (is_query r) y.0 x.0 a b)
    → (is_query r ≡ true → queries_sent G x.0 y.0 ≡ 0)
    → IsCounted owed knowing G → IsCounted left knowing (after_line G (lines.Sent x y r))
counted_sent owed left knowing G x y r pays first old = record {
  within = bounded_sent G x y r old.within;
  ascends = old.ascends;
  keyed = old.keyed;
  still = old.still;
  asks = λ a b. pair_has (λ a b t c. count is_query c.sent ≤ 1) x.0 y.0 (with_sent r) G.channel a b (by (is_query r) refl) (old.asks a b);
  once = λ a b.
      let heres = sent_more is_here G x y r a b in
      let queries = flies_more is_query G x y r b a old.within in
      let turned = add-turned (is_query r) x.0 y.0 b a in
      omega (arith, heres, queries, turned, pays a b, old.once a b);
  asked = λ a b near.
      let heres = flies_more is_here G x y r b a old.within in
      let queries = flies_more is_query G x y r a b old.within in
      let turned = add-turned (is_query r) x.0 y.0 a b in
      omega (arith, heres, queries, turned, pays b a, old.asked a b near);
}
  where
    by : (t : Bool) → is_query r ≡ t → count is_query ((G.channel x.0 y.0).sent ++ r ∷ []) ≤ 1
    by true is =
        let one : one_if (is_query r) ≡ 1 = ap one_if is in
        omega (arith, one, first is, count-append is_query (G.channel x.0 y.0).sent (r ∷ []))
    by false is =
        let none : one_if (is_query r) ≡ 0 = ap one_if is in
        omega (arith, none, old.asks x.0 y.0, count-append is_query (G.channel x.0 y.0).sent (r ∷ []))

-- ---- a record is got

-- who gets a query owes an answer; who is told the way knows it, or is about to learn it
pub counted_got : (owed more : ℕ → ℕ → ℕ) (knowing later : ℕ → Bool) (G : Facts) (x y : Enclave) (r : Record) (behind : List Record)
    → in_flight G x.0 y.0 ≡ r ∷ behind
    → ((a b : ℕ) → more a b ≡ owed a b + add (is_query r) y.0 x.0 a b)
    → ((a : ℕ) → one_if (knowing a) ≤ one_if (later a)) → (is_here r ≡ true → later y.0 ≡ true)
    → IsCounted owed knowing G → IsCounted more later (after_line G (lines.Got x y))
counted_got owed more knowing later G x y r behind next owes grows told old = record {
  within = bounded_got G x y r behind next old.within;
  ascends = old.ascends;
  keyed = old.keyed;
  still = old.still;
  asks = λ a b. rw (got_sent G x y a b) (old.asks a b);
  once = λ a b.
      let heres : heres_sent (after_line G (lines.Got x y)) a b ≡ heres_sent G a b = ap (count is_here) (got_sent G x y a b) in
      let queries = flies_less G x y r behind next is_query b a in
      let turned = add-turned (is_query r) x.0 y.0 b a in
      omega (arith, heres, queries, turned, owes a b, old.once a b);
  asked = λ a b near.
      let heres = flies_less G x y r behind next is_here b a in
      let queries = flies_less G x y r behind next is_query a b in
      let turned = add-turned (is_query r) x.0 y.0 a b in
      omega (arith, heres, queries, turned, owes b a, grows a, by a b (is_here r) refl, old.asked a b near);
}
  where
    by : (a b : ℕ) (t : Bool) → is_here r ≡ t → add t x.0 y.0 b a ≤ one_if (later a)
    by a b false is = omega arith
    by a b true is = at_y (eqb b x.0 && eqb a y.0) refl
      where
        at_y : (t : Bool) → (eqb b x.0 && eqb a y.0) ≡ t → one_if t ≤ one_if (later a)
        at_y false here = omega arith
        at_y true here =
            let same : a ≡ y.0 = eqb-true a y.0 (and_parts (eqb b x.0) (eqb a y.0) here).1 in
            let knows : one_if (later a) ≡ 1 = ap one_if (ap later same ∙ told is) in
            omega (arith, knows)

-- ---- the way is learned

-- those that asked are owed an answer, but for the one that told the way
pub counted_way : (owed left : ℕ → ℕ → ℕ) (knowing : ℕ → Bool) (laws : RowLaws Enclave) (G : Facts) (y from : Enclave)
    → ((a b : ℕ) → eqb a y.0 ≡ false → left a b ≡ owed a b)
    → ((b : ℕ) → owed y.0 b ≡ 0)
    → ((b : ℕ) → left y.0 b ≤ one_if (remembers G y.0 b))
    → ((b : ℕ) → one_if (remembers G y.0 b) ≤ one_if (eqb b from.0) + left y.0 b)
    → knowing from.0 ≡ true
    → IsCounted owed knowing G → IsCounted left knowing (after_line G (lines.Way y from))
counted_way owed left knowing laws G y from elsewhere none most least told old = record {
  within = old.within;
  ascends = λ e. number_at (λ e rows. IsAscending rows) y.0 [] (askers_of G) (askers_of H) (way_clears G y from) e none_ascends (λ other. old.ascends e);
  keyed = λ e k x. number_at (λ e rows. at rows k ≡ Some x → k ≡ place (parent_of G e) x.0) y.0 [] (askers_of G) (askers_of H) (way_clears G y from) e
      (λ is. absurd (not_none (laws.none k) is)) (λ other. old.keyed e k x);
  still = λ e k is. number_at (λ e rows. at rows k ≡ None) y.0 [] (askers_of G) (askers_of H) (way_clears G y from) e (laws.none k) (λ other. old.still e k (before e other is));
  asks = old.asks;
  once = λ a b. number_at (λ a rows. heres_sent G a b + one_if (is_some (at rows (place (parent_of G a) b))) + left a b + queries_flying G b a ≤ 1)
      y.0 [] (askers_of G) (askers_of H) (way_clears G y from) a
      (let empty : one_if (is_some (at [] (place (parent_of G y.0) b))) ≡ 0 = ap (λ o. one_if (is_some o)) (laws.none (place (parent_of G y.0) b)) in
      omega (arith, empty, most b, old.once y.0 b))
      (λ other. omega (arith, elsewhere a b other, old.once a b));
  asked = λ a b near. number_at (λ b rows. is_neighbour G a b ≡ true
      → 1 ≤ one_if (knowing a) + one_if (is_some (at rows (place (parent_of G b) a))) + left b a + queries_flying G a b + heres_flying G b a)
      y.0 [] (askers_of G) (askers_of H) (way_clears G y from) b
      (λ near.
      let empty : one_if (is_some (at [] (place (parent_of G y.0) a))) ≡ 0 = ap (λ o. one_if (is_some o)) (laws.none (place (parent_of G y.0) a)) in
      omega (arith, empty, least a, none a, by a (eqb a from.0) refl, old.asked a y.0 near))
      (λ other near. omega (arith, elsewhere b a other, old.asked a b near)) near;
}
  where
    H : Facts
    H = after_line G (lines.Way y from)

    by : (a : ℕ) (t : Bool) → eqb a from.0 ≡ t → one_if (eqb a from.0) ≤ one_if (knowing a)
    by a true is = let knows : one_if (knowing a) ≡ 1 = ap one_if (ap knowing (eqb-true a from.0 is) ∙ told) in omega (arith, knows, ap one_if is)
    by a false is = omega (arith, ap one_if is)

    before : (e : ℕ) → eqb e y.0 ≡ false → knows H e ≡ true → knows G e ≡ true
    before e other is = ap (λ o. holds G e || is_some o) (sym (way_learns G y from e ∙ ap (λ t. cond t (Some from) (way_at G e)) other)) ∙ is

-- ---- who asked is remembered

pub one_place : (parent x y : ℕ) → place parent x ≡ place parent y → x ≡ y
one_place parent x y = by (eqb x parent) (eqb y parent) refl refl
  where
    by : (s t : Bool) → eqb x parent ≡ s → eqb y parent ≡ t → cond s 0 (x + 1) ≡ cond t 0 (y + 1) → x ≡ y
    by true true first second same = eqb-true x parent first ∙ sym (eqb-true y parent second)
    by true false first second same = absurd (omega (arith, same))
    by false true first second same = absurd (omega (arith, same))
    by false false first second same = omega (arith, same)

-- what a remembers of b once y remembers `by`: that one now, instead of owing it, and the others as before
record IsRemembered (owed left : ℕ → ℕ → ℕ) (G H : Facts) (a b : ℕ) : Type 0 where
  either : ((one_if (remembers H a b) ≡ 1) × (owed a b ≡ left a b + 1))
      ⊎ ((one_if (remembers H a b) ≡ one_if (remembers G a b)) × (owed a b ≡ left a b))

kept : (owed left : ℕ → ℕ → ℕ) (laws : RowLaws Enclave) (G : Facts) (y asker : Enclave)
    → ((a b : ℕ) → owed a b ≡ left a b + add true y.0 asker.0 a b)
    → (a b : ℕ) → IsRemembered owed left G (after_line G (lines.Asked y asker)) a b
kept owed left laws G y asker pays a b = record {
  either = number_at (λ a rows. ((one_if (is_some (at rows (place (parent_of G a) b))) ≡ 1) × (owed a b ≡ left a b + 1))
      ⊎ ((one_if (is_some (at rows (place (parent_of G a) b))) ≡ one_if (remembers G a b)) × (owed a b ≡ left a b)))
      y.0 (put (askers_of G y.0) (place p asker.0) asker) (askers_of G) (askers_of H) (asked_keeps G y asker) a
      (at_y (eqb b asker.0) refl (pays y.0 b ∙ ap (λ t. left y.0 b + one_if (t && eqb b asker.0)) (eq-eqb y.0 y.0 refl)))
      (λ other. let pay = pays a b ∙ ap (λ t. left a b + one_if (t && eqb b asker.0)) other in inr (refl, omega (arith, pay)));
}
  where
    H : Facts
    H = after_line G (lines.Asked y asker)

    p : ℕ
    p = parent_of G y.0

    at_y : (t : Bool) → eqb b asker.0 ≡ t → owed y.0 b ≡ left y.0 b + one_if t
        → ((one_if (is_some (at (put (askers_of G y.0) (place p asker.0) asker) (place p b))) ≡ 1) × (owed y.0 b ≡ left y.0 b + 1))
        ⊎ ((one_if (is_some (at (put (askers_of G y.0) (place p asker.0) asker) (place p b))) ≡ one_if (remembers G y.0 b)) × (owed y.0 b ≡ left y.0 b))
    at_y true is pay =
        let same : b ≡ asker.0 = eqb-true b asker.0 is in
        let found = laws.put_at (askers_of G y.0) (place p asker.0) (place p b) asker in
        let here : eqb (place p asker.0) (place p b) ≡ true = eq-eqb (place p asker.0) (place p b) (ap (place p) (sym same)) in
        inl (ap (λ o. one_if (is_some o)) (found ∙ ap (λ t. cond t (Some asker) (at (askers_of G y.0) (place p b))) here), pay)
    at_y false is pay =
        let other : b ≡ asker.0 → ⊥ = eqb-false b asker.0 is in
        let found = laws.put_at (askers_of G y.0) (place p asker.0) (place p b) asker in
        let there : eqb (place p asker.0) (place p b) ≡ false
        = ne_eqb (place p asker.0) (place p b) (λ same. other (sym (one_place p asker.0 b same))) in
        inr (ap (λ o. one_if (is_some o)) (found ∙ ap (λ t. cond t (Some asker) (at (askers_of G y.0) (place p b))) there), omega (arith, pay))

pub counted_asked : (owed left : ℕ → ℕ → ℕ) (knowing : ℕ → Bool) (laws : RowLaws Enclave) (G : Facts) (y asker : Enclave)
    → ((a b : ℕ) → owed a b ≡ left a b + add true y.0 asker.0 a b) → knows G y.0 ≡ false
    → IsCounted owed knowing G → IsCounted left knowing (after_line G (lines.Asked y asker))
counted_asked owed left knowing laws G y asker pays unknowing old = record {
  within = old.within;
  ascends = λ e. number_at (λ e rows. IsAscending rows) y.0 rows (askers_of G) (askers_of H) (asked_keeps G y asker) e
      (laws.put_ascends (askers_of G y.0) (place p asker.0) asker (old.ascends y.0)) (λ other. old.ascends e);
  keyed = λ e k x. number_at (λ e rows. at rows k ≡ Some x → k ≡ place (parent_of G e) x.0) y.0 rows (askers_of G) (askers_of H) (asked_keeps G y asker) e
      (λ is. key k x (eqb (place p asker.0) k) refl (sym (laws.put_at (askers_of G y.0) (place p asker.0) k asker) ∙ is)) (λ other. old.keyed e k x);
  still = λ e k is. number_at (λ e rows. knows G e ≡ true → at rows k ≡ None) y.0 rows (askers_of G) (askers_of H) (asked_keeps G y asker) e
      (λ is. let clash : true ≡ false = sym is ∙ unknowing in cc) (λ other is. old.still e k is)
      (sym (ap (λ o. holds G e || is_some o) (asked_leaves G y asker e)) ∙ is);
  asks = old.asks;
  once = λ a b. elim ((kept owed left laws G y asker pays a b).either) [
    | inl new ↦ let old_one = old.once a b in omega (arith, new.0, new.1, old_one)
    | inr same ↦ let old_one = old.once a b in omega (arith, same.0, same.1, old_one)
  ];
  asked = λ a b near. elim ((kept owed left laws G y asker pays b a).either) [
    | inl new ↦ omega (arith, new.0, new.1)
    | inr same ↦ let old_one = old.asked a b near in omega (arith, same.0, same.1, old_one)
  ];
}
  where
    H : Facts
    H = after_line G (lines.Asked y asker)

    p : ℕ
    p = parent_of G y.0

    rows : List (ℕ × Enclave)
    rows = put (askers_of G y.0) (place p asker.0) asker

    key : (k : ℕ) (x : Enclave) (t : Bool) → eqb (place p asker.0) k ≡ t → cond t (Some asker) (at (askers_of G y.0) k) ≡ Some x → k ≡ place p x.0
    key k x true is found =
        let same : asker ≡ x = cc in
        sym (eqb-true (place p asker.0) k is) ∙ ap (λ z. place p z.0) same
    key k x false is found = old.keyed y.0 k x found
