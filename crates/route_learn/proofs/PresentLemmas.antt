-- A list's places that have something, as rows.
use Rattle.std.proofs.Common.{◌≡◌, ◌+◌, ◌<◌, ◌≤◌, ◌^◌, ℕ, zero, suc, Bool, true, false, List, [], ◌∷◌, ◌++◌, length, get_or, take, set, replicate, Option, None, Some, refl, sym, ap, ◌∙◌, inl, inr, arith, eq-eqb, ne_eqb}
use Rattle.std.specs.Prelude.{◌==◌, IsSome, if◌then◌else◌}
use Rattle.std.specs.Cmp.{nat_cmp_is}
use Rattle.std.specs.List.{AllByRecursion}
use Rattle.std.specs.List.Sorted.{IsStrictlySortedBy}
use Rattle.std.specs.Map.{keys_of}
use Rattle.std.specs.Ordering.{nat_cmp}
use Rattle.std.specs.declared.cmp.Ordering.TheVariants.{Less}
use Rattle.std.proofs.lemmas.Bool.{cases_eq, cases_lt, eqb-true}
use Rattle.std.proofs.lemmas.List.{get_or_read, get_or_past, get_or-set_same, get_or-set_other, take_all}
use Rattle.xm_num.specs.RowLaws.{RowLaws}
use Rattle.xm_num.specs.Rows.{at, put, less, next_from, IsAscending}
use Rattle.route_learn.specs.Layout.{present}
use Rattle.route_learn.specs.Routes.{AreNumbers}

module _ {V : Type 0} where
  all_above : (items : List (Option V)) (k first : ℕ) → k < first → AllByRecursion (λ q. nat_cmp k q ≡ Less) (keys_of (present first items))
  all_above [] k first above = tt
  all_above (None ∷ items) k first above = all_above items k (first + 1) (omega arith)
  all_above (Some v ∷ items) k first above = (sym (nat_cmp_is k first Less above), all_above items k (first + 1) (omega arith))

  pub present_ascends : (items : List (Option V)) (first : ℕ) → IsAscending (present first items)
  unfolding IsStrictlySortedBy
  present_ascends [] first = tt
  present_ascends (None ∷ items) first = present_ascends items (first + 1)
  present_ascends (Some v ∷ items) first = (all_above items first (first + 1) (omega arith), present_ascends items (first + 1))

  -- places that have nothing, at the end
  present_room : (items : List (Option V)) (first n : ℕ) → present first (items ++ replicate n None) ≡ present first items
  present_room [] first zero = refl
  present_room [] first (suc n) = present_room [] (first + 1) n
  present_room (None ∷ items) first n = present_room items (first + 1) n
  present_room (Some v ∷ items) first n = ap (λ rows. (first, v) ∷ rows) (present_room items (first + 1) n)

  pub present_resized : (items after : List (Option V)) (n more : ℕ) (ok : Bool) → length items ≤ n
      → after ≡ (if ok then take n items ++ replicate more None else items) → present 0 after ≡ present 0 items
  present_resized items after n more true within is = rw (is, take_all n items within) (present_room items 0 more)
  present_resized items after n more false within is = ap (present 0) is

module _ {V : Type 0} (laws : RowLaws V) where
  -- no place comes before the first
  before_first : (items : List (Option V)) (first q : ℕ) → q < first → at (present first items) q ≡ None
  before_first [] first q before = laws.none q
  before_first (None ∷ items) first q before = before_first items (first + 1) q (omega arith)
  before_first (Some v ∷ items) first q before = laws.later (first, v) _ q (λ is. omega arith) ∙ before_first items (first + 1) q (omega arith)

  at_from : (items : List (Option V)) (first k : ℕ) → at (present first items) (first + k) ≡ get_or items k None
  at_from [] first k = laws.none (first + k)
  at_from (None ∷ items) first zero = before_first items (first + 1) (first + 0) (omega arith)
  at_from (None ∷ items) first (suc k) = let next : first + suc k ≡ first + 1 + k = omega arith in rw next (at_from items (first + 1) k)
  at_from (Some v ∷ items) first zero = let here : first + 0 ≡ first = omega arith in rw here (laws.head (first, v) _)
  at_from (Some v ∷ items) first (suc k) =
      let next : first + suc k ≡ first + 1 + k = omega arith in
      laws.later (first, v) _ (first + suc k) (λ is. omega arith) ∙ rw next (at_from items (first + 1) k)

  pub present_at : (items : List (Option V)) (k : ℕ) → at (present 0 items) k ≡ get_or items k None
  present_at items k = let here : 0 + k ≡ k = omega arith in rw here at (at_from items 0 k)

  -- what is written at a place that is there stands at its number alone
  at_set : (items : List (Option V)) (k q : ℕ) (x : Option V) → k < length items → at (present 0 (set items k x)) q ≡ (if k == q then x else at (present 0 items) q)
  at_set items k q x within = present_at (set items k x) q ∙ elim (cases_eq k q) [
    | inl same ↦ rw (eq-eqb k q same, ← same) (get_or-set_same items k x None within)
    | inr other ↦ rw (ne_eqb k q other) (get_or-set_other items k q x None (λ is. other (sym is)) ∙ sym (present_at items q))
  ]

  pub present_put : (items : List (Option V)) (k : ℕ) (v : V) → k < length items → present 0 (set items k (Some v)) ≡ put (present 0 items) k v
  present_put items k v within =
      laws.same (present 0 (set items k (Some v))) (put (present 0 items) k v) (present_ascends (set items k (Some v)) 0) (laws.put_ascends (present 0 items) k v (present_ascends items 0))
      (λ q. at_set items k q (Some v) within ∙ sym (laws.put_at (present 0 items) k q v))

  pub present_less : (items : List (Option V)) (k : ℕ) → k < length items → present 0 (set items k None) ≡ less (present 0 items) k
  present_less items k within =
      laws.same (present 0 (set items k None)) (less (present 0 items) k) (present_ascends (set items k None) 0) (laws.less_ascends (present 0 items) k (present_ascends items 0))
      (λ q. at_set items k q None within ∙ sym (laws.less_at (present 0 items) k q (present_ascends items 0)))

  pub present_less_past : (items : List (Option V)) (k : ℕ) → length items ≤ k → present 0 items ≡ less (present 0 items) k
  present_less_past items k past =
      laws.same (present 0 items) (less (present 0 items) k) (present_ascends items 0) (laws.less_ascends (present 0 items) k (present_ascends items 0))
      (λ q. by q (k == q) refl ∙ sym (laws.less_at (present 0 items) k q (present_ascends items 0)))
    where
      by : (q : ℕ) (b : Bool) → (k == q) ≡ b → at (present 0 items) q ≡ (if b then None else at (present 0 items) q)
      by q true same = present_at items q ∙ get_or_past items q None (omega (arith, eqb-true k q same))
      by q false other = refl

  pub present_numbers : (items : List (Option V)) → length items ≤ 2 ^ 16 → AreNumbers (present 0 items)
  present_numbers items within d some = elim (cases_lt d (length items)) [
    | inl below ↦ omega arith
    | inr past ↦ let bad : IsSome {T = V} None = rw (present_at items d, get_or_past items d None past) at some in cc
  ]

  pub present_next : (items : List (Option V)) (low k : ℕ) (x : Option V) (v : V) → low ≤ k → k < length items → x ≡ get_or items k x → x ≡ Some v
      → ((q : ℕ) → low ≤ q → q < k → get_or items q None ≡ None) → Some k ≡ next_from (present 0 items) low
  present_next items low k x v from within here is none = sym ((laws.next (present 0 items) low k (present_ascends items 0)).1 (record {
    from = from;
    here = rw (present_at items k, ← get_or_read items k x within here None, is) refl;
    none = λ q above before. present_at items q ∙ none q above before;
  }))

  pub present_no_next : (items : List (Option V)) (low : ℕ) → ((q : ℕ) → low ≤ q → q < length items → get_or items q None ≡ None) → None ≡ next_from (present 0 items) low
  present_no_next items low none = sym ((laws.no_next (present 0 items) low).1 (λ q above. present_at items q ∙ by q above))
    where
      by : (q : ℕ) → low ≤ q → get_or items q None ≡ None
      by q above = elim (cases_lt q (length items)) [
        | inl below ↦ none q above below
        | inr past ↦ get_or_past items q None past
      ]

-- what the calls on ways do to their rows
pub ruleset ways = (present_at, present_put, present_less, present_less_past, present_ascends, present_numbers, present_next, present_no_next, get_or_read)
