-- The search for a gap, which goes from row to row.
use Rattle.std.proofs.Common.{◌≡◌, ◌+◌, ◌-◌, ◌<◌, ◌≤◌, ◌^◌, ℕ, Bool, true, false, cond, filter, List, [], ◌∷◌, Option, None, Some, refl, sym, ◌∙◌, ap, inl, inr, arith}
use Rattle.std.specs.Prelude.{nat_le, IsSome}
use Rattle.std.specs.List.{AllByRecursion}
use Rattle.std.specs.declared.cmp.Ordering.TheVariants.{Less}
use Rattle.std.specs.Ordering.{nat_cmp, is_lt}
use Rattle.std.specs.Map.{keys_of}
use Rattle.std.proofs.lemmas.Map.Keys.{sorted_head, sorted_tail}
use Rattle.std.proofs.lemmas.List.Kept.{IsStrictlySortedBy-filter}
use Rattle.std.proofs.lemmas.Bool.{cases_lt, cases_eq, leb-true, leb-false}
use Rattle.std.proofs.lemmas.Bool.Decides.{nat_tests}
use Rattle.xm_num.specs.Rows.{at, IsAscending}
use Rattle.xm_num.specs.RowLaws.{RowLaws}
use Rattle.page_table.specs.Spaces.{AreWithin, IsGap, IsFirstGap}
use Rattle.page_table.specs.Hints.{IsHint, IsStart}
use Rattle.page_table.proofs.FirstLemmas.{at_most}

less_below : (x y : ℕ) → nat_cmp x y ≡ Less → x < y
less_below x y is = grind (arith, nat_tests)

below_less : (x y : ℕ) → x < y → nat_cmp x y ≡ Less
below_less x y under = grind (arith, nat_tests)

module _ {V : Type 0} (laws : RowLaws V) (p : ℕ → Bool) (low : ℕ) (same : (k : ℕ) → p k ≡ nat_le low k) where
  -- the rows from a number on: their order, and what stands at each number
  keys_filter : (es : List (ℕ × V)) → keys_of (filter (λ e. p e.0) es) ≡ filter p (keys_of es)
  keys_filter [] = refl
  keys_filter (e ∷ es) = by (p e.0) (keys_filter es)
    where
      by : (b : Bool) → keys_of (filter (λ e. p e.0) es) ≡ filter p (keys_of es) → keys_of (cond b (e ∷ filter (λ e. p e.0) es) (filter (λ e. p e.0) es)) ≡ cond b (e.0 ∷ filter p (keys_of es)) (filter p (keys_of es))
      by true more = ap (λ ks. e.0 ∷ ks) more
      by false more = more

  rest_ascends : (es : List (ℕ × V)) → IsAscending es → IsAscending (filter (λ e. p e.0) es)
  rest_ascends es ascends = rw (keys_filter es) (IsStrictlySortedBy-filter nat_cmp p (keys_of es) ascends)

  rest_at : (es : List (ℕ × V)) (v : ℕ) → low ≤ v → at (filter (λ e. p e.0) es) v ≡ at es v
  rest_at [] v from = refl
  rest_at (e ∷ es) v from = by (p e.0) refl (rest_at es v from)
    where
      by : (b : Bool) → p e.0 ≡ b → at (filter (λ e. p e.0) es) v ≡ at es v → at (cond b (e ∷ filter (λ e. p e.0) es) (filter (λ e. p e.0) es)) v ≡ at (e ∷ es) v
      by true passes more = elim (cases_eq v e.0) [
        | inl here ↦ rw (here, laws.head e es, laws.head e (filter (λ e. p e.0) es)) refl
        | inr other ↦ rw (laws.later e es v other, laws.later e (filter (λ e. p e.0) es) v other) more
      ]
      by false misses more =
          let below : e.0 < low = leb-false low e.0 (sym (same e.0) ∙ misses) in
          more ∙ sym (laws.later e es v (λ here. omega arith))

  rest_none : (es : List (ℕ × V)) (v : ℕ) → v < low → at (filter (λ e. p e.0) es) v ≡ None
  rest_none [] v below = laws.none v
  rest_none (e ∷ es) v below = by (p e.0) refl (rest_none es v below)
    where
      by : (b : Bool) → p e.0 ≡ b → at (filter (λ e. p e.0) es) v ≡ None → at (cond b (e ∷ filter (λ e. p e.0) es) (filter (λ e. p e.0) es)) v ≡ None
      by true passes more =
          let from : low ≤ e.0 = leb-true low e.0 (sym (same e.0) ∙ passes) in
          laws.later e (filter (λ e. p e.0) es) v (λ here. omega arith) ∙ more
      by false misses more = more

module _ {V : Type 0} where
  -- a search that has come to `first`, with these rows before it
  pub record Searches (rows : List (ℕ × V)) (n first : ℕ) (left : List (ℕ × V)) : Type 0 where
    pub hint : IsHint rows n first
    pub sorted : IsAscending left
    pub passed : (v : ℕ) → v < first → at left v ≡ None
    pub before : (v : ℕ) → first ≤ v → at left v ≡ at rows v

  pub starts : RowLaws V → (p : ℕ → Bool) (rows left : List (ℕ × V)) (n hint : ℕ) → ((k : ℕ) → p k ≡ nat_le hint k) → left ≡ filter (λ e. p e.0) rows → IsAscending rows → IsHint rows n hint
      → Searches rows n hint left
  starts laws p rows left n hint same is ascends hinted =
      rw is (record { hint = hinted; sorted = rest_ascends laws p hint same rows ascends; passed = rest_none laws p hint same rows; before = rest_at laws p hint same rows })

  -- the next row isn't below the place that the search has come to, and no page is mapped in between
  record Comes (rows : List (ℕ × V)) (first k : ℕ) : Type 0 where
    from : first ≤ k
    here : IsSome (at rows k)
    free : (v : ℕ) → first ≤ v → v < k → at rows v ≡ None

  comes : RowLaws V → (rows left more : List (ℕ × V)) (n first : ℕ) (row : ℕ × V) → Searches rows n first left → left ≡ row ∷ more → Comes rows first row.0
  comes laws rows left more n first row search is = record {
    from = from;
    here = rw (← these.before row.0 from, laws.head row more) refl;
    free = λ v low high. sym (these.before v low) ∙ laws.before row more v these.sorted high;
  }
    where
      these : Searches rows n first (row ∷ more)
      these = rw is at search

      from : first ≤ row.0
      from = elim (cases_lt row.0 first) [
        | inl below ↦ absurd (let bad : None ≡ Some row.1 = sym (these.passed row.0 below) ∙ laws.head row more in (cc))
        | inr reached ↦ reached
      ]

  pub comes_to : RowLaws V → (rows left more : List (ℕ × V)) (n first : ℕ) (row : ℕ × V) → Searches rows n first left → left ≡ row ∷ more → first ≤ row.0
  comes_to laws rows left more n first row search is = let come = comes laws rows left more n first row search is in come.from

  -- it goes on past a row that is too near
  no_more : RowLaws V → (k : ℕ) (more : List (ℕ × V)) → AllByRecursion (λ q. nat_cmp k q ≡ Less) (keys_of more) → IsAscending more → at more k ≡ None
  no_more laws k [] above ascends = laws.none k
  no_more laws k (row ∷ rows) above ascends = laws.before row rows k ascends (less_below k row.0 above.0)

  near_hint : (rows : List (ℕ × V)) (n first k : ℕ) → AreWithin rows → IsHint rows n first → Comes rows first k → k - first < n → IsHint rows n (k + 1)
  near_hint rows n first k within hint come near = record { low = omega arith; high = omega (arith, within k come.here); none = none }
    where
      none : (v : ℕ) → v < k + 1 → ¬ IsGap rows n v
      none v under gap = elim (cases_lt v first) [
        | inl passed ↦ hint.none v passed gap
        | inr from ↦
            let bad : IsSome {T = V} None = rw (gap.free k (omega arith) (omega arith)) at come.here in
            cc
      ]

  pub goes_on : RowLaws V → (rows left more : List (ℕ × V)) (n first : ℕ) (row : ℕ × V) → AreWithin rows → Searches rows n first left → left ≡ row ∷ more → row.0 - first < n
      → Searches rows n (row.0 + 1) more
  goes_on laws rows left more n first row within search is near = record { hint = near_hint rows n first row.0 within these.hint come near; sorted = sorted; passed = passed; before = before }
    where
      these : Searches rows n first (row ∷ more)
      these = rw is at search

      come : Comes rows first row.0
      come = comes laws rows left more n first row search is

      sorted : IsAscending more
      sorted = sorted_tail nat_cmp row.0 (keys_of more) these.sorted

      passed : (v : ℕ) → v < row.0 + 1 → at more v ≡ None
      passed v under = elim (cases_eq v row.0) [
        | inl here ↦ rw here (no_more laws row.0 more (sorted_head nat_cmp row.0 (keys_of more) these.sorted) sorted)
        | inr other ↦ sym (laws.later row more v other) ∙ laws.before row more v these.sorted (omega arith)
      ]

      before : (v : ℕ) → row.0 + 1 ≤ v → at more v ≡ at rows v
      before v from = sym (laws.later row more v (λ here. omega arith)) ∙ these.before v (omega (arith, come.from))

  -- it ends before a row that is far enough, or where no row is left
  pub found_here : RowLaws V → (rows left more : List (ℕ × V)) (n first : ℕ) (row : ℕ × V) → AreWithin rows → Searches rows n first left → left ≡ row ∷ more → n ≤ row.0 - first
      → IsFirstGap rows n (Some first)
  found_here laws rows left more n first row within search is room =
      let come = comes laws rows left more n first row search is in
      (record { low = search.hint.low; high = omega (arith, within row.0 come.here, come.from); free = λ v low high. come.free v low (omega (arith, come.from)) }, search.hint.none)

  free_last : RowLaws V → (rows left : List (ℕ × V)) (n first v : ℕ) → Searches rows n first left → left ≡ [] → first ≤ v → at rows v ≡ None
  free_last laws rows left n first v search is from =
      let these : Searches rows n first [] = rw is at search in
      sym (these.before v from) ∙ laws.none v

  pub found_last : RowLaws V → (rows left : List (ℕ × V)) (n first : ℕ) → Searches rows n first left → left ≡ [] → n ≤ 2 ^ 24 - first → IsFirstGap rows n (Some first)
  found_last laws rows left n first search is room =
      (record { low = search.hint.low; high = omega (arith, search.hint.high); free = λ v low high. free_last laws rows left n first v search is low }, search.hint.none)

  pub found_nowhere : (rows left : List (ℕ × V)) (n first : ℕ) → Searches rows n first left → 2 ^ 24 - first < n → IsFirstGap rows n None
  found_nowhere rows left n first search short v gap = elim (cases_lt v first) [
    | inl passed ↦ search.hint.none v passed gap
    | inr from ↦ absurd (omega (arith, gap.high))
  ]

  -- where a gap begins that ends before a number
  pub is_start : (rows : List (ℕ × V)) (number last : ℕ) → AreWithin rows → IsSome (at rows last) → nat_cmp last number ≡ Less
      → ((v : ℕ) → nat_cmp v number ≡ Less → IsSome (at rows v) → is_lt (nat_cmp last v) ≡ false) → IsStart rows number (last + 1)
  is_start rows number last within some below most = record {
    low = omega arith;
    high = omega (arith, within last some);
    free = λ v from under. by v from under (at rows v) refl;
    behind = λ v low is. let same : v ≡ last = omega arith in rw same (less_below last number below, some);
  }
    where
      by : (v : ℕ) → last + 1 ≤ v → v < number → (o : Option V) → at rows v ≡ o → o ≡ None
      by v from under None is = refl
      by v from under (Some value) is =
          let upto : v ≤ last = at_most last v (most v (below_less v number under) (rw is refl)) in
          absurd (omega arith)

  pub starts_first : (rows : List (ℕ × V)) (number : ℕ) → ((v : ℕ) → nat_cmp v number ≡ Less → at rows v ≡ None) → IsStart rows number 1
  starts_first rows number none = record { low = omega arith; high = omega arith; free = λ v from under. none v (below_less v number under); behind = λ v low is. absurd (omega arith) }
