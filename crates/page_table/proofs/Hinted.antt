-- That hints stay hints when pages are mapped and unmapped.
use Rattle.std.proofs.Common.{◌≡◌, ◌+◌, ◌-◌, ◌<◌, ◌≤◌, ◌^◌, ◌==◌, ℕ, Bool, true, false, ◌&&◌, List, [], length, Option, None, Some, refl, sym, ◌∙◌, inl, inr, arith, eq-eqb, ne_eqb}
use Rattle.std.specs.Prelude.{nat_le, nat_lt, min, unwrap_or, slice_get, IsSome, OnOk, OnErr, if◌then◌else◌}
use Rattle.std.specs.declared.result.Result.{Result}
use Rattle.std.specs.declared.result.Result.TheVariants.{Ok, Err}
use Rattle.std.proofs.lemmas.Bool.{cases_lt, cases_eq, and_parts, leb-true, ltb-true}
use Rattle.xm_num.specs.Rows.{at, put_all, less_all, lowest_in, next_from, IsAscending, IsLowestFrom}
use Rattle.xm_num.specs.RowLaws.{RowLaws}
use Rattle.page_table.specs.Spaces.{AreWithin, IsGap, IsFirstGap}
use Rattle.page_table.specs.Hints.{hint_of, IsHint, AreHints, IsStart}

module _ {V : Type 0} where
  mapped_not : (rows : List (ℕ × V)) (v : ℕ) → at rows v ≡ None → IsSome (at rows v) → ⊥
  mapped_not rows v none some = let bad : IsSome {T = V} None = rw none at some in cc

  -- nothing is mapped, so page 1 is a hint
  pub hints_nothing : (rows : List (ℕ × V)) → AreHints rows []
  hints_nothing rows n = record { low = omega arith; high = omega arith; none = λ v under gap. omega (arith, gap.low) }

  -- the first gap is a hint, and where there is none the end of the space
  pub first_hint : (rows : List (ℕ × V)) (n : ℕ) (first : Option ℕ) → IsFirstGap rows n first → IsHint rows n (unwrap_or first (2 ^ 24))
  first_hint rows n None none = record { low = omega arith; high = omega arith; none = λ v under. none v }
  first_hint rows n (Some first) is = record { low = is.0.low; high = omega (arith, is.0.high); none = is.1 }

  pub put_hints : {A E : Type 0} (rows : List (ℕ × V)) (before now : List ℕ) (n hint : ℕ) (result : Result A E) → AreHints rows before → IsHint rows n hint
      → ((m : ℕ) → OnOk result (hint_of now m ≡ (if n == m then hint else hint_of before m))) → OnErr result (now ≡ before) → AreHints rows now
  put_hints rows before now n hint (Err error) hints is ok err m = rw err (hints m)
  put_hints rows before now n hint (Ok done) hints is ok err m = elim (cases_eq n m) [
    | inl same ↦ rw (ok m, eq-eqb n m same) (rw same at is)
    | inr other ↦ rw (ok m, ne_eqb n m other) (hints m)
  ]

  -- after pages were mapped, where there was a gap before
  pub hints_put_all : RowLaws V → (rows : List (ℕ × V)) (hints : List ℕ) (k : ℕ) (vs : List V) → lowest_in rows k (k + length vs) ≡ None → AreHints rows hints → AreHints (put_all rows k vs) hints
  hints_put_all laws rows hints k vs free hinted n = record { low = (hinted n).low; high = (hinted n).high; none = λ v under gap. (hinted n).none v under (gap_before v gap) }
    where
      by : (v : ℕ) (b : Bool) → (nat_le k v && nat_lt v (k + length vs)) ≡ b → (if b then slice_get vs (v - k) else at rows v) ≡ None → at rows v ≡ None
      by v false outside none = none
      by v true within none =
          let parts = and_parts (nat_le k v) (nat_lt v (k + length vs)) within in
          (laws.no_lowest rows k (k + length vs)).0 free v (leb-true k v parts.0) (ltb-true v (k + length vs) parts.1)

      gap_before : (first : ℕ) → IsGap (put_all rows k vs) n first → IsGap rows n first
      gap_before first gap = record { low = gap.low; high = gap.high; free = λ v from under. by v (nat_le k v && nat_lt v (k + length vs)) refl (sym (laws.put_all_at rows k v vs) ∙ gap.free v from under) }

module _ {V : Type 0} (laws : RowLaws V) (rows now : List (ℕ × V)) (k m low : ℕ) (next : Option ℕ) where
  abbrev high : ℕ
  high = unwrap_or next (2 ^ 24)

  -- the gap from `low` to `high` has the pages that were unmapped
  pub record Unmaps : Type 0 where
    pub gone : now ≡ less_all rows k m
    pub ascends : IsAscending rows
    pub sorted : IsAscending now
    pub within : AreWithin now
    pub start : IsStart now k low
    pub end : next ≡ next_from now (k + m)

  lowest : Unmaps → (v : ℕ) → next ≡ Some v → IsLowestFrom now (k + m) v
  lowest unmaps v is = (laws.next now (k + m) v unmaps.sorted).0 (sym unmaps.end ∙ is)

  pub low_upto : Unmaps → low ≤ high
  low_upto unmaps = by next refl
    where
      by : (o : Option ℕ) → next ≡ o → low ≤ unwrap_or o (2 ^ 24)
      by None is = unmaps.start.high
      by (Some v) is =
          let found = lowest unmaps v is in
          elim (cases_lt 1 low) [
            | inl behind ↦ omega (arith, found.from, (unmaps.start.behind (low - 1) (omega arith) (omega arith)).0)
            | inr first ↦ omega (arith, unmaps.within v found.here)
          ]

  -- a gap that wasn't there before lies between the two
  from_low : Unmaps → (n first : ℕ) → IsGap now n first → k < first + n → low ≤ first
  from_low unmaps n first gap reaches = elim (cases_lt first low) [
    | inr from ↦ from
    | inl under ↦
        let behind = unmaps.start.behind (low - 1) (omega (arith, gap.low)) (omega (arith, gap.low)) in
        absurd (mapped_not now (low - 1) (gap.free (low - 1) (omega arith) (omega (arith, behind.0))) behind.1)
  ]

  to_high : Unmaps → (n first : ℕ) → IsGap now n first → first < k + m → first + n ≤ high
  to_high unmaps n first gap before = by next refl
    where
      by : (o : Option ℕ) → next ≡ o → first + n ≤ unwrap_or o (2 ^ 24)
      by None is = gap.high
      by (Some v) is =
          let found = lowest unmaps v is in
          elim (cases_lt v (first + n)) [
            | inr upto ↦ upto
            | inl inside ↦ absurd (mapped_not now v (gap.free v (omega (arith, found.from)) inside) found.here)
          ]

  same_outside : Unmaps → (v : ℕ) → (k ≤ v → v < k + m → ⊥) → at now v ≡ None → at rows v ≡ None
  same_outside unmaps v outside none = by (nat_le k v && nat_lt v (k + m)) refl (sym (laws.less_all_at rows k m v unmaps.ascends) ∙ rw unmaps.gone at none)
    where
      by : (b : Bool) → (nat_le k v && nat_lt v (k + m)) ≡ b → (if b then None else at rows v) ≡ None → at rows v ≡ None
      by false is none = none
      by true is none = let parts = and_parts (nat_le k v) (nat_lt v (k + m)) is in absurd (outside (leb-true k v parts.0) (ltb-true v (k + m) parts.1))

  new_gap : Unmaps → (n hint first : ℕ) → IsHint rows n hint → first < hint → IsGap now n first → (low ≤ first) × (first + n ≤ high)
  new_gap unmaps n hint first hinted under gap = elim (cases_lt k (first + n)) [
    | inr ends ↦ absurd (old (λ v from inside low_v high_v. omega arith))
    | inl reaches ↦ elim (cases_lt first (k + m)) [
      | inl before ↦ (from_low unmaps n first gap reaches, to_high unmaps n first gap before)
      | inr behind ↦ absurd (old (λ v from inside low_v high_v. omega arith))
    ]
  ]
    where
      old : ((v : ℕ) → first ≤ v → v < first + n → k ≤ v → v < k + m → ⊥) → ⊥
      old outside = hinted.none first under (record { low = gap.low; high = gap.high; free = λ v from inside. same_outside unmaps v (outside v from inside) (gap.free v from inside) })

  -- after pages were unmapped, where hints for as many pages as the gap has, or fewer, were lowered
  pub hints_less_all : Unmaps → (before after : List ℕ) → AreHints rows before → ((n : ℕ) → n ≤ high - low → hint_of after n ≡ min (hint_of before n) low)
      → ((n : ℕ) → high - low < n → hint_of after n ≡ hint_of before n) → AreHints now after
  hints_less_all unmaps before after hinted few many n = elim (cases_lt (high - low) n) [
    | inl wide ↦ rw (many n wide) (
        record {
          low = (hinted n).low;
          high = (hinted n).high;
          none = λ v under gap. let new = new_gap unmaps n (hint_of before n) v (hinted n) under gap in omega (arith, new.0, new.1);
        })
    | inr fits ↦ rw (few n fits) (
        record {
          low = omega (arith, (hinted n).low, unmaps.start.low);
          high = omega (arith, (hinted n).high);
          none = λ v under gap. let new = new_gap unmaps n (hint_of before n) v (hinted n) (omega arith) gap in omega (arith, new.0);
        })
  ]
