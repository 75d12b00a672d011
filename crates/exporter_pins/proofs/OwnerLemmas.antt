-- The rows of what stands at the frames' places, and the groups of places.
use Rattle.std.proofs.Common.{◌≡◌, ◌+◌, ◌-◌, ◌/◌, ◌<◌, ◌≤◌, ℕ, zero, suc, Bool, true, false, cond, not, ◌&&◌, ◌||◌, List, [], ◌∷◌, map, length, get_or, set, replicate, eqb, ltb, Option, None, Some, refl, sym, ap, ◌∙◌, inl, inr, arith, get_or-set_same, get_or-set_other, length-set}
use Rattle.std.specs.Prelude.{◌==◌, is_some, IsSome, IfSome, IfNone, Result, Ok, Err, slice_get}
use Rattle.std.specs.List.{AllByRecursion}
use Rattle.std.specs.List.Sorted.{IsStrictlySortedBy, IsBinarySearchResult}
use Rattle.std.specs.Map.{keys_of}
use Rattle.std.specs.Ordering.{nat_cmp, is_lt}
use Rattle.std.specs.Result.{result_ok}
use Rattle.std.specs.declared.cmp.Ordering.{Ordering}
use Rattle.std.specs.declared.cmp.Ordering.TheVariants.{Less, Equal, Greater}
use Rattle.std.proofs.lemmas.Bool.{ne_eqb, eq-eqb, eqb-true, ltb-true, cases_eq, cases_order, or_cases, or_left, false_from_ne_true}
use Rattle.std.proofs.lemmas.Map.Keys.{sorted_head}
use Rattle.std.proofs.lemmas.Cmp.{nat_cmp_total}
use Rattle.std.proofs.lemmas.List.{length-replicate}
use Rattle.std.proofs.lemmas.List.Sorted.{searchable_from_sorted}
use Rattle.std.proofs.lemmas.Option.{slice_get_within, slice_get-get_or, get_or_from_slice_get}
use Rattle.xm_num.specs.declared.Frame.{Frame}
use Rattle.xm_num.specs.RowLaws.{RowLaws}
use Rattle.xm_num.specs.Rows.{at, put, less, IsAscending}
use Rattle.exporter_pins.specs.Holdings.{AreAscendingFrames, has_frame}
use Rattle.number_pairs.specs.Pairs.{has_pair}
use Rattle.exporter_pins.specs.Layout.{owner_at, with_row, owner_rows, is_owner, HasPlace, AreGrouped, AreOwned}
use Rattle.exporter_pins.proofs.FrameLemmas.{less_from, above, none_later, tail}

-- ---- the rows

keys_above : (a : ℕ) (fs : List Frame) (os : List (Option ℕ)) → AllByRecursion (λ y. nat_cmp a y ≡ Less) (map (λ frame. frame.0) fs) → AllByRecursion (λ y. nat_cmp a y ≡ Less) (keys_of (owner_rows fs os))
keys_above a [] os all = tt
keys_above a (f ∷ fs) [] all = tt
keys_above a (f ∷ fs) (None ∷ os) all = keys_above a fs os all.1
keys_above a (f ∷ fs) (Some p ∷ os) all = (all.0, keys_above a fs os all.1)

pub rows_ascend : (fs : List Frame) (os : List (Option ℕ)) → AreAscendingFrames fs → IsAscending (owner_rows fs os)
unfolding IsStrictlySortedBy
rows_ascend [] os ascends = tt
rows_ascend (f ∷ fs) [] ascends = tt
rows_ascend (f ∷ fs) (None ∷ os) ascends = rows_ascend fs os ascends.1
rows_ascend (f ∷ fs) (Some p ∷ os) ascends = (keys_above f.0 fs os ascends.0, rows_ascend fs os ascends.1)

-- a place is at most its frame's number
number_from : (low : ℕ) (fs : List Frame) (i number : ℕ) → ((k : ℕ) → has_frame fs k ≡ true → low ≤ k) → AreAscendingFrames fs → slice_get fs i ≡ Some (record { 0 = number }) → low + i ≤ number
number_from low [] i number least ascends is = cc
number_from low (f ∷ fs) zero number least ascends is =
    let same : f.0 ≡ number = cc in
    omega (arith, least number (or_left (f.0 == number) (has_frame fs number) (eq-eqb f.0 number same)))
number_from low (f ∷ fs) (suc i) number least ascends is =
    omega (
      arith,
      least f.0 (or_left (f.0 == f.0) (has_frame fs f.0) (eq-eqb f.0 f.0 refl)),
      number_from (f.0 + 1) fs i number (λ k here. omega (arith, above f.0 k fs (sorted_head nat_cmp f.0 (map (λ frame. frame.0) fs) ascends) here)) (tail f fs ascends) is,
    )

pub place_small : (fs : List Frame) (i number : ℕ) → AreAscendingFrames fs → slice_get fs i ≡ Some (record { 0 = number }) → i ≤ number
place_small fs i number ascends is = omega (arith, number_from 0 fs i number (λ k here. omega arith) ascends is)

pub has_at : (fs : List Frame) (i number : ℕ) → slice_get fs i ≡ Some (record { 0 = number }) → has_frame fs number ≡ true
has_at [] i number is = cc
has_at (f ∷ fs) zero number is = let same : f.0 ≡ number = cc in or_left (f.0 == number) (has_frame fs number) (eq-eqb f.0 number same)
has_at (f ∷ fs) (suc i) number is = by (f.0 == number) (has_at fs i number is)
  where
    by : (t : Bool) → has_frame fs number ≡ true → (t || has_frame fs number) ≡ true
    by true more = refl
    by false more = more

-- a frame with a number has a place
pub record HasNumber (fs : List Frame) (k : ℕ) : Type 0 where
  pub place : ℕ
  pub is : slice_get fs place ≡ Some (record { 0 = k })

pub number_found : (fs : List Frame) (k : ℕ) → has_frame fs k ≡ true → HasNumber fs k
number_found [] k here = cc
number_found (f ∷ fs) k here = elim (or_cases (f.0 == k) (has_frame fs k) here) [
  | inl same ↦ let is : f.0 ≡ k = eqb-true f.0 k same in record { place = 0; is = λ i. Some (record { 0 = is i }) }
  | inr later ↦ let found = number_found fs k later in record { place = suc found.place; is = found.is }
]

module _ (laws : RowLaws ℕ) where
  none_at : (fs : List Frame) (os : List (Option ℕ)) (k : ℕ) → has_frame fs k ≡ false → at (owner_rows fs os) k ≡ None
  none_at [] os k none = laws.none k
  none_at (f ∷ fs) [] k none = laws.none k
  none_at (f ∷ fs) (o ∷ os) k none = by (f.0 == k) refl none o (λ later. none_at fs os k later)
    where
      by : (t : Bool) → (f.0 == k) ≡ t → (t || has_frame fs k) ≡ false → (o : Option ℕ) → (has_frame fs k ≡ false → at (owner_rows fs os) k ≡ None) → at (with_row f.0 o (owner_rows fs os)) k ≡ None
      by true is none o more = cc
      by false is none None more = more none
      by false is none (Some p) more = laws.later (f.0, p) (owner_rows fs os) k (λ same. let bad : true ≡ false = sym (eq-eqb f.0 k (sym same)) ∙ is in cc) ∙ more none

  head_at : (f : Frame) (fs : List Frame) (o : Option ℕ) (os : List (Option ℕ)) (k : ℕ) → AreAscendingFrames (f ∷ fs) → at (owner_rows (f ∷ fs) (o ∷ os)) k ≡ cond (f.0 == k) o (at (owner_rows fs os) k)
  head_at f fs None os k ascends = elim (cases_eq f.0 k) [
    | inl same ↦ rw (eq-eqb f.0 k same) (none_at fs os k (ap (has_frame fs) (sym same) ∙ none_later f fs ascends))
    | inr other ↦ rw (ne_eqb f.0 k other) refl
  ]
  head_at f fs (Some p) os k ascends = elim (cases_eq f.0 k) [
    | inl same ↦ rw (eq-eqb f.0 k same, ← same) (laws.head (f.0, p) (owner_rows fs os))
    | inr other ↦ rw (ne_eqb f.0 k other) (laws.later (f.0, p) (owner_rows fs os) k (λ same. other (sym same)))
  ]

  apart : (f : Frame) (fs : List Frame) (i number : ℕ) → AreAscendingFrames (f ∷ fs) → slice_get fs i ≡ Some (record { 0 = number }) → f.0 ≡ number → ⊥
  apart f fs i number ascends is same =
      let bad : true ≡ false = sym (has_at fs i number is) ∙ ap (has_frame fs) (sym same) ∙ none_later f fs ascends in cc

  pub found_at : (fs : List Frame) (os : List (Option ℕ)) (i number : ℕ) → AreAscendingFrames fs → slice_get fs i ≡ Some (record { 0 = number }) → at (owner_rows fs os) number ≡ owner_at os i
  found_at [] os i number ascends is = cc
  found_at (f ∷ fs) [] i number ascends is = laws.none number
  found_at (f ∷ fs) (o ∷ os) zero number ascends is =
      let same : f.0 ≡ number = cc in
      head_at f fs o os number ascends ∙ rw (eq-eqb f.0 number same) refl
  found_at (f ∷ fs) (o ∷ os) (suc i) number ascends is =
      head_at f fs o os number ascends ∙ rw (ne_eqb f.0 number (apart f fs i number ascends is)) (found_at fs os i number (tail f fs ascends) is)

  set_at : (fs : List Frame) (os : List (Option ℕ)) (i number : ℕ) (o : Option ℕ) (k : ℕ) → AreAscendingFrames fs → slice_get fs i ≡ Some (record { 0 = number }) → length os ≡ length fs
      → at (owner_rows fs (set os i o)) k ≡ cond (number == k) o (at (owner_rows fs os) k)
  set_at [] os i number o k ascends is long = cc
  set_at (f ∷ fs) [] i number o k ascends is long = absurd (omega arith)
  set_at (f ∷ fs) (q ∷ os) zero number o k ascends is long =
      let same : f.0 ≡ number = cc in
      head_at f fs o os k ascends ∙ rw (head_at f fs q os k ascends, same) (by (number == k))
    where
      by : (t : Bool) → cond t o (at (owner_rows fs os) k) ≡ cond t o (cond t q (at (owner_rows fs os) k))
      by true = refl
      by false = refl
  set_at (f ∷ fs) (q ∷ os) (suc i) number o k ascends is long =
      head_at f fs q (set os i o) k ascends ∙ rw (head_at f fs q os k ascends, set_at fs os i number o k (tail f fs ascends) is (omega arith)) (elim (cases_eq f.0 k) [
        | inl same ↦ rw (eq-eqb f.0 k same, ne_eqb number k (λ also. apart f fs i number ascends is (same ∙ sym also))) refl
        | inr other ↦ rw (ne_eqb f.0 k other) refl
      ])

  module _ (fs : List Frame) (os : List (Option ℕ)) (groups : List (ℕ × ℕ)) (kept : AreOwned fs os groups) where
    pub ascends : IsAscending (owner_rows fs os)
    ascends = rows_ascend fs os kept.ascending

    module _ (i number : ℕ) (is : slice_get fs i ≡ Some (record { 0 = number })) where
      pub put_is : (pid : ℕ) → owner_rows fs (set os i (Some pid)) ≡ put (owner_rows fs os) number pid
      put_is pid = laws.same (owner_rows fs (set os i (Some pid))) (put (owner_rows fs os) number pid) (rows_ascend fs (set os i (Some pid)) kept.ascending) (laws.put_ascends (owner_rows fs os) number pid ascends)
          (λ k. set_at fs os i number (Some pid) k kept.ascending is kept.long ∙ sym (laws.put_at (owner_rows fs os) number k pid))

      pub less_is : owner_rows fs (set os i None) ≡ less (owner_rows fs os) number
      less_is = laws.same (owner_rows fs (set os i None)) (less (owner_rows fs os) number) (rows_ascend fs (set os i None) kept.ascending) (laws.less_ascends (owner_rows fs os) number ascends)
          (λ k. set_at fs os i number None k kept.ascending is kept.long ∙ sym (laws.less_at (owner_rows fs os) number k ascends))

      pub is_at : at (owner_rows fs os) number ≡ owner_at os i
      is_at = found_at fs os i number kept.ascending is

      pub within : i < length os
      within = omega (arith, slice_get_within fs i (record { 0 = number }) is, kept.long)

    pub not_at : (k : ℕ) → has_frame fs k ≡ false → at (owner_rows fs os) k ≡ None
    not_at k none = none_at fs os k none

    -- a process in no group has no frame
    pub none_of : (pid : ℕ) → ((b : ℕ) → has_pair groups pid b ≡ false) → (k : ℕ) → is_owner pid (at (owner_rows fs os) k) ≡ false
    none_of pid none k = by (has_frame fs k) refl
      where
        at_place : (i : ℕ) (o : Option ℕ) → owner_at os i ≡ o → is_owner pid o ≡ false
        at_place i None here = refl
        at_place i (Some p) here = false_from_ne_true (p == pid) (λ same.
            let its : owner_at os i ≡ Some pid = here ∙ ap Some (eqb-true p pid same) in
            let bad : true ≡ false = sym (kept.grouped.listed i pid its) ∙ none (i / 64) in cc)

        by : (t : Bool) → has_frame fs k ≡ t → is_owner pid (at (owner_rows fs os) k) ≡ false
        by false not_here = ap (is_owner pid) (none_at fs os k not_here)
        by true here =
            let found = number_found fs k here in
            ap (is_owner pid) (found_at fs os found.place k kept.ascending found.is) ∙ at_place found.place (owner_at os found.place) refl

    -- a place that a process has is that of a frame
    pub place_within : (i pid : ℕ) → owner_at os i ≡ Some pid → i < length fs
    place_within i pid here = omega (arith, kept.long, some_within os i pid here)
      where
        some_within : (os : List (Option ℕ)) (i pid : ℕ) → owner_at os i ≡ Some pid → i < length os
        some_within [] i pid here = cc
        some_within (o ∷ os) zero pid here = omega arith
        some_within (o ∷ os) (suc i) pid here = omega (arith, some_within os i pid here)

-- ---- the groups

module _ (os : List (Option ℕ)) (groups : List (ℕ × ℕ)) (grouped : AreGrouped os groups) (i : ℕ) (within : i < length os) where
  set_here : (o : Option ℕ) → owner_at (set os i o) i ≡ o
  set_here o = get_or-set_same os i o None within

  set_there : (o : Option ℕ) (k : ℕ) → (k ≡ i → ⊥) → owner_at (set os i o) k ≡ owner_at os k
  set_there o k other = get_or-set_other os i k o None other

  module _ (pid : ℕ) (none : owner_at os i ≡ None) where
    other_place : (k p : ℕ) → owner_at os k ≡ Some p → k ≡ i → ⊥
    other_place k p here same = let bad : None ≡ Some p = sym none ∙ ap (owner_at os) (sym same) ∙ here in cc

    -- a process that has no frame there gets one
    pub grouped_more : (new : List (ℕ × ℕ)) → ((p g : ℕ) → has_pair new p g ≡ ((pid == p) && (i / 64 == g) || has_pair groups p g)) → AreGrouped (set os i (Some pid)) new
    grouped_more new more = record {
      listed = λ k p here. elim (cases_eq k i) [
        | inl same ↦
            let its : pid ≡ p = let both : Some pid ≡ Some p = sym (set_here (Some pid)) ∙ ap (owner_at (set os i (Some pid))) (sym same) ∙ here in cc in
            more p (k / 64) ∙ rw (eq-eqb pid p its, same, eq-eqb (i / 64) (i / 64) refl) refl
        | inr other ↦
            let old : has_pair groups p (k / 64) ≡ true = grouped.listed k p (sym (set_there (Some pid) k other) ∙ here) in
            more p (k / 64) ∙ rw old (right ((pid == p) && (i / 64 == k / 64)))
      ];
      exact = λ p g pair. by p g (pid == p) (i / 64 == g) refl refl (sym (more p g) ∙ pair);
    }
      where
        right : (t : Bool) → (t || true) ≡ true
        right true = refl
        right false = refl

        kept : (p g : ℕ) → has_pair groups p g ≡ true → HasPlace (set os i (Some pid)) p g
        kept p g pair = let was = grouped.exact p g pair in record {
          place = was.place;
          within = was.within;
          here = set_there (Some pid) was.place (other_place was.place p was.here) ∙ was.here;
        }

        by : (p g : ℕ) (s t : Bool) → (pid == p) ≡ s → (i / 64 == g) ≡ t → (s && t || has_pair groups p g) ≡ true → HasPlace (set os i (Some pid)) p g
        by p g true true its group pair = record {
          place = i;
          within = eqb-true (i / 64) g group;
          here = set_here (Some pid) ∙ ap Some (eqb-true pid p its);
        }
        by p g true false its group pair = kept p g pair
        by p g false t its group pair = kept p g pair

    -- one that has a frame of the group gets one more
    pub grouped_same : (k : ℕ) → owner_at os k ≡ Some pid → k / 64 ≡ i / 64 → AreGrouped (set os i (Some pid)) groups
    grouped_same k here group = grouped_more groups (λ p g. by p g (pid == p) (i / 64 == g) refl refl)
      where
        by : (p g : ℕ) (s t : Bool) → (pid == p) ≡ s → (i / 64 == g) ≡ t → has_pair groups p g ≡ (s && t || has_pair groups p g)
        by p g true true its same = rw (← eqb-true pid p its, ← eqb-true (i / 64) g same, ← group) (grouped.listed k pid here)
        by p g true false its same = refl
        by p g false t its same = refl

  module _ (pid : ℕ) (its : owner_at os i ≡ Some pid) where
    after : (k p : ℕ) → owner_at (set os i None) k ≡ Some p → owner_at os k ≡ Some p
    after k p here = elim (cases_eq k i) [
      | inl same ↦ absurd (let bad : None ≡ Some p = sym (set_here None) ∙ ap (owner_at (set os i None)) (sym same) ∙ here in (cc))
      | inr other ↦ sym (set_there None k other) ∙ here
    ]

    still : (p g : ℕ) → has_pair groups p g ≡ true → ((pid ≡ p) → (i / 64 ≡ g) → ⊥) → HasPlace (set os i None) p g
    still p g pair other = let was = grouped.exact p g pair in record {
      place = was.place;
      within = was.within;
      here = set_there None was.place (λ same. other
          (let both : Some pid ≡ Some p = sym its ∙ ap (owner_at os) (sym same) ∙ was.here in cc)
          (ap (λ k. k / 64) (sym same) ∙ was.within)) ∙ was.here;
    }

    -- the process gives it up, and has another one of the group
    pub grouped_still : (k : ℕ) → owner_at (set os i None) k ≡ Some pid → k / 64 ≡ i / 64 → AreGrouped (set os i None) groups
    grouped_still k here group = record {
      listed = λ j p there. grouped.listed j p (after j p there);
      exact = λ p g pair. elim (cases_eq pid p) [
        | inl same ↦ elim (cases_eq (i / 64) g) [
          | inl also ↦ record { place = k; within = group ∙ also; here = here ∙ ap Some same }
          | inr other ↦ still p g pair (λ one two. other two)
        ]
        | inr other ↦ still p g pair (λ one two. other one)
      ];
    }

    -- the process gives it up, and has none of the group
    pub grouped_less : (new : List (ℕ × ℕ)) → ((p g : ℕ) → has_pair new p g ≡ (not ((pid == p) && (i / 64 == g)) && has_pair groups p g))
        → ((k : ℕ) → k / 64 ≡ i / 64 → is_owner pid (owner_at (set os i None) k) ≡ false) → AreGrouped (set os i None) new
    grouped_less new fewer none = record {
      listed = λ j p there. fewer p (j / 64) ∙ rw (grouped.listed j p (after j p there)) (listed j p there (pid == p) (i / 64 == j / 64) refl refl);
      exact = λ p g pair. by p g (pid == p) (i / 64 == g) refl refl (sym (fewer p g) ∙ pair);
    }
      where
        listed : (j p : ℕ) → owner_at (set os i None) j ≡ Some p → (s t : Bool) → (pid == p) ≡ s → (i / 64 == j / 64) ≡ t → (not (s && t) && true) ≡ true
        listed j p there true true same group = absurd (
            let passes : is_owner pid (owner_at (set os i None) j) ≡ true = rw there (eq-eqb p pid (sym (eqb-true pid p same))) in
            let bad : true ≡ false = sym passes ∙ none j (sym (eqb-true (i / 64) (j / 64) group)) in (cc))
        listed j p there true false same group = refl
        listed j p there false t same group = refl

        apart : (a b : ℕ) → (a == b) ≡ false → a ≡ b → ⊥
        apart a b is same = let bad : true ≡ false = sym (eq-eqb a b same) ∙ is in cc

        by : (p g : ℕ) (s t : Bool) → (pid == p) ≡ s → (i / 64 == g) ≡ t → (not (s && t) && has_pair groups p g) ≡ true → HasPlace (set os i None) p g
        by p g true true same group pair = cc
        by p g true false same group pair = still p g pair (λ one two. apart (i / 64) g group two)
        by p g false t same group pair = still p g pair (λ one two. apart pid p same one)

-- ---- what is kept, after a change at a frame's place

pub placed : (fs gs : List Frame) (r : Option ℕ) (i number : ℕ) → gs ≡ fs → r ≡ Some i → IfSome r (λ place. slice_get gs place ≡ Some (record { 0 = number })) → slice_get fs i ≡ Some (record { 0 = number })
placed fs gs r i number same is here = rw (is, same) at here

pub if_none : {A P : Type 0} (r : Option A) → P → IfNone r P
if_none None p = p
if_none (Some x) p = tt

module _ (laws : RowLaws ℕ) (fs : List Frame) (os : List (Option ℕ)) (groups : List (ℕ × ℕ)) (kept : AreOwned fs os groups) where
  pub must_have : (gs : List Frame) (r : Option ℕ) (number pid : ℕ) → gs ≡ fs → IfNone r (has_frame gs number ≡ false) → at (owner_rows fs os) number ≡ Some pid → IsSome r
  must_have gs (Some i) number pid same none has = refl
  must_have gs None number pid same none has =
      let bad : None ≡ Some pid = sym (not_at laws fs os groups kept number (ap (λ xs. has_frame xs number) (sym same) ∙ none)) ∙ has in cc

  module _ (i number : ℕ) (is : slice_get fs i ≡ Some (record { 0 = number })) where
    long_set : (o : Option ℕ) → length (set os i o) ≡ length fs
    long_set o = length-set os i o ∙ kept.long

    inside : i < length os
    inside = within laws fs os groups kept i number is

    module _ (pid : ℕ) (fresh : at (owner_rows fs os) number ≡ None) where
      none : owner_at os i ≡ None
      none = sym (is_at laws fs os groups kept i number is) ∙ fresh

      pub kept_more : (g : ℕ) (new : List (ℕ × ℕ)) → g ≡ i / 64 → ((p k : ℕ) → has_pair new p k ≡ ((pid == p) && (g == k) || has_pair groups p k)) → AreOwned fs (set os i (Some pid)) new
      kept_more g new group more = record {
        ascending = kept.ascending;
        long = long_set (Some pid);
        grouped = grouped_more os groups kept.grouped i inside pid none new (λ p k. more p k ∙ ap (λ g. (pid == p) && (g == k) || has_pair groups p k) group);
      }

      pub kept_beside : owner_at os (i - 1) ≡ Some pid → (i - 1) / 64 ≡ i / 64 → AreOwned fs (set os i (Some pid)) groups
      kept_beside here group = record {
        ascending = kept.ascending;
        long = long_set (Some pid);
        grouped = grouped_same os groups kept.grouped i inside pid none (i - 1) here group;
      }

    module _ (pid : ℕ) (has : at (owner_rows fs os) number ≡ Some pid) (g : ℕ) (group : g ≡ i / 64) (now : List (Option ℕ)) (is_now : now ≡ set os i None) where
      its : owner_at os i ≡ Some pid
      its = sym (is_at laws fs os groups kept i number is) ∙ has

      pub kept_less : (new : List (ℕ × ℕ)) (r : Option ℕ) → ((p k : ℕ) → has_pair new p k ≡ (not ((pid == p) && (g == k)) && has_pair groups p k)) → is_some r ≡ false
          → IfNone r ((k : ℕ) → k / 64 ≡ g → is_owner pid (owner_at now k) ≡ false) → AreOwned fs (set os i None) new
      kept_less new (Some j) fewer is empty = cc
      kept_less new None fewer is empty = record {
        ascending = kept.ascending;
        long = long_set None;
        grouped = grouped_less os groups kept.grouped i inside pid its new (λ p k. fewer p k ∙ ap (λ g. not ((pid == p) && (g == k)) && has_pair groups p k) group)
            (λ k same. ap (λ xs. is_owner pid (owner_at xs k)) (sym is_now) ∙ empty k (same ∙ sym group));
      }

      pub kept_still : (r : Option ℕ) → is_some r ≡ true → IfSome r (λ place. place / 64 ≡ g) → IfSome r (λ place. owner_at now place ≡ Some pid) → AreOwned fs (set os i None) groups
      kept_still None some same here = cc
      kept_still (Some j) some same here = record {
        ascending = kept.ascending;
        long = long_set None;
        grouped = grouped_still os groups kept.grouped i inside pid its j (ap (λ xs. owner_at xs j) (sym is_now) ∙ here) (same ∙ group);
      }

-- ---- a search among ascending frames

number_le : (fs : List Frame) (i j : ℕ) (d : Frame) → AreAscendingFrames fs → i ≤ j → j < length fs → (get_or fs i d).0 ≤ (get_or fs j d).0
number_le [] i j d ascends le low = absurd (omega arith)
number_le (f ∷ fs) zero zero d ascends le low = omega arith
number_le (f ∷ fs) zero (suc j) d ascends le low =
    let here : slice_get fs j ≡ Some (get_or fs j d) = slice_get-get_or fs j d (omega arith) in
    omega (arith, above f.0 (get_or fs j d).0 fs (sorted_head nat_cmp f.0 (map (λ frame. frame.0) fs) ascends) (has_at fs j (get_or fs j d).0 here))
number_le (f ∷ fs) (suc i) zero d ascends le low = absurd (omega arith)
number_le (f ∷ fs) (suc i) (suc j) d ascends le low = number_le fs i j d (tail f fs ascends) (omega arith) (omega arith)

not_below : (a b : ℕ) → a ≤ b → is_lt (nat_cmp b a) ≡ false
not_below a b le = by (ltb b a) refl (eqb b a)
  where
    by : (t : Bool) → ltb b a ≡ t → (s : Bool) → is_lt (cond t Less (cond s Equal Greater)) ≡ false
    by true less s = absurd (omega (arith, ltb-true b a less))
    by false less true = refl
    by false less false = refl

pub search_none : (fs : List Frame) (number : ℕ) (r : Result ℕ ℕ) (o : Option ℕ) → AreAscendingFrames fs → IsBinarySearchResult (λ (frame : Frame). nat_cmp frame.0 number) fs r → o ≡ result_ok r → IfNone o (has_frame fs number ≡ false)
search_none fs number (Ok i) o ascends found is = rw is tt
search_none fs number (Err i) o ascends found is =
    rw is
    (let parts = found (searchable_from_sorted nat_cmp_total (λ (frame : Frame). frame.0) fs number (λ k d low high. not_below _ _ (number_le fs k (k + 1) d ascends (omega arith) (omega arith)))) in
    false_from_ne_true (has_frame fs number) (λ here.
    let place = number_found fs number here in
    let low : place.place < length fs = slice_get_within fs place.place (record { 0 = number }) place.is in
    let is : get_or fs place.place (record { 0 = number }) ≡ record { 0 = number } = get_or_from_slice_get fs place.place (record { 0 = number }) (record { 0 = number }) place.is in
    elim (cases_order place.place i) [
      | inl same ↦ let more : nat_cmp number number ≡ Greater = ap (λ (f : Frame). nat_cmp f.0 number) (sym is) ∙ parts.1 place.place (record { 0 = number }) (omega arith) low in never Greater more
      | inr (inl less) ↦ let lower : nat_cmp number number ≡ Less = ap (λ (f : Frame). nat_cmp f.0 number) (sym is) ∙ parts.0 place.place (record { 0 = number }) (omega arith) less in omega (arith, less_from number number lower)
      | inr (inr above) ↦ let more : nat_cmp number number ≡ Greater = ap (λ (f : Frame). nat_cmp f.0 number) (sym is) ∙ parts.1 place.place (record { 0 = number }) (omega arith) low in never Greater more
    ]))
  where
    itself : nat_cmp number number ≡ Equal
    itself = by (ltb number number) refl
      where
        by : (t : Bool) → ltb number number ≡ t → cond t Less (cond (eqb number number) Equal Greater) ≡ Equal
        by true less = absurd (omega (arith, ltb-true number number less))
        by false less = rw (eq-eqb number number refl) refl

    never : (o : Ordering) → nat_cmp number number ≡ Greater → ⊥
    never o more = let bad : Equal ≡ Greater = sym itself ∙ more in cc

-- a place of the list has something
pub must_be : {A : Type 0} {P : Type 0} (xs : List A) (i : ℕ) → i < length xs → slice_get xs i ≡ None → P
must_be [] i low none = absurd (omega arith)
must_be (x ∷ xs) zero low none = cc
must_be (x ∷ xs) (suc i) low none = must_be xs i (omega arith) none

pub empty_rows : (fs : List Frame) (n : ℕ) → owner_rows fs (replicate n None) ≡ []
empty_rows [] n = refl
empty_rows (f ∷ fs) zero = refl
empty_rows (f ∷ fs) (suc n) = empty_rows fs n

empty_at : (n i : ℕ) → owner_at (replicate n None) i ≡ None
empty_at zero i = refl
empty_at (suc n) zero = refl
empty_at (suc n) (suc i) = empty_at n i

pub kept_empty : (fs : List Frame) → AreAscendingFrames fs → AreOwned fs (replicate (length fs) None) []
kept_empty fs ascends = record {
  ascending = ascends;
  long = length-replicate (length fs) None;
  grouped = record {
    listed = λ i pid here. let bad : None ≡ Some pid = sym (empty_at (length fs) i) ∙ here in cc;
    exact = λ pid group pair. cc;
  };
}
