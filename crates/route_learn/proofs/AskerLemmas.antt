-- Who comes first among those that ask, and who asks once the first one is taken.
use Rattle.std.proofs.Common.{◌≡◌, ◌<◌, ℕ, zero, suc, Bool, true, false, not, ◌&&◌, ◌||◌, List, [], ◌∷◌, drop, Option, None, Some, refl, sym, ap, ◌∙◌, subst, inl, inr, arith, eq-eqb, ne_eqb}
use Rattle.std.specs.Prelude.{◌==◌, slice_get, option_map, MatchOption, if◌then◌else◌}
use Rattle.std.specs.Cmp.{unsigned_tied}
use Rattle.std.proofs.lemmas.Bool.{cases_eq, cases_order, le-leb}
use Rattle.std.proofs.lemmas.Option.{cond_some}
use Rattle.xm_num.specs.declared.Neighbour.{Neighbour}
use Rattle.xm_num.specs.declared.Neighbour.TheVariants.{Up, Down}
use Rattle.xm_num.specs.RowLaws.{RowLaws}
use Rattle.xm_num.specs.Rows.{at, less, next_from, IsAscending}
use Rattle.route_learn.specs.Routes.{place_of}
use Rattle.route_learn.specs.Filters.{Event, neighbour_at, any_below, any_lower, is_same, is_asker, asker_of, IsFirstAsker}
use Rattle.route_learn.specs.Filters.Event.{AskerTaken}

-- neighbours at one place are one
pub one_place : (a b : Neighbour) → place_of a ≡ place_of b → a ≡ b
one_place Up Up is = refl
one_place Up (Down d) is = absurd (omega (arith, is))
one_place (Down c) Up is = absurd (omega (arith, is))
one_place (Down c) (Down d) is = let same : c.0 ≡ d.0 = omega (arith, is) in λ i. Down (record { 0 = same i })

its_place : (k : ℕ) → place_of (neighbour_at k) ≡ k
its_place zero = refl
its_place (suc k) = omega arith

-- the neighbour, where the test holds
abbrev pub picked : Neighbour → Bool → Option Neighbour
picked n b = if b then Some n else None

not_picked : (n : Neighbour) (b : Bool) → picked n b ≡ None → b ≡ false
not_picked n true none = cc
not_picked n false none = refl

picked_less : (n : Neighbour) (b same : Bool) → (if same then None else picked n b) ≡ picked n (b && not same)
picked_less n true true = refl
picked_less n true false = refl
picked_less n false true = refl
picked_less n false false = refl

none_below : (p : ℕ → Bool) (n : ℕ) → ((k : ℕ) → k < n → p k ≡ false) → any_below p n ≡ false
none_below p zero none = refl
none_below p (suc n) none = rw (none n (omega arith)) (none_below p n (λ k below. none k (omega arith)))

some_below : (p : ℕ → Bool) (n k : ℕ) → k < n → p k ≡ true → any_below p n ≡ true
some_below p zero k below pass = absurd (omega arith)
some_below p (suc n) k below pass = elim (cases_eq k n) [
  | inl same ↦ let here : p n ≡ true = sym (ap p same) ∙ pass in rw here refl
  | inr other ↦ ap (λ b. p n || b) (some_below p n k (omega arith) pass) ∙ also (p n)
]
  where
    also : (b : Bool) → (b || true) ≡ true
    also true = refl
    also false = refl

next_first : (row : ℕ × Neighbour) (rows : List (ℕ × Neighbour)) → next_from (row ∷ rows) 0 ≡ Some row.0
unfolding next_from
next_first row rows = rw (le-leb 0 row.0 (omega arith)) refl

less_first : (row : ℕ × Neighbour) (rows : List (ℕ × Neighbour)) → less (row ∷ rows) row.0 ≡ rows
unfolding less
less_first row rows = rw (unsigned_tied row.0 row.0 ∙ eq-eqb row.0 row.0 refl) refl

module _ (laws : RowLaws Neighbour) where
  -- the rows behind the first one
  rest_at : (row : ℕ × Neighbour) (rows : List (ℕ × Neighbour)) (q : ℕ) → IsAscending (row ∷ rows)
      → at rows q ≡ (if row.0 == q then None else at (row ∷ rows) q)
  rest_at row rows q ascends = ap (λ table. at table q) (sym (less_first row rows)) ∙ laws.less_at (row ∷ rows) row.0 q ascends

  rest_ascends : (row : ℕ × Neighbour) (rows : List (ℕ × Neighbour)) → IsAscending (row ∷ rows) → IsAscending rows
  rest_ascends row rows ascends =
      let Ascends : List (ℕ × Neighbour) → Type 0 = λ table. IsAscending table in
      subst Ascends (less_first row rows) (laws.less_ascends (row ∷ rows) row.0 ascends)

  pub left_ascends : (rows : List (ℕ × Neighbour)) → IsAscending rows → IsAscending (drop 1 rows)
  left_ascends [] ascends = ascends
  left_ascends (row ∷ rows) ascends = rest_ascends row rows ascends

module _ (holder : Bool) (past : List Event) where
  abbrev asks_at : Neighbour → Bool
  asks_at n = is_asker holder n past

  -- the rows have those that ask at their places
  abbrev pub HaveAskers : List (ℕ × Neighbour) → Type 0
  HaveAskers rows = (n : Neighbour) → at rows (place_of n) ≡ asker_of holder n past

  -- once the first one is taken the others ask as before
  pub taken_is : (n m : Neighbour) → IsFirstAsker holder past n → is_asker holder m (AskerTaken ∷ past) ≡ (is_asker holder m past && not (is_same n m))
  taken_is n m h = by (asks_at m) refl
    where
      by : (b : Bool) → asks_at m ≡ b → (b && any_lower asks_at m) ≡ (b && not (is_same n m))
      by false silent = refl
      by true asking = elim (cases_order (place_of n) (place_of m)) [
        | inl same ↦
            let none : any_lower asks_at m ≡ false =
            none_below (λ k. asks_at (neighbour_at k)) (place_of m) (λ k below. h.lowest (neighbour_at k) (omega (arith, its_place k))) in
            none ∙ ap not (sym (eq-eqb (place_of n) (place_of m) same))
        | inr (inl after) ↦
            let here : asks_at (neighbour_at (place_of n)) ≡ true = ap asks_at (one_place (neighbour_at (place_of n)) n (its_place (place_of n))) ∙ h.asks in
            let some : any_lower asks_at m ≡ true = some_below (λ k. asks_at (neighbour_at k)) (place_of m) (place_of n) after here in
            some ∙ ap not (sym (ne_eqb (place_of n) (place_of m) (λ e. omega arith)))
        | inr (inr before) ↦ absurd (let bad : true ≡ false = sym asking ∙ h.lowest m before in (cc))
      ]

  module _ (laws : RowLaws Neighbour) where
    none_asks : HaveAskers [] → (n : Neighbour) → asks_at n ≡ false
    none_asks asks n = not_picked n (asks_at n) (sym (asks n) ∙ laws.none (place_of n))

    record First (row : ℕ × Neighbour) : Type 0 where
      place : place_of row.1 ≡ row.0
      first : IsFirstAsker holder past row.1

    first_asks : (row : ℕ × Neighbour) (rows : List (ℕ × Neighbour)) → HaveAskers (row ∷ rows) → IsAscending (row ∷ rows) → First row
    first_asks row rows asks ascends =
        let n = neighbour_at row.0 in
        let here : picked n (asks_at n) ≡ Some row.1 = sym (asks n) ∙ ap (at (row ∷ rows)) (its_place row.0) ∙ laws.head row rows in
        let found = cond_some (asks_at n) n row.1 here in
        let Asks : Neighbour → Type 0 = λ m. asks_at m ≡ true in
        let place : place_of row.1 ≡ row.0 = ap place_of (sym found.1) ∙ its_place row.0 in
        let low = (laws.next (row ∷ rows) 0 row.0 ascends).0 (next_first row rows) in
        record {
          place = place;
          first = record {
            asks = subst Asks found.1 found.0;
            lowest = λ m below. not_picked m (asks_at m) (sym (asks m) ∙ low.none (place_of m) (omega arith) (omega (arith, place)));
          };
        }

    pub first_is : (rows : List (ℕ × Neighbour)) → HaveAskers rows → IsAscending rows
        → MatchOption (option_map (λ row. row.1) (slice_get rows 0)) ((n : Neighbour) → asks_at n ≡ false) (IsFirstAsker holder past)
    first_is [] asks ascends = none_asks asks
    first_is (row ∷ rows) asks ascends = (first_asks row rows asks ascends).first

    -- what is left of the rows once the first one is taken
    pub left_asks : (rows : List (ℕ × Neighbour)) → HaveAskers rows → IsAscending rows
        → (n : Neighbour) → at (drop 1 rows) (place_of n) ≡ asker_of holder n (AskerTaken ∷ past)
    left_asks [] asks ascends n = laws.none (place_of n) ∙ sym (ap (λ b. picked n (b && any_lower asks_at n)) (none_asks asks n))
    left_asks (row ∷ rows) asks ascends n =
        let found = first_asks row rows asks ascends in
        rest_at laws row rows (place_of n) ascends
        ∙ ap (λ x. if row.0 == place_of n then None else x) (asks n)
        ∙ ap (λ k. if k == place_of n then None else picked n (asks_at n)) (sym found.place)
        ∙ picked_less n (asks_at n) (is_same row.1 n)
        ∙ ap (picked n) (sym (taken_is row.1 n found.first))

    -- who is found to be first is the first asker
    pub first_found : (rows : List (ℕ × Neighbour)) → HaveAskers rows → IsAscending rows
        → (n : Neighbour) → option_map (λ row. row.1) (slice_get rows 0) ≡ Some n → IsFirstAsker holder past n
    first_found [] asks ascends n is = cc
    first_found (row ∷ rows) asks ascends n is =
        let same : row.1 ≡ n = cc in
        subst (IsFirstAsker holder past) same (first_asks row rows asks ascends).first
