-- Rows by the next number that has one.
use Rattle.std.proofs.Common.{◌≡◌, ◌<◌, ◌≤◌, ◌+◌, ◌^◌, ℕ, Bool, true, false, cond, ◌&&◌, ◌||◌, List, [], ◌∷◌, map, filter, Option, None, Some, refl, sym, ap, subst, ◌∙◌, eq-eqb, ne_eqb, arith}
use Rattle.std.specs.Prelude.{◌↔◌, option_map, nat_le, nat_lt, IsSome, ◌==◌}
use Rattle.std.specs.List.{AllByRecursion}
use Rattle.std.specs.List.Sorted.{IsStrictlySortedBy}
use Rattle.std.specs.Option.{option_map_or}
use Rattle.std.specs.Ordering.{nat_cmp, match_ordering}
use Rattle.std.specs.declared.cmp.Ordering.{Ordering}
use Rattle.std.specs.BTreeMap.{is_at}
use Rattle.std.specs.Cmp.{ranked, unsigned_tied}
use Rattle.std.specs.Map.{keys_of}
use Rattle.std.specs.declared.cmp.Ordering.TheVariants.{Less, Equal, Greater}
use Rattle.std.proofs.lemmas.Bool.{ltb-false, le-leb, leb-true, lt-leb}
use Rattle.std.proofs.lemmas.Bool.Decides.{nat_tests}
use Rattle.xm_num.specs.Rows.{at, put, less, any_between, next_from, IsAscending, IsLowestFrom}
use Rattle.page_table.specs.Spaces.{AreWithin}
use Rattle.route_learn.specs.Routes.{AreNumbers}

-- the number, where there is one, lies below a limit
abbrev pub is_below : ℕ → Option ℕ → Bool
is_below high found = option_map_or (λ k. nat_lt k high) found false

pub none_within : {V : Type 0} (rows : List (ℕ × V)) → rows ≡ [] → AreWithin rows
unfolding at
none_within [] is v some = cc
none_within (row ∷ rows) is v some = cc

-- a page whose number is too high for a space isn't mapped
pub none_past : {V : Type 0} (rows : List (ℕ × V)) (v : ℕ) → AreWithin rows → 2 ^ 24 ≤ v → at rows v ≡ None
none_past rows v within past = by (at rows v) refl
  where
    by : (found : Option _) → at rows v ≡ found → found ≡ None
    by None is = refl
    by (Some page) is = absurd (omega (arith, (within v (rw is refl)).1))

-- no number of rows above one that isn't below the limit is below it
none_between : {V : Type 0} (rows : List (ℕ × V)) (k low high : ℕ) → high ≤ k → AllByRecursion (λ q. nat_cmp k q ≡ Less) (keys_of rows) → any_between rows low high ≡ false
unfolding any_between
none_between [] k low high le all = refl
none_between (row ∷ rows) k low high le all =
    let above : k < row.0 = ranked k row.0 Less (sym all.0) in
    let past : nat_lt row.0 high ≡ false = grind (arith, nat_tests) in
    rw (past, none_between rows k low high le all.1) (by (nat_le low row.0))
  where
    by : (b : Bool) → ((b && false) || false) ≡ false
    by true = refl
    by false = refl

-- a number of a range has a row where the next number from its low end on lies below its high end
pub any_next : {V : Type 0} (rows : List (ℕ × V)) (low high : ℕ) → IsAscending rows → any_between rows low high ≡ is_below high (next_from rows low)
unfolding any_between next_from IsStrictlySortedBy
any_next [] low high ascends = refl
any_next (row ∷ rows) low high ascends = by (nat_le low row.0) (nat_lt row.0 high) refl (any_next rows low high ascends.1)
  where
    by : (a b : Bool) → nat_lt row.0 high ≡ b → any_between rows low high ≡ is_below high (next_from rows low)
        → ((a && b) || any_between rows low high) ≡ is_below high (cond a (Some row.0) (next_from rows low))
    by false b is more = more
    by true true is more = sym is
    by true false is more = none_between rows row.0 low high (ltb-false _ _ is) ascends.0 ∙ sym is

-- ---- rows by another meaning of what stands at them

-- the rows with a function's values
abbrev pub map_rows : {V W : Type 0} → (V → W) → List (ℕ × V) → List (ℕ × W)
map_rows f rows = map (λ row. (row.0, f row.1)) rows

pub put_map : {V W : Type 0} (f : V → W) (rows : List (ℕ × V)) (k : ℕ) (v : V) → map_rows f (put rows k v) ≡ put (map_rows f rows) k (f v)
unfolding put
put_map f [] k v = refl
put_map f (row ∷ rows) k v = by (nat_cmp k row.0) (put_map f rows k v)
  where
    by : (o : Ordering) → map_rows f (put rows k v) ≡ put (map_rows f rows) k (f v)
        → map_rows f (match_ordering o ((k, v) ∷ row ∷ rows) ((row.0, v) ∷ rows) (row ∷ put rows k v))
        ≡ match_ordering o ((k, f v) ∷ (row.0, f row.1) ∷ map_rows f rows) ((row.0, f v) ∷ map_rows f rows) ((row.0, f row.1) ∷ put (map_rows f rows) k (f v))
    by Less more = refl
    by Equal more = refl
    by Greater more = ap (λ rs. (row.0, f row.1) ∷ rs) more

pub less_map : {V W : Type 0} (f : V → W) (rows : List (ℕ × V)) (k : ℕ) → map_rows f (less rows k) ≡ less (map_rows f rows) k
unfolding less
less_map f [] k = refl
less_map f (row ∷ rows) k = by (is_at (nat_cmp k) row.0) (less_map f rows k)
  where
    by : (b : Bool) → map_rows f (less rows k) ≡ less (map_rows f rows) k
        → map_rows f (cond b rows (row ∷ less rows k)) ≡ cond b (map_rows f rows) ((row.0, f row.1) ∷ less (map_rows f rows) k)
    by true more = refl
    by false more = ap (λ rs. (row.0, f row.1) ∷ rs) more

pub at_map : {V W : Type 0} (f : V → W) (rows : List (ℕ × V)) (k : ℕ) → at (map_rows f rows) k ≡ option_map f (at rows k)
unfolding at
at_map f [] k = refl
at_map f (row ∷ rows) k = by (is_at (nat_cmp k) row.0) (at_map f rows k)
  where
    by : (b : Bool) → at (map_rows f rows) k ≡ option_map f (at rows k)
        → cond b (Some (f row.1)) (at (map_rows f rows) k) ≡ option_map f (cond b (Some row.1) (at rows k))
    by true more = refl
    by false more = more

pub next_map : {V W : Type 0} (f : V → W) (rows : List (ℕ × V)) (low : ℕ) → next_from (map_rows f rows) low ≡ next_from rows low
unfolding next_from
next_map f [] low = refl
next_map f (row ∷ rows) low = ap (λ found. cond (nat_le low row.0) (Some row.0) found) (next_map f rows low)

keys_map : {V W : Type 0} (f : V → W) (rows : List (ℕ × V)) → keys_of (map_rows f rows) ≡ keys_of rows
keys_map f [] = refl
keys_map f (row ∷ rows) = ap (λ ks. row.0 ∷ ks) (keys_map f rows)

pub ascending_map : {V W : Type 0} (f : V → W) (rows : List (ℕ × V)) → IsAscending rows → IsAscending (map_rows f rows)
ascending_map f rows ascends = subst (IsStrictlySortedBy nat_cmp) (sym (keys_map f rows)) ascends

pub numbers_map : {V W : Type 0} (f : V → W) (rows : List (ℕ × V)) → AreNumbers rows → AreNumbers (map_rows f rows)
numbers_map f rows numbers d some = numbers d (by (at rows d) (rw (at_map f rows d) at some))
  where
    by : (found : Option _) → IsSome (option_map f found) → IsSome found
    by None some = cc
    by (Some value) some = refl

-- ---- rows that are gone through by their numbers

-- the rows from a number on
abbrev pub rows_from : {V : Type 0} → ℕ → List (ℕ × V) → List (ℕ × V)
rows_from low rows = filter (λ row. nat_le low row.0) rows

pub from_zero : {V : Type 0} (rows : List (ℕ × V)) → rows_from 0 rows ≡ rows
from_zero [] = refl
from_zero (row ∷ rows) =
    let all : nat_le 0 row.0 ≡ true = le-leb 0 row.0 (omega arith) in
    rw all (ap (λ rs. row ∷ rs) (from_zero rows))

pub none_from : {V : Type 0} (rows : List (ℕ × V)) (low : ℕ) → None ≡ next_from rows low → rows_from low rows ≡ []
unfolding next_from
none_from [] low none = refl
none_from (row ∷ rows) low none = by (nat_le low row.0) none (none_from rows low)
  where
    by : (b : Bool) → None ≡ cond b (Some row.0) (next_from rows low) → (None ≡ next_from rows low → rows_from low rows ≡ []) → cond b (row ∷ rows_from low rows) (rows_from low rows) ≡ []
    by true none more = cc
    by false none more = more none

-- the rows that lie above one
above_all : {V : Type 0} (rows : List (ℕ × V)) (k low : ℕ) → low ≤ k + 1 → AllByRecursion (λ q. nat_cmp k q ≡ Less) (keys_of rows) → rows_from low rows ≡ rows
above_all [] k low le all = refl
above_all (row ∷ rows) k low le all =
    let above : k < row.0 = ranked k row.0 Less (sym all.0) in
    let here : nat_le low row.0 ≡ true = le-leb low row.0 (omega arith) in
    rw here (ap (λ rs. row ∷ rs) (above_all rows k low le all.1))

-- the next number of rows above one is above it
next_above : {V : Type 0} (rows : List (ℕ × V)) (j low k : ℕ) → AllByRecursion (λ q. nat_cmp j q ≡ Less) (keys_of rows) → Some k ≡ next_from rows low → j < k
unfolding next_from
next_above [] j low k all next = cc
next_above (row ∷ rows) j low k all next = by (nat_le low row.0) next (next_above rows j low k all.1)
  where
    by : (b : Bool) → Some k ≡ cond b (Some row.0) (next_from rows low) → (Some k ≡ next_from rows low → j < k) → j < k
    by true next more = let same : k ≡ row.0 = cc in let above : j < row.0 = ranked j row.0 Less (sym all.0) in omega arith
    by false next more = more next

-- the row of the next number comes first, and then the rows above it
pub first_of_rows : {V : Type 0} (rows : List (ℕ × V)) (low k : ℕ) (v : V) → IsAscending rows → Some k ≡ next_from rows low → at rows k ≡ Some v
    → rows_from low rows ≡ (k, v) ∷ rows_from (k + 1) rows
unfolding next_from at IsStrictlySortedBy
first_of_rows [] low k v ascends next found = cc
first_of_rows (row ∷ rows) low k v ascends next found = by (nat_le low row.0) refl next (first_of_rows rows low k v ascends.1)
  where
    here : cond (k == row.0) (Some row.1) (at rows k) ≡ Some v
    here = ap (λ b. cond b (Some row.1) (at rows k)) (sym (unsigned_tied k row.0)) ∙ found

    by : (b : Bool) → nat_le low row.0 ≡ b → Some k ≡ cond b (Some row.0) (next_from rows low)
        → (Some k ≡ next_from rows low → at rows k ≡ Some v → rows_from low rows ≡ (k, v) ∷ rows_from (k + 1) rows)
        → cond b (row ∷ rows_from low rows) (rows_from low rows) ≡ (k, v) ∷ cond (nat_le (k + 1) row.0) (row ∷ rows_from (k + 1) rows) (rows_from (k + 1) rows)
    by true le next more =
        let same : k ≡ row.0 = cc in
        let low_le : low ≤ row.0 = leb-true low row.0 le in
        let value : Some row.1 ≡ Some v = ap (λ b. cond b (Some row.1) (at rows k)) (sym (eq-eqb k row.0 same)) ∙ here in
        let past : nat_le (k + 1) row.0 ≡ false = lt-leb (k + 1) row.0 (omega arith) in
        let one : row ≡ (k, v) = let v_is : row.1 ≡ v = cc in rw (same, ← v_is) refl in
        let rest : rows_from low rows ≡ rows_from (k + 1) rows = above_all rows row.0 low (omega arith) ascends.0 ∙ sym (above_all rows row.0 (k + 1) (omega arith) ascends.0) in
        rw past (ap (λ r. r ∷ rows_from low rows) one ∙ ap (λ rs. (k, v) ∷ rs) rest)
    by false gt next more =
        let above : row.0 < k = next_above rows row.0 low k ascends.0 next in
        let other : (k == row.0) ≡ false = ne_eqb k row.0 (λ is. omega arith) in
        let past : nat_le (k + 1) row.0 ≡ false = lt-leb (k + 1) row.0 (omega arith) in
        rw past (more next (ap (λ b. cond b (Some row.1) (at rows k)) (sym other) ∙ here))

pub next_is_above : {V : Type 0} (rows : List (ℕ × V)) (low k : ℕ) → Some k ≡ next_from rows low → low ≤ k
unfolding next_from
next_is_above [] low k next = cc
next_is_above (row ∷ rows) low k next = by (nat_le low row.0) refl next (next_is_above rows low k)
  where
    by : (b : Bool) → nat_le low row.0 ≡ b → Some k ≡ cond b (Some row.0) (next_from rows low) → (Some k ≡ next_from rows low → low ≤ k) → low ≤ k
    by true le next more = let same : k ≡ row.0 = cc in let here : low ≤ row.0 = leb-true low row.0 le in omega arith
    by false gt next more = more next

-- the first number of a table from one on, by the law of tables
abbrev pub NextIs : Type 0 → Type 0
NextIs V = (rows : List (ℕ × V)) (low k : ℕ) → IsAscending rows → (next_from rows low ≡ Some k) ↔ IsLowestFrom rows low k

-- no row of numbers of 16 bits lies above them
pub none_above : {V : Type 0} → NextIs V → (rows : List (ℕ × V)) (low : ℕ) → IsAscending rows → AreNumbers rows → 2 ^ 16 ≤ low → rows_from low rows ≡ []
none_above is_next rows low ascends numbers high = by (next_from rows low) refl
  where
    by : (found : Option ℕ) → next_from rows low ≡ found → rows_from low rows ≡ []
    by None is = none_from rows low (sym is)
    by (Some k) is =
        let lowest = (is_next rows low k ascends).0 is in
        absurd (omega (arith, lowest.from, numbers k lowest.here))
