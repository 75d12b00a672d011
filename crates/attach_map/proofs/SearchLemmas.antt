-- A search of rows from a number on.
use Rattle.std.proofs.Common.{◌≡◌, ◌<◌, ◌≤◌, ◌+◌, ℕ, zero, suc, Bool, true, false, cond, ◌&&◌, List, [], ◌∷◌, length, drop, None, Some, eqb, lt-ltb, refl, sym, ap, subst, ◌∙◌, arith}
use Rattle.std.specs.Prelude.{nat_le, nat_lt, slice_get, slice_index_or}
use Rattle.std.specs.Ordering.{nat_cmp}
use Rattle.std.specs.declared.cmp.Ordering.TheVariants.{Less, Equal, Greater}
use Rattle.std.specs.Map.{keys_of}
use Rattle.std.specs.List.{find, AllByRecursion}
use Rattle.std.specs.List.Sorted.{IsStrictlySortedBy, IsPartitionedBy, IsPartitionPoint}
use Rattle.std.proofs.lemmas.Bool.{ltb-true, lt-leb, le-leb, ltb-false}
use Rattle.std.proofs.lemmas.Option.{get_or_from_slice_get, slice_get_within}
use Rattle.std.proofs.lemmas.List.{drop_more}
use Rattle.xm_num.specs.declared.Enclave.{Enclave}
use Rattle.xm_num.specs.Rows.{IsAscending}
use Rattle.attach_map.specs.declared.Waiting.{Waiting}
use Rattle.attach_map.specs.Attaching.{gets_from}

abbrev pub wanted : Enclave → ℕ → ℕ × Waiting → Bool
wanted owner from row = nat_le from row.0 && gets_from owner row.1.what

abbrev pub is_below : {V : Type 0} → ℕ → ℕ × V → Bool
is_below from row = nat_lt row.0 from

lower : (a b : ℕ) → nat_cmp a b ≡ Less → a < b
lower a b is = by (nat_lt a b) refl is
  where
    by : (c : Bool) → nat_lt a b ≡ c → cond c Less (cond (eqb a b) Equal Greater) ≡ Less → a < b
    by true less is = ltb-true a b less
    by false more is = other (eqb a b) is
      where
        other : (d : Bool) → cond d Equal Greater ≡ Less → a < b
        other true is = cc
        other false is = cc

module _ {V : Type 0} where
  all_at : (P : ℕ → Type 0) (rows : List (ℕ × V)) → AllByRecursion P (keys_of rows) → (j : ℕ) (d : ℕ × V) → j < length rows → P (slice_index_or rows j d).0
  all_at P [] all j d within = absurd (omega (arith, within))
  all_at P (row ∷ rows) all zero d within = all.0
  all_at P (row ∷ rows) all (suc j) d within = all_at P rows all.1 j d (omega (arith, within))

  -- those below a number come first
  pub parted : (from : ℕ) (rows : List (ℕ × V)) → IsAscending rows → IsPartitionedBy (is_below from) rows
  unfolding IsStrictlySortedBy
  parted from [] ascends i j d order within pass = absurd (omega (arith, within))
  parted from (row ∷ rows) ascends zero zero d order within pass = pass
  parted from (row ∷ rows) ascends zero (suc j) d order within pass =
      let step = lower row.0 (slice_index_or rows j d).0 (all_at (λ y. nat_cmp row.0 y ≡ Less) rows ascends.0 j d (omega (arith, within))) in
      let under = ltb-true (slice_index_or rows j d).0 from pass in
      lt-ltb row.0 from (omega (arith, step, under))
  parted from (row ∷ rows) ascends (suc i) zero d order within pass = absurd (omega (arith, order))
  parted from (row ∷ rows) ascends (suc i) (suc j) d order within pass = parted from rows ascends.1 i j d (omega (arith, order)) (omega (arith, within)) pass

module _ {V : Type 0} (test : ℕ × V → Bool) where
  skip : (rows : List (ℕ × V)) (n : ℕ) → ((k : ℕ) (d : ℕ × V) → k < n → k < length rows → test (slice_index_or rows k d) ≡ false) → find test (drop n rows) ≡ find test rows
  skip rows zero fail = refl
  skip [] (suc n) fail = refl
  skip (row ∷ rows) (suc n) fail =
      let here : test row ≡ false = fail 0 row (omega arith) (omega arith) in
      skip rows n (λ k d low within. fail (suc k) d (omega (arith, low)) (omega (arith, within))) ∙ rw here refl

  opens : (rows : List (ℕ × V)) (i : ℕ) (row : ℕ × V) → slice_get rows i ≡ Some row → drop i rows ≡ row ∷ drop (i + 1) rows
  opens rows i row is = drop_more rows i row (slice_get_within rows i row is) ∙ ap (λ r. r ∷ drop (i + 1) rows) (get_or_from_slice_get rows i row row is)

  past : (rows : List (ℕ × V)) (i : ℕ) → length rows ≤ i → drop i rows ≡ []
  past [] zero over = refl
  past [] (suc i) over = refl
  past (x ∷ rows) zero over = absurd (omega (arith, over))
  past (x ∷ rows) (suc i) over = past rows i (omega (arith, over))

-- the search from row i on finds what a search of all rows finds, and the rows from there on aren't below the number
pub record Scans (owner : Enclave) (from i : ℕ) (rows : List (ℕ × Waiting)) : Type 0 where
  pub same : find (wanted owner from) (drop i rows) ≡ find (wanted owner from) rows
  pub high : (k : ℕ) (row : ℕ × Waiting) → i ≤ k → slice_get rows k ≡ Some row → from ≤ row.0

module _ (owner : Enclave) (from : ℕ) (rows : List (ℕ × Waiting)) where
  pub starts : (i : ℕ) → IsPartitionPoint (λ e. is_below from e ≡ true) (λ e. is_below from e ≡ false) rows i → Scans owner from i rows
  starts i point = record {
    same = skip (wanted owner from) rows i (λ k d low within. below (slice_index_or rows k d) (point.0 k d (omega arith) low));
    high = λ k row low is. ltb-false row.0 from (subst (λ r. is_below from r ≡ false) (get_or_from_slice_get rows k row row is) (point.1 k row low (within k row is)));
  }
    where
      below : (e : ℕ × Waiting) → is_below from e ≡ true → wanted owner from e ≡ false
      below e pass = let under = ltb-true e.0 from pass in rw (lt-leb from e.0 under) refl

      within : (k : ℕ) (row : ℕ × Waiting) → slice_get rows k ≡ Some row → k < length rows
      within k row is = slice_get_within rows k row is

  module _ (i : ℕ) (row : ℕ × Waiting) (scans : Scans owner from i rows) (is : slice_get rows i ≡ Some row) where
    first : wanted owner from row ≡ gets_from owner row.1.what
    first = rw (le-leb from row.0 (scans.high i row (omega arith) is)) refl

    pub goes_on : gets_from owner row.1.what ≡ false → Scans owner from (i + 1) rows
    goes_on not = record {
      same = sym (rw (opens (wanted owner from) rows i row is, first, not) refl) ∙ scans.same;
      high = λ k r low. scans.high k r (omega (arith, low));
    }

    pub found_here : gets_from owner row.1.what ≡ true → find (wanted owner from) rows ≡ Some row
    found_here gets = sym scans.same ∙ rw (opens (wanted owner from) rows i row is, first, gets) refl

  pub found_nowhere : (i : ℕ) → Scans owner from i rows → length rows ≤ i → find (wanted owner from) rows ≡ None
  found_nowhere i scans over = sym scans.same ∙ rw (past (wanted owner from) rows i over) refl
