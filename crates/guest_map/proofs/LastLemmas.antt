-- The least last guest frame from a number on.
use Rattle.std.proofs.Common.{◌≡◌, ℕ, Bool, true, false, cond, not, ◌&&◌, List, [], ◌∷◌, filter, Some, refl, sym, ap, ◌∙◌, inl, inr, arith}
use Rattle.std.specs.Prelude.{nat_le, slice_get, option_map}
use Rattle.std.specs.BTreeMap.Range.{entries_between}
use Rattle.std.specs.Map.{lookup_key}
use Rattle.std.specs.Ordering.{nat_cmp, is_le}
use Rattle.std.specs.declared.ops.Bound.TheVariants.{Included, Unbounded}
use Rattle.std.proofs.lemmas.Bool.{cases_order, le-leb, lt-leb, lt-ltb, le-ltb, eq-eqb, ne_eqb}
use Rattle.xm_num.specs.Rows.{next_from}

is_from : (low k : ℕ) → nat_le low k ≡ (is_le (nat_cmp low k) && not false)
is_from low k = elim (cases_order low k) [
  | inl same ↦ rw (le-leb low k (omega arith), le-ltb low k (omega arith), eq-eqb low k same) refl
  | inr (inl less) ↦ rw (le-leb low k (omega arith), lt-ltb low k less) refl
  | inr (inr more) ↦ rw (lt-leb low k more, le-ltb low k (omega arith), ne_eqb low k (λ same. omega (arith, more, same))) refl
]

-- the first number that passes is the first one of those that pass
first_is : (test also : ℕ → Bool) → ((k : ℕ) → test k ≡ also k) → (rows : List (ℕ × ℕ)) → lookup_key test rows ≡ option_map (λ row. row.0) (slice_get (filter (λ row. also row.0) rows) 0)
first_is test also same [] = refl
first_is test also same (row ∷ rows) = rw (same row.0) (by (also row.0) (first_is test also same rows))
  where
    by : (b : Bool) → lookup_key test rows ≡ option_map (λ row. row.0) (slice_get (filter (λ row. also row.0) rows) 0)
        → cond b (Some row.0) (lookup_key test rows) ≡ option_map (λ row. row.0) (slice_get (cond b (row ∷ filter (λ row. also row.0) rows) (filter (λ row. also row.0) rows)) 0)
    by true more = refl
    by false more = more

pub next_is : (low : ℕ) (rows taken : List (ℕ × ℕ)) (row : ℕ × ℕ) (left : List (ℕ × ℕ)) → taken ≡ entries_between nat_cmp (Included low) Unbounded rows → taken ≡ row ∷ left → Some row.0 ≡ next_from rows low
unfolding next_from
next_is low rows taken row left is takes =
    ap (λ part. option_map (λ row. row.0) (slice_get part 0)) (sym takes ∙ is) ∙ sym (first_is (nat_le low) (λ k. is_le (nat_cmp low k) && not false) (is_from low) rows)
