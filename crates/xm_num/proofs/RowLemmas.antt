-- Tables as rows: look-ups after a change, order, and which numbers of a range have a row.
use Rattle.std.proofs.Common.{◌≡◌, ◌+◌, ◌-◌, ℕ, zero, suc, Bool, true, false, cond, ◌&&◌, ◌||◌, List, [], ◌∷◌, Option, None, Some, refl, sym, ap, ◌∙◌, arith, eqb}
use Rattle.std.specs.Prelude.{◌==◌, nat_le, nat_lt, is_some, if◌then◌else◌}
use Rattle.std.specs.List.{list_any, range_with_len}
use Rattle.std.specs.Cmp.{unsigned_tied}
use Rattle.std.specs.Ordering.{is_eq, nat_cmp}
use Rattle.std.specs.BTreeMap.{is_at}
use Rattle.std.specs.Map.{lookup, lookup_key}
use Rattle.std.proofs.lemmas.Bool.Decides.{nat_tests}
use Rattle.std.proofs.lemmas.Cmp.{nat_cmp_total}
use Rattle.std.proofs.lemmas.Map.Lookups.{exact_unsigned}
use Rattle.xm_num.specs.Rows.{at, put, less, any_between, lowest_in, IsAscending}
use Rattle.xm_num.proofs.Tables.{flips, sorted_put, sorted_less, lookup_put, lookup_less, same_entries}

in_reach : (k low n : ℕ) → list_any (λ q. q == k) (range_with_len low n) ≡ (nat_le low k && nat_lt k (low + n))
in_reach k low zero = grind (arith, nat_tests)
in_reach k low (suc n) = rw (in_reach k (low + 1) n) (grind (arith, nat_tests))

module _ {V : Type 0} where
  pub at_put : (rows : List (ℕ × V)) (k q : ℕ) (v : V) → at (put rows k v) q ≡ (if k == q then Some v else at rows q)
  unfolding at put
  at_put rows k q v =
      let test : is_eq (nat_cmp q k) ≡ eqb k q = flips nat_cmp_total q k ∙ unsigned_tied k q in
      lookup_put nat_cmp_total rows k v q ∙ ap (λ b. cond b (Some v) (lookup (is_at (nat_cmp q)) rows)) test

  pub at_less : (rows : List (ℕ × V)) (k q : ℕ) → IsAscending rows → at (less rows k) q ≡ (if k == q then None else at rows q)
  unfolding at less
  at_less rows k q ascends = lookup_less nat_cmp_total rows k q ascends ∙ ap (λ b. cond b None (lookup (is_at (nat_cmp q)) rows)) (unsigned_tied k q)

  pub put_ascends : (rows : List (ℕ × V)) (k : ℕ) (v : V) → IsAscending rows → IsAscending (put rows k v)
  unfolding put
  put_ascends rows k v = sorted_put nat_cmp_total rows k v

  pub less_ascends : (rows : List (ℕ × V)) (k : ℕ) → IsAscending rows → IsAscending (less rows k)
  unfolding less
  less_ascends rows k = sorted_less nat_cmp_total rows (is_at (nat_cmp k))

  pub same_rows : (a b : List (ℕ × V)) → IsAscending a → IsAscending b → ((k : ℕ) → at a k ≡ at b k) → a ≡ b
  unfolding at
  same_rows = same_entries nat_cmp_total exact_unsigned

  pub any_is_lowest : (rows : List (ℕ × V)) (low high : ℕ) → any_between rows low high ≡ is_some (lowest_in rows low high)
  unfolding any_between lowest_in
  any_is_lowest [] low high = refl
  any_is_lowest (row ∷ rows) low high = by (nat_le low row.0 && nat_lt row.0 high) (any_is_lowest rows low high)
    where
      by : (b : Bool) → list_any (λ row. nat_le low row.0 && nat_lt row.0 high) rows ≡ is_some (lookup_key (λ k. nat_le low k && nat_lt k high) rows)
          → (b || list_any (λ row. nat_le low row.0 && nat_lt row.0 high) rows) ≡ is_some (cond b (Some row.0) (lookup_key (λ k. nat_le low k && nat_lt k high) rows))
      by true more = refl
      by false more = more

  one_more : (k : ℕ) (f : ℕ → Option V) (v : V) (ks : List ℕ)
      → list_any (λ q. is_some (cond (is_eq (nat_cmp q k)) (Some v) (f q))) ks ≡ (list_any (λ q. q == k) ks || list_any (λ q. is_some (f q)) ks)
  one_more k f v [] = refl
  one_more k f v (q ∷ ks) = rw (one_more k f v ks, unsigned_tied q k) (by (q == k) (list_any (λ q. q == k) ks) (f q) (list_any (λ q. is_some (f q)) ks))
    where
      by : (a b : Bool) (found : Option V) (d : Bool) → (is_some (cond a (Some v) found) || (b || d)) ≡ ((a || b) || (is_some found || d))
      by true b found d = refl
      by false true None d = refl
      by false true (Some w) d = refl
      by false false None d = refl
      by false false (Some w) d = refl

  pub any_is_at : (rows : List (ℕ × V)) (low high : ℕ) → any_between rows low high ≡ list_any (λ k. is_some (at rows k)) (range_with_len low (high - low))
  unfolding any_between at
  any_is_at [] low high = none (range_with_len low (high - low))
    where
      none : (ks : List ℕ) → false ≡ list_any (λ k. false) ks
      none [] = refl
      none (k ∷ ks) = none ks
  any_is_at (row ∷ rows) low high =
      let reach : (nat_le low row.0 && nat_lt row.0 (low + (high - low))) ≡ (nat_le low row.0 && nat_lt row.0 high) = grind (arith, nat_tests) in
      sym (one_more row.0 (at rows) row.1 (range_with_len low (high - low)) ∙ rw (in_reach row.0 low (high - low), reach, any_is_at rows low high) refl)
