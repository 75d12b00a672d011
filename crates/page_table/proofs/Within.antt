-- Rows whose numbers are among 1 to 16,777,215, after changes.
use Rattle.std.proofs.Common.{◌≡◌, ◌+◌, ◌-◌, ◌<◌, ◌≤◌, ◌^◌, ℕ, zero, suc, Bool, true, false, ◌&&◌, List, [], length, Option, None, Some, refl, arith}
use Rattle.std.specs.Prelude.{nat_le, nat_lt, IsSome, slice_get, if◌then◌else◌}
use Rattle.std.proofs.lemmas.Bool.{and_parts, leb-true, ltb-true}
use Rattle.xm_num.specs.Rows.{at, put_all, less_all, IsAscending}
use Rattle.xm_num.specs.declared.Page.{Page}
use Rattle.xm_num.specs.RowLaws.{RowLaws}
use Rattle.page_table.specs.Spaces.{AreWithin, AreOwn, own_frame}

pub within_nothing : RowLaws Page → AreWithin {V = Page} []
within_nothing laws v some = let bad : IsSome {T = Page} None = rw (laws.none v) at some in cc

module _ {V : Type 0} (laws : RowLaws V) where
  pub within_put_all : (rows : List (ℕ × V)) (k : ℕ) (vs : List V) → AreWithin rows → 1 ≤ k → k + length vs ≤ 2 ^ 24 → AreWithin (put_all rows k vs)
  within_put_all rows k vs within low high v some = by (nat_le k v && nat_lt v (k + length vs)) refl (rw (laws.put_all_at rows k v vs) at some)
    where
      by : (b : Bool) → (nat_le k v && nat_lt v (k + length vs)) ≡ b → IsSome (if b then slice_get vs (v - k) else at rows v) → (1 ≤ v) × (v < 2 ^ 24)
      by true among some =
          let parts = and_parts _ _ among in
          let from = leb-true k v parts.0 in
          let below = ltb-true v (k + length vs) parts.1 in
          (omega arith, omega arith)
      by false apart some = within v some

  pub within_less_all : (rows : List (ℕ × V)) (k n : ℕ) → IsAscending rows → AreWithin rows → AreWithin (less_all rows k n)
  within_less_all rows k n ascends within v some = by (nat_le k v && nat_lt v (k + n)) (rw (laws.less_all_at rows k n v ascends) at some)
    where
      by : (b : Bool) → IsSome (if b then None else at rows v) → (1 ≤ v) × (v < 2 ^ 24)
      by true some = cc
      by false some = within v some

-- own pages lie within the space
pub own_fits : (rows : List (ℕ × Page)) (first n : ℕ) → AreWithin rows → AreOwn rows first n → first < 2 ^ 32 → first + n < 2 ^ 32
own_fits rows first zero within own small = omega arith
own_fits rows first (suc n) within own small = omega (arith, within (first + n) (by (at rows (first + n)) (own (first + n) (omega arith) (omega arith))))
  where
    by : (o : Option Page) → IsSome (own_frame o) → IsSome o
    by None some = cc
    by (Some page) some = refl
