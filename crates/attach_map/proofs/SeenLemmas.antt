-- What is seen of tables whose rows keep more.
use Rattle.std.proofs.Common.{◌≡◌, ℕ, Bool, true, false, cond, List, [], ◌∷◌, map, Option, None, Some, refl, sym, ap, ◌∙◌}
use Rattle.std.specs.Prelude.{◌==◌, IsSome, option_map}
use Rattle.std.specs.Ordering.{nat_cmp, match_ordering}
use Rattle.std.specs.declared.cmp.Ordering.{Ordering}
use Rattle.std.specs.declared.cmp.Ordering.TheVariants.{Less, Equal, Greater}
use Rattle.std.specs.BTreeMap.{is_at}
use Rattle.std.specs.Map.{keys_of}
use Rattle.std.proofs.lemmas.Bool.{eqb-true}
use Rattle.xm_num.specs.declared.CallNo.{CallNo}
use Rattle.xm_num.specs.Rows.{at, put, less, IsAscending}
use Rattle.xm_num.specs.RowLaws.{RowLaws}
use Rattle.attach_map.specs.Seats.{Seat, seen, with_seat_call, ChangesAt}

-- each value changed so, also as `seen` does
abbrev pub each : {V W : Type 0} → (V → W) → List (ℕ × V) → List (ℕ × W)
each f rows = map (λ row. (row.0, f row.1)) rows

module _ {V W : Type 0} (f : V → W) where
  pub each_at : (rows : List (ℕ × V)) (k : ℕ) → at (each f rows) k ≡ option_map f (at rows k)
  unfolding at
  each_at [] k = refl
  each_at (row ∷ rows) k = by (is_at (nat_cmp k) row.0) (each_at rows k)
    where
      by : (b : Bool) → at (each f rows) k ≡ option_map f (at rows k) → cond b (Some (f row.1)) (at (each f rows) k) ≡ option_map f (cond b (Some row.1) (at rows k))
      by true more = refl
      by false more = more

  pub each_keys : (rows : List (ℕ × V)) → keys_of (each f rows) ≡ keys_of rows
  each_keys [] = refl
  each_keys (row ∷ rows) = ap (λ ks. row.0 ∷ ks) (each_keys rows)

  pub each_ascends : (rows : List (ℕ × V)) → IsAscending rows → IsAscending (each f rows)
  each_ascends rows ascends = rw (each_keys rows) ascends

  pub each_put : (rows : List (ℕ × V)) (k : ℕ) (v : V) → each f (put rows k v) ≡ put (each f rows) k (f v)
  unfolding put
  each_put [] k v = refl
  each_put (row ∷ rows) k v = by (nat_cmp k row.0) (each_put rows k v)
    where
      by : (o : Ordering) → each f (put rows k v) ≡ put (each f rows) k (f v)
          → each f (match_ordering o ((k, v) ∷ row ∷ rows) ((row.0, v) ∷ rows) (row ∷ put rows k v))
          ≡ match_ordering o ((k, f v) ∷ (row.0, f row.1) ∷ each f rows) ((row.0, f v) ∷ each f rows) ((row.0, f row.1) ∷ put (each f rows) k (f v))
      by Less more = refl
      by Equal more = refl
      by Greater more = ap (λ rest. (row.0, f row.1) ∷ rest) more

  pub each_less : (rows : List (ℕ × V)) (k : ℕ) → each f (less rows k) ≡ less (each f rows) k
  unfolding less
  each_less [] k = refl
  each_less (row ∷ rows) k = by (is_at (nat_cmp k) row.0) (each_less rows k)
    where
      by : (b : Bool) → each f (less rows k) ≡ less (each f rows) k
          → each f (cond b rows (row ∷ less rows k)) ≡ cond b (each f rows) ((row.0, f row.1) ∷ less (each f rows) k)
      by true more = refl
      by false more = ap (λ rest. (row.0, f row.1) ∷ rest) more

-- a row that is put where it stands
pub put_same : {V : Type 0} → RowLaws V → (rows : List (ℕ × V)) (k : ℕ) (v : V) → IsAscending rows → at rows k ≡ Some v → put rows k v ≡ rows
put_same laws rows k v ascends there =
    laws.same (put rows k v) rows (laws.put_ascends rows k v ascends) ascends (λ q. laws.put_at rows k q v ∙ by q (k == q) refl)
  where
    by : (q : ℕ) (b : Bool) → (k == q) ≡ b → cond b (Some v) (at rows q) ≡ at rows q
    by q true is = sym there ∙ ap (at rows) (eqb-true k q is)
    by q false is = refl

-- the call of a process isn't seen at it
pub call_unseen : RowLaws Seat → (rows now : List (ℕ × Seat)) (k : ℕ) (call : Option CallNo) → IsAscending rows → IsSome (at rows k) → ChangesAt (with_seat_call call) rows k now → seen now ≡ seen rows
call_unseen laws rows now k call ascends some changes = by (at rows k) refl some
  where
    by : (found : Option Seat) → at rows k ≡ found → IsSome found → seen now ≡ seen rows
    by None is some = cc
    by (Some seat) is some =
        ap seen (changes seat is) ∙ each_put (λ (s : Seat). s.process) rows k (with_seat_call call seat) ∙ sym (each_put (λ (s : Seat). s.process) rows k seat)
        ∙ ap seen (put_same laws rows k seat ascends is)
