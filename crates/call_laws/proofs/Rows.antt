-- Rows of tables, and what is found in them.
use Rattle.std.proofs.Common.{◌≡◌, ◌<◌, ℕ, List, [], ◌∷◌, ◌++◌, Bool, true, false, cond, eqb, ltb, Option, None, Some, is_some, refl, sym, subst, arith}
use Rattle.std.specs.List.{AllByRecursion, find}
use Rattle.std.specs.List.Sorted.{IsStrictlySortedBy}
use Rattle.std.specs.BTreeMap.{insert_entry, is_at}
use Rattle.std.specs.Map.{lookup, remove_entry}
use Rattle.std.specs.Ordering.{nat_cmp, match_ordering, is_eq}
use Rattle.std.specs.declared.cmp.Ordering.TheVariants.{Less, Equal, Greater}
use Rattle.std.proofs.lemmas.Bool.{eqb-true, eqb-false, ltb-true, ltb-false}
use Rattle.xm_num.specs.Rows.{at, less, put, IsAscending}

pub all_more : {A : Type 0} (P Q : A → Type 0) (xs : List A) → AllByRecursion P xs → ((x : A) → P x → Q x) → AllByRecursion Q xs
all_more P Q [] all one = tt
all_more P Q (x ∷ xs) all one = (one x all.0, all_more P Q xs all.1 one)

all_both : {A : Type 0} (P Q R : A → Type 0) (xs : List A) → AllByRecursion P xs → AllByRecursion Q xs → ((x : A) → P x → Q x → R x) → AllByRecursion R xs
all_both P Q R [] all more one = tt
all_both P Q R (x ∷ xs) all more one = (one x all.0 more.0, all_both P Q R xs all.1 more.1 one)

-- the rows with one put, by where its number comes
pub put_rows : {V : Type 0} (P : List (ℕ × V) → Type 0) (row : ℕ × V) (rows more : List (ℕ × V)) (k : ℕ) (v : V)
    → (k < row.0 → P ((k, v) ∷ row ∷ rows)) → (k ≡ row.0 → P ((row.0, v) ∷ rows)) → (row.0 < k → P (row ∷ more))
    → P (match_ordering (nat_cmp k row.0) ((k, v) ∷ row ∷ rows) ((row.0, v) ∷ rows) (row ∷ more))
put_rows P row rows more k v below equal above = by (ltb k row.0) refl (eqb k row.0) refl
  where
    by : (low : Bool) → ltb k row.0 ≡ low → (same : Bool) → eqb k row.0 ≡ same
        → P (match_ordering (cond low Less (cond same Equal Greater)) ((k, v) ∷ row ∷ rows) ((row.0, v) ∷ rows) (row ∷ more))
    by true low same is = below (ltb-true k row.0 low)
    by false low true is = equal (eqb-true k row.0 is)
    by false low false is = above (let least = ltb-false k row.0 low in let other = eqb-false k row.0 is in omega (arith, least, other))

module _ {V : Type 0} where
  -- a row that is put is like the others
  pub all_put : (P : ℕ × V → Type 0) (rows : List (ℕ × V)) (k : ℕ) (v : V) → AllByRecursion P rows → P (k, v) → AllByRecursion P (put rows k v)
  unfolding put
  all_put P [] k v all one = (one, tt)
  all_put P (row ∷ rows) k v all one =
      put_rows (AllByRecursion P) row rows (insert_entry nat_cmp rows k v) k v (λ below. (one, all)) (λ is. (subst (λ n. P (n, v)) is one, all.1))
      (λ above. (all.0, all_put P rows k v all.1 one))

  -- a number that has a row keeps one
  pub some_put : (rows : List (ℕ × V)) (k q : ℕ) (v : V) → is_some (at rows q) ≡ true → is_some (at (put rows k v) q) ≡ true
  unfolding put at
  some_put [] k q v some = cc
  some_put (row ∷ rows) k q v some =
      put_rows (λ table. is_some (lookup (is_at (nat_cmp q)) table) ≡ true) row rows (insert_entry nat_cmp rows k v) k v
      (λ below. first (is_eq (nat_cmp q k)) v (lookup (is_at (nat_cmp q)) (row ∷ rows)) some)
      (λ is. second (is_eq (nat_cmp q row.0)) row.1 v (lookup (is_at (nat_cmp q)) rows) some)
      (λ above. third (is_eq (nat_cmp q row.0)) row.1 (lookup (is_at (nat_cmp q)) rows) (lookup (is_at (nat_cmp q)) (insert_entry nat_cmp rows k v))
      (λ is. some_put rows k q v is) some)
    where
      first : (t : Bool) (v : V) (old : Option V) → is_some old ≡ true → is_some (cond t (Some v) old) ≡ true
      first true v old is = refl
      first false v old is = is

      second : (t : Bool) (w v : V) (old : Option V) → is_some (cond t (Some w) old) ≡ true → is_some (cond t (Some v) old) ≡ true
      second true w v old is = refl
      second false w v old is = is

      third : (t : Bool) (w : V) (old new : Option V) → (is_some old ≡ true → is_some new ≡ true) → is_some (cond t (Some w) old) ≡ true
          → is_some (cond t (Some w) new) ≡ true
      third true w old new more is = refl
      third false w old new more is = more is

  -- what stands at a number is one of them
  pub at_has : (P : ℕ × V → Type 0) (rows : List (ℕ × V)) (k : ℕ) (v : V) → AllByRecursion P rows → at rows k ≡ Some v → P (k, v)
  unfolding at
  at_has P [] k v all is = cc
  at_has P (row ∷ rows) k v all is = by (λ more. at_has P rows k v all.1 more) (ltb k row.0) (eqb k row.0) refl is
    where
      by : (lookup (is_at (nat_cmp k)) rows ≡ Some v → P (k, v)) → (low same : Bool) → eqb k row.0 ≡ same
          → cond (is_eq (cond low Less (cond same Equal Greater))) (Some row.1) (lookup (is_at (nat_cmp k)) rows) ≡ Some v → P (k, v)
      by later true same here is = later is
      by later false true here is =
          let value : row.1 ≡ v = cc in
          subst (λ n. P (n, v)) (sym (eqb-true k row.0 here)) (subst (λ w. P (row.0, w)) value all.0)
      by later false false here is = later is

-- the numbers ascend
abbrev pub Ascends : {V : Type 0} → List (ℕ × V) → Type 0
Ascends [] = Unit {0}
Ascends (row ∷ rows) = AllByRecursion (λ q. row.0 < q.0) rows × Ascends rows

module _ {V : Type 0} where
  pub ascends_put : (rows : List (ℕ × V)) (k : ℕ) (v : V) → Ascends rows → Ascends (put rows k v)
  unfolding put
  ascends_put [] k v up = (tt, tt)
  ascends_put (row ∷ rows) k v up =
      put_rows Ascends row rows (insert_entry nat_cmp rows k v) k v
      (λ below. ((below, all_more (λ (q : ℕ × V). row.0 < q.0) (λ (q : ℕ × V). k < q.0) rows up.0 (λ q above. omega (arith, below, above))), up))
      (λ is. up)
      (λ above. (all_put (λ (q : ℕ × V). row.0 < q.0) rows k v up.0 above, ascends_put rows k v up.1))

  pub less_rows : (P : List (ℕ × V) → Type 0) (row : ℕ × V) (rows more : List (ℕ × V)) (k : ℕ) → (k ≡ row.0 → P rows) → ((row.0 ≡ k → ⊥) → P (row ∷ more))
      → P (cond (is_eq (nat_cmp k row.0)) rows (row ∷ more))
  less_rows P row rows more k equal other = by (ltb k row.0) refl (eqb k row.0) refl
    where
      by : (low : Bool) → ltb k row.0 ≡ low → (same : Bool) → eqb k row.0 ≡ same → P (cond (is_eq (cond low Less (cond same Equal Greater))) rows (row ∷ more))
      by true low same is = other (λ is. let below = ltb-true k row.0 low in omega (arith, below, is))
      by false low true is = equal (eqb-true k row.0 is)
      by false low false is = other (λ same. let apart = eqb-false k row.0 is in absurd (apart (sym same)))

  -- what is left are others of them
  pub all_less : (P : ℕ × V → Type 0) (rows : List (ℕ × V)) (k : ℕ) → Ascends rows → AllByRecursion P rows
      → AllByRecursion (λ q. P q × (q.0 ≡ k → ⊥)) (less rows k)
  unfolding less
  all_less P [] k up all = tt
  all_less P (row ∷ rows) k up all =
      less_rows (AllByRecursion (λ (q : ℕ × V). P q × (q.0 ≡ k → ⊥))) row rows (remove_entry (is_at (nat_cmp k)) rows) k
      (λ is. all_both (λ (q : ℕ × V). row.0 < q.0) P (λ q. P q × (q.0 ≡ k → ⊥)) rows up.0 all.1 (λ q above has. (has, (λ same. omega (arith, above, same, is)))))
      (λ other. ((all.0, other), all_less P rows k up.1 all.1))

  pub ascends_less : (rows : List (ℕ × V)) (k : ℕ) → Ascends rows → Ascends (less rows k)
  unfolding less
  ascends_less [] k up = tt
  ascends_less (row ∷ rows) k up =
      less_rows Ascends row rows (remove_entry (is_at (nat_cmp k)) rows) k (λ is. up.1)
      (λ other. (
        all_more (λ (q : ℕ × V). (row.0 < q.0) × (q.0 ≡ k → ⊥)) (λ (q : ℕ × V). row.0 < q.0) (less rows k) (all_less (λ (q : ℕ × V). row.0 < q.0) rows k up.1 up.0) (λ q both. both.0),
        ascends_less rows k up.1,
      ))

-- what is found is one of them
pub record IsFound {A : Type 0} (P : A → Type 0) (test : A → Bool) (x : A) : Type 0 where
  pub has : P x
  pub passes : test x ≡ true

pub found_has : {A : Type 0} (P : A → Type 0) (test : A → Bool) (xs : List A) (x : A) → AllByRecursion P xs → find test xs ≡ Some x → IsFound P test x
found_has P test [] x all is = cc
found_has P test (w ∷ ws) x all is = by (λ found. found_has P test ws x all.1 found) (test w) refl is
  where
    by : (find test ws ≡ Some x → IsFound P test x) → (t : Bool) → test w ≡ t → cond t (Some w) (find test ws) ≡ Some x → IsFound P test x
    by later true passes is = let same : w ≡ x = cc in subst (IsFound P test) same (record { has = all.0; passes = passes })
    by later false fails is = later is

-- where none is found none passes
pub all_none : {A : Type 0} (P Q : A → Type 0) (test : A → Bool) (xs : List A) → AllByRecursion P xs → find test xs ≡ None → ((x : A) → test x ≡ false → P x → Q x)
    → AllByRecursion Q xs
all_none P Q test [] all is one = tt
all_none P Q test (x ∷ xs) all is one = by (λ more. all_none P Q test xs all.1 more one) (test x) refl is
  where
    by : (find test xs ≡ None → AllByRecursion Q xs) → (t : Bool) → test x ≡ t → cond t (Some x) (find test xs) ≡ None → Q x × AllByRecursion Q xs
    by later true passes is = cc
    by later false fails is = (one x fails all.0, later is)

pub all_append : {A : Type 0} (P : A → Type 0) (xs ys : List A) → AllByRecursion P xs → AllByRecursion P ys → AllByRecursion P (xs ++ ys)
all_append P [] ys all more = more
all_append P (x ∷ xs) ys all more = (all.0, all_append P xs ys all.1 more)

pub no_rows : (V : Type 0) → IsAscending {V = V} []
unfolding IsStrictlySortedBy
no_rows V = tt
