-- Maps by numbers in order of insertion, as rows.
use Rattle.std.proofs.Common.{◌≡◌, ◌<◌, ℕ, Bool, true, false, cond, List, [], ◌∷◌, Option, None, Some, refl, sym, ap, subst, ◌∙◌, arith, nat_eq, ne_eqb}
use Rattle.std.specs.Prelude.{◌==◌, is_some, Result, Ok, Err, OnOk, OnErr, IsSome, nat_lt}
use Rattle.std.specs.Cmp.{unsigned_tied}
use Rattle.std.specs.Ordering.{nat_cmp}
use Rattle.std.specs.BTreeMap.{is_at}
use Rattle.std.specs.Map.{lookup, remove_entry, set_value}
use Rattle.std.specs.HashMap.{HashMap}
use Rattle.std.proofs.lemmas.Map.Steps.{set_value_same}
use Rattle.std.proofs.lemmas.Bool.{le-ltb}
use Rattle.xm_num.specs.Rows.{at, put, less, IsAscending}
use Rattle.xm_num.specs.RowLaws.{RowLaws}
use Rattle.indexmap.specs.IndexMap.{keys, insert_entry, WritesThrough}
use Rattle.attach_map.specs.Seats.{Seat, seat_pages, IsLast, ChangesAt}

module _ {V : Type 0} where
  -- what a map finds, and what it leaves
  pub found : (es : List (ℕ × V)) (k : ℕ) → lookup (nat_eq k) es ≡ at es k
  unfolding at
  found es k = sym (λ i. lookup (λ x. unsigned_tied k x i) es)

  pub left : (es : List (ℕ × V)) (k : ℕ) → remove_entry (nat_eq k) es ≡ less es k
  unfolding less
  left es k = sym (λ i. remove_entry (λ x. unsigned_tied k x i) es)

  -- what is written at a number that has a row
  pub written : RowLaws V → {S : Type 0} (m n : HashMap ℕ V S) (k : ℕ) (w : V) → IsAscending m.entries → IsSome (at m.entries k) → WritesThrough nat_eq (nat_eq k) m w n
      → n.entries ≡ put m.entries k w
  written laws m n k w ascends some writes =
      let updates = writes.3 (subst IsSome (sym (found m.entries k)) some) in
      laws.same n.entries (put m.entries k w) (ascending writes.1) (laws.put_ascends m.entries k w ascends)
      (λ q. sym (found n.entries q) ∙ updates.0 q ∙ ap (cond (k == q) (Some w)) (found m.entries q) ∙ sym (laws.put_at m.entries k q w))
    where
      ascending : keys n ≡ keys m → IsAscending n.entries
      ascending is = rw is ascends

  later : (e : ℕ × V) (es : List (ℕ × V)) (q : ℕ) → IsSome (at es q) → IsSome (at (e ∷ es) q)
  unfolding at
  later e es q some = by (is_at (nat_cmp q) e.0) some
    where
      by : (b : Bool) → IsSome (at es q) → IsSome (cond b (Some e.1) (at es q))
      by true some = refl
      by false some = some

  -- a number behind all others
  pub pushed : RowLaws V → (es : List (ℕ × V)) (k : ℕ) (v : V) → IsLast es k → insert_entry nat_eq es k v ≡ put es k v
  unfolding put
  pushed laws [] k v last = refl
  pushed laws (e ∷ es) k v last =
      let below : e.0 < k = last e.0 (rw (laws.head e es) refl) in
      let other : nat_eq k e.0 ≡ false = ne_eqb k e.0 (λ same. omega (arith, below, same)) in
      let behind : nat_lt k e.0 ≡ false = le-ltb k e.0 (omega (arith, below)) in
      rw (other, behind, pushed laws es k v (λ q some. last q (later e es q some))) refl

  -- what is known of a row that was found
  pub here : (es : List (ℕ × V)) (k : ℕ) (r : Option V) → r ≡ lookup (nat_eq k) es → r ≡ at es k
  here es k r is = is ∙ found es k

  -- what was lent of a row, by what it is afterwards
  module _ (laws : RowLaws V) {S : Type 0} (m n : HashMap ℕ V S) (k : ℕ) (v w : V) (is : Some v ≡ lookup (nat_eq k) m.entries) (writes : WritesThrough nat_eq (nat_eq k) m w n) where
    pub changed : (f : V → V) → IsAscending m.entries → w ≡ f v → ChangesAt f m.entries k n.entries
    changed f ascends after u there =
        let same : Some v ≡ Some u = is ∙ found m.entries k ∙ there in
        let value : v ≡ u = cc in
        written laws m n k w ascends (rw there refl) writes ∙ ap (put m.entries k) after ∙ ap (λ x. put m.entries k (f x)) value

    pub kept : w ≡ v → n.entries ≡ m.entries
    kept after = writes.0 ∙ ap (set_value (nat_eq k) m.entries) after ∙ set_value_same (nat_eq k) m.entries v (sym is)

  -- a row that is there isn't missed
  pub missed : (es : List (ℕ × V)) (k : ℕ) → IsSome (at es k) → None ≡ lookup (nat_eq k) es → ⊥
  missed es k some none =
      let there : at es k ≡ None = sym (none ∙ found es k) in
      let bad : is_some {T = V} None ≡ true = rw there at some in
      cc

  -- and a number behind all others has none
  pub none_last : (es : List (ℕ × V)) (k : ℕ) (v : V) → IsLast es k → Some v ≡ lookup (nat_eq k) es → ⊥
  none_last es k v last some =
      let there : Some v ≡ at es k = some ∙ found es k in
      let below : k < k = last k (rw (← there) refl) in
      omega (arith, below)

pub on_ok : {T E P Q : Type 0} (r : Result T E) → (P → Q) → OnOk r P → OnOk r Q
on_ok (Ok t) f holds = f holds
on_ok (Err e) f holds = tt

pub on_err : {T E P Q : Type 0} (r : Result T E) → (P → Q) → OnErr r P → OnErr r Q
on_err (Ok t) f holds = tt
on_err (Err e) f holds = f holds

-- the pages of a process that was found
pub its_pages : (rows : List (ℕ × Seat)) (k : ℕ) (seat : Seat) → Some seat ≡ lookup (nat_eq k) rows → seat_pages rows k ≡ seat.process.pages
its_pages rows k seat is = let there : at rows k ≡ Some seat = sym (is ∙ found rows k) in rw there refl
