-- That rights hold their pages through changes.
use Rattle.std.proofs.Common.{◌≡◌, ◌+◌, ◌-◌, ◌<◌, ◌≤◌, ℕ, zero, suc, Bool, not, ◌⊎◌, true, false, ◌&&◌, List, [], ◌∷◌, length, map, Option, None, Some, refl, sym, ◌∙◌, arith, eq-eqb, ne_eqb, lt-ltb, inl, inr}
use Rattle.std.specs.Prelude.{nat_le, nat_lt, IsSome, IsTrue, slice_get, if◌then◌else◌}
use Rattle.std.proofs.lemmas.Bool.{and_parts, and_from, leb-true, ltb-true, le-leb, cases_eq}
use Rattle.std.proofs.lemmas.List.{length-map}
use Rattle.xm_num.specs.RowLaws.{RowLaws}
use Rattle.xm_num.specs.Rows.{at, put, less, put_all, less_all, lowest_in, IsAscending}
use Rattle.xm_num.specs.declared.Page.{Page}
use Rattle.xm_num.specs.declared.Frame.{Frame}
use Rattle.xm_num.specs.declared.Access.{Access}
use Rattle.page_table.specs.Spaces.{AreOwn, own_frame, page_of}
use Rattle.page_table.specs.Held.{AreHeld, Covers, is_attached}

module _ (laws : RowLaws Page) (right_laws : RowLaws ℕ) where
  pub held_nothing : AreHeld [] []
  held_nothing =
      record {
        filled = λ first n is. absurd (let bad : None ≡ Some n = sym (right_laws.none first) ∙ is in (cc));
        attached = λ first n v here. absurd (let bad : None ≡ Some n = sym (right_laws.none first) ∙ here.right in (cc));
        apart = λ first n other m v here there. absurd (let bad : None ≡ Some n = sym (right_laws.none first) ∙ here.right in (cc));
      }

  -- pages that rights hold are as they were
  abbrev AreKept : List (ℕ × Page) → List (ℕ × ℕ) → List (ℕ × Page) → Type 0
  AreKept pages out now = (first n v : ℕ) → Covers out first n v → at now v ≡ at pages v

  kept_held : (pages : List (ℕ × Page)) (out : List (ℕ × ℕ)) (now : List (ℕ × Page)) → AreKept pages out now → AreHeld pages out → AreHeld now out
  kept_held pages out now kept held = record { filled = held.filled; attached = λ first n v here. rw (kept first n v here) (held.attached first n v here); apart = held.apart }

  -- a page that isn't mapped is no attached one, nor is an own page
  not_mapped : (pages : List (ℕ × Page)) (v : ℕ) → at pages v ≡ None → is_attached (at pages v) ≡ true → ⊥
  not_mapped pages v none attached = let bad : is_attached None ≡ true = rw none at attached in cc

  not_own : (o : Option Page) → IsSome (own_frame o) → is_attached o ≡ true → ⊥
  not_own None own attached = cc
  not_own (Some page) own attached = by page.own own attached
    where
      by : (b : Bool) → IsSome (if b then Some page.frame else None) → not b ≡ true → ⊥
      by true own attached = cc
      by false own attached = cc

  among : (k n v : ℕ) → (nat_le k v && nat_lt v (k + n)) ≡ true → (k ≤ v) × (v < k + n)
  among k n v pass = let parts = and_parts (nat_le k v) (nat_lt v (k + n)) pass in (leb-true k v parts.0, ltb-true v (k + n) parts.1)

  put_kept : (pages : List (ℕ × Page)) (out : List (ℕ × ℕ)) (k : ℕ) (vs : List Page) → lowest_in pages k (k + length vs) ≡ None → AreHeld pages out → AreKept pages out (put_all pages k vs)
  put_kept pages out k vs free held first n v here = laws.put_all_at pages k v vs ∙ by (nat_le k v && nat_lt v (k + length vs)) refl
    where
      by : (b : Bool) → (nat_le k v && nat_lt v (k + length vs)) ≡ b → (if b then slice_get vs (v - k) else at pages v) ≡ at pages v
      by false outside = refl
      by true within =
          let reach = among k (length vs) v within in
          absurd (not_mapped pages v ((laws.no_lowest pages k (k + length vs)).0 free v reach.0 reach.1) (held.attached first n v here))

  -- after pages were mapped that rights don't hold
  pub held_put_all : (pages : List (ℕ × Page)) (out : List (ℕ × ℕ)) (k : ℕ) (vs : List Page) → lowest_in pages k (k + length vs) ≡ None → AreHeld pages out → AreHeld (put_all pages k vs) out
  held_put_all pages out k vs free held = kept_held pages out (put_all pages k vs) (put_kept pages out k vs free held) held

  -- after own pages were unmapped
  pub held_less_all : (pages : List (ℕ × Page)) (out : List (ℕ × ℕ)) (k n : ℕ) → IsAscending pages → AreOwn pages k n → AreHeld pages out → AreHeld (less_all pages k n) out
  held_less_all pages out k n ascends own held = kept_held pages out (less_all pages k n) kept held
    where
      kept : AreKept pages out (less_all pages k n)
      kept first m v here = laws.less_all_at pages k n v ascends ∙ by (nat_le k v && nat_lt v (k + n)) refl
        where
          by : (b : Bool) → (nat_le k v && nat_lt v (k + n)) ≡ b → (if b then None else at pages v) ≡ at pages v
          by false outside = refl
          by true within = let reach = among k n v within in absurd (not_own (at pages v) (own v reach.0 reach.1) (held.attached first m v here))

  -- the right to a range is new where no page of the range was mapped
  pub no_right : (pages : List (ℕ × Page)) (out : List (ℕ × ℕ)) (k n : ℕ) → lowest_in pages k (k + n) ≡ None → 1 ≤ n → AreHeld pages out → at out k ≡ None
  no_right pages out k n free some held = by (at out k) refl
    where
      by : (o : Option ℕ) → at out k ≡ o → o ≡ None
      by None is = refl
      by (Some m) is =
          let filled = held.filled k m is in
          absurd (not_mapped pages k ((laws.no_lowest pages k (k + n)).0 free k (omega arith) (omega arith)) (held.attached k m k (record { right = is; low = omega arith; high = omega arith })))

  -- after a range was mapped, and its right is out
  attached_run : (access : Access) (frames : List Frame) (i : ℕ) → i < length frames → is_attached (slice_get (map (page_of access false) frames) i) ≡ true
  attached_run access [] i within = absurd (omega arith)
  attached_run access (frame ∷ frames) zero within = refl
  attached_run access (frame ∷ frames) (suc i) within = attached_run access frames i (omega arith)

  put_covers : (out : List (ℕ × ℕ)) (k m first n v : ℕ) → Covers (put out k m) first n v → ((k ≡ first) × (m ≡ n)) ⊎ Covers out first n v
  put_covers out k m first n v here = elim (cases_eq k first) [
    | inl same ↦ let is : Some m ≡ Some n = rw (right_laws.put_at out k first m, eq-eqb k first same) at here.right in inl (same, (cc))
    | inr other ↦ inr (record { right = rw (right_laws.put_at out k first m, ne_eqb k first other) at here.right; low = here.low; high = here.high })
  ]

  pub held_map : (pages : List (ℕ × Page)) (out : List (ℕ × ℕ)) (k : ℕ) (access : Access) (frames : List Frame) → lowest_in pages k (k + length frames) ≡ None → 1 ≤ length frames
      → AreHeld pages out → AreHeld (put_all pages k (map (page_of access false) frames)) (put out k (length frames))
  held_map pages out k access frames free some held = record { filled = filled; attached = attached; apart = apart }
    where
      size : length (map (page_of access false) frames) ≡ length frames
      size = length-map frames (page_of access false)

      filled : (first n : ℕ) → at (put out k (length frames)) first ≡ Some n → 1 ≤ n
      filled first n is = elim (cases_eq k first) [
        | inl same ↦ let here : Some (length frames) ≡ Some n = rw (right_laws.put_at out k first (length frames), eq-eqb k first same) at is in let e : length frames ≡ n = cc in omega arith
        | inr other ↦ held.filled first n (rw (right_laws.put_at out k first (length frames), ne_eqb k first other) at is)
      ]

      attached : (first n v : ℕ) → Covers (put out k (length frames)) first n v → IsTrue (is_attached (at (put_all pages k (map (page_of access false) frames)) v))
      attached first n v here = elim (put_covers out k (length frames) first n v here) [
        | inl new ↦
            let low : k ≤ v = omega (arith, here.low, new.0) in
            let high : v < k + length (map (page_of access false) frames) = omega (arith, size, here.high, new.0, new.1) in
            let within : (nat_le k v && nat_lt v (k + length (map (page_of access false) frames))) ≡ true = and_from _ _ (le-leb k v low) (lt-ltb v _ high) in
            rw (laws.put_all_at pages k v (map (page_of access false) frames), within) (attached_run access frames (v - k) (omega (arith, size)))
        | inr old ↦ rw (put_kept pages out k (map (page_of access false) frames) (rw size free) held first n v old) (held.attached first n v old)
      ]

      clash : (first n v : ℕ) → Covers out first n v → k ≤ v → v < k + length frames → ⊥
      clash first n v here low high = not_mapped pages v ((laws.no_lowest pages k (k + length frames)).0 free v low high) (held.attached first n v here)

      apart : (first n other m v : ℕ) → Covers (put out k (length frames)) first n v → Covers (put out k (length frames)) other m v → first ≡ other
      apart first n other m v here there = elim (put_covers out k (length frames) first n v here) [
        | inl new ↦ elim (put_covers out k (length frames) other m v there) [
          | inl also ↦ sym new.0 ∙ also.0
          | inr old ↦ absurd (clash other m v old (omega (arith, here.low, new.0)) (omega (arith, here.high, new.0, new.1)))
        ]
        | inr old ↦ elim (put_covers out k (length frames) other m v there) [
          | inl new ↦ absurd (clash first n v old (omega (arith, there.low, new.0)) (omega (arith, there.high, new.0, new.1)))
          | inr also ↦ held.apart first n other m v old also
        ]
      ]

  -- after a range was unmapped, and its right is spent
  less_covers : (out : List (ℕ × ℕ)) (k first n v : ℕ) → IsAscending out → Covers (less out k) first n v → (k ≡ first → ⊥) × Covers out first n v
  less_covers out k first n v ascends here = elim (cases_eq k first) [
    | inl same ↦ absurd (let bad : None ≡ Some n = rw (right_laws.less_at out k first ascends, eq-eqb k first same) at here.right in (cc))
    | inr other ↦ (other, record { right = rw (right_laws.less_at out k first ascends, ne_eqb k first other) at here.right; low = here.low; high = here.high })
  ]

  pub held_unmap : (pages : List (ℕ × Page)) (out : List (ℕ × ℕ)) (k m : ℕ) → IsAscending pages → IsAscending out → at out k ≡ Some m → AreHeld pages out → AreHeld (less_all pages k m) (less out k)
  held_unmap pages out k m ascends sorted right held = record { filled = filled; attached = attached; apart = apart }
    where
      filled : (first n : ℕ) → at (less out k) first ≡ Some n → 1 ≤ n
      filled first n is = elim (cases_eq k first) [
        | inl same ↦ absurd (let bad : None ≡ Some n = rw (right_laws.less_at out k first sorted, eq-eqb k first same) at is in (cc))
        | inr other ↦ held.filled first n (rw (right_laws.less_at out k first sorted, ne_eqb k first other) at is)
      ]

      attached : (first n v : ℕ) → Covers (less out k) first n v → IsTrue (is_attached (at (less_all pages k m) v))
      attached first n v here = rw (laws.less_all_at pages k m v ascends) (by (nat_le k v && nat_lt v (k + m)) refl)
        where
          by : (b : Bool) → (nat_le k v && nat_lt v (k + m)) ≡ b → IsTrue (is_attached (if b then None else at pages v))
          by false outside = held.attached first n v (less_covers out k first n v sorted here).1
          by true within =
              let reach = among k m v within in
              let old = less_covers out k first n v sorted here in
              absurd (old.0 (held.apart k m first n v (record { right = right; low = reach.0; high = reach.1 }) old.1))

      apart : (first n other m' v : ℕ) → Covers (less out k) first n v → Covers (less out k) other m' v → first ≡ other
      apart first n other m' v here there = held.apart first n other m' v (less_covers out k first n v sorted here).1 (less_covers out k other m' v sorted there).1
