-- Rows and their index: what a change leaves, and which row or enclave comes first.
use Rattle.std.proofs.Common.{◌≡◌, ◌<◌, ◌≤◌, length, ℕ, ℤ, Bool, true, false, not, ◌&&◌, ◌||◌, List, [], ◌∷◌, None, Some, refl, sym, ap, ◌∙◌, subst, true≢false, arith, eq-eqb}
use Rattle.std.specs.Prelude.{◌==◌, ⊤, Option, IsSome, is_some, IfSome, IfNone, slice_get, if◌then◌else◌}
use Rattle.std.specs.List.{list_any}
use Rattle.std.specs.Ordering.{int_eq}
use Rattle.std.specs.BTreeMap.{BTreeMap, get}
use Rattle.std.specs.BTreeMap.Range.{IsLeBy, IsRangeOf}
use Rattle.std.specs.declared.ops.Bound.TheVariants.{Included, Unbounded}
use Rattle.std.proofs.lemmas.Bool.{and_parts, and_from, eqb-true, false_from_ne_true}
use Rattle.std.specs.List.Sorted.{IsStrictlySortedBy}
use Rattle.xm_num.specs.declared.Enclave.{Enclave}
use Rattle.xm_num.specs.declared.Segid.{Segid}
use Rattle.holder_table.specs.declared.Held.{Held}
use Rattle.holder_table.specs.Holding.{Holding, IsAscending, IsLeastCall, IsNextHolder, IsNextRow, name_order, held, is_holder, is_named, is_of, with_held, without_enclave, without_held}
use Rattle.holder_table.specs.Index.{AreKept, IsNextIndexed, is_held_of, is_indexed}
use Rattle.holder_table.proofs.RowLemmas.{held_with, held_without, held_of_others, with_ascends, without_ascends, others_ascend, same_rows, found, seen, fewer}

-- whether a key stands in the index after a change, where the test tells whether its name is the changed one
put_there : (x t was : Bool) → (t ≡ true → was ≡ false) → (x && t || was) ≡ (if t then x else was)
put_there true true was none = refl
put_there true false was none = refl
put_there false true was none = none refl
put_there false false was none = refl

taken_there : (x t was : Bool) → (t ≡ true → was ≡ x) → (not (x && t) && was) ≡ (if t then false else was)
taken_there true true was its = refl
taken_there true false was its = refl
taken_there false true was its = its refl
taken_there false false was its = refl

module _ {V : Type 0} (rows : Holding V) (ascends : IsAscending rows) where
  holds : (segid : ℤ) (e c : ℕ) → is_held_of segid (held rows e c) ≡ true → is_holder rows segid e ≡ true
  unfolding is_holder
  holds segid e c is = by (held rows e c) refl is
    where
      by : (was : Option (Held V)) → held rows e c ≡ was → is_held_of segid was ≡ true → list_any (λ row. (row.0.0 == e) && is_of segid row.1) rows ≡ true
      by None there is = cc
      by (Some h) there is = found (λ row. (row.0.0 == e) && is_of segid row.1) rows e c h there (and_from (e == e) (is_of segid h) (eq-eqb e e refl) is)

  held_by : (segid : ℤ) (e : ℕ) → is_holder rows segid e ≡ true → (c : ℕ) × (is_held_of segid (held rows e c) ≡ true)
  unfolding is_holder
  held_by segid e is =
      let one = seen (λ row. (row.0.0 == e) && is_of segid row.1) rows ascends is in
      let parts = and_parts (one.0 == e) (is_of segid one.2) one.4 in
      let same : e ≡ one.0 = sym (eqb-true one.0 e parts.0) in
      (one.1, ap (λ q. is_held_of segid (held rows q one.1)) same ∙ ap (is_held_of segid) one.3 ∙ parts.1)

  named_by : (segid : ℤ) (e : ℕ) → is_holder rows segid e ≡ true → is_named rows segid ≡ true
  unfolding is_holder is_named
  named_by segid e is =
      let one = seen (λ row. (row.0.0 == e) && is_of segid row.1) rows ascends is in
      found (λ row. is_of segid row.1) rows one.0 one.1 one.2 one.3 (and_parts (one.0 == e) (is_of segid one.2) one.4).1

  named_by_none : (segid : ℤ) → ((e : ℕ) → 0 ≤ e → is_holder rows segid e ≡ false) → is_named rows segid ≡ false
  unfolding is_named
  named_by_none segid none =
      false_from_ne_true (list_any (λ row. is_of segid row.1) rows) (λ is.
      let one = seen (λ row. is_of segid row.1) rows ascends is in
      true≢false (sym (holds segid one.0 one.1 (ap (is_held_of segid) one.3 ∙ one.4)) ∙ none one.0 (omega arith)))

  pub named_is : (segid : ℤ) (first : Option Enclave) → IfSome first (λ to. IsNextHolder rows segid 0 to.0) → IfNone first ((e : ℕ) → 0 ≤ e → is_holder rows segid e ≡ false) → is_some first ≡ is_named rows segid
  named_is segid None least none = sym (named_by_none segid none)
  named_is segid (Some to) least none = sym (named_by segid to.0 least.here)

module _ {V : Type 0} (rows : Holding V) (keys : List (Segid × (ℕ × ℕ))) (kept : AreKept rows keys) where
  at_name : (to call e c : ℕ) (was : Option (Held V)) → held rows to call ≡ was → ((to == e) && (call == c)) ≡ true → held rows e c ≡ was
  at_name to call e c was there is =
      let parts = and_parts (to == e) (call == c) is in
      let enclave : e ≡ to = sym (eqb-true to e parts.0) in
      let number : c ≡ call = sym (eqb-true call c parts.1) in
      ap (λ q. held rows q c) enclave ∙ ap (held rows to) number ∙ there

  pub kept_with : (to call : ℕ) (h : Held V) (new : List (Segid × (ℕ × ℕ))) → held rows to call ≡ None
      → ((s : Segid) (e c : ℕ) → is_indexed new s e c ≡ (int_eq h.segid.0 s.0 && ((to == e) && (call == c)) || is_indexed keys s e c))
      → AreKept (with_held rows to call h) new
  kept_with to call h new none changed = record { ascending = with_ascends rows to call h kept.ascending; indexed = indexed }
    where
      indexed : (s : Segid) (e c : ℕ) → is_indexed new s e c ≡ is_held_of s.0 (held (with_held rows to call h) e c)
      indexed s e c =
          changed s e c
          ∙ ap (λ b. int_eq h.segid.0 s.0 && ((to == e) && (call == c)) || b) (kept.indexed s e c)
          ∙ put_there (int_eq h.segid.0 s.0) ((to == e) && (call == c)) (is_held_of s.0 (held rows e c)) (λ is. ap (is_held_of s.0) (at_name to call e c None none is))
          ∙ by ((to == e) && (call == c)) (held rows e c)
          ∙ sym (ap (is_held_of s.0) (held_with rows to call e c h))
        where
          by : (t : Bool) (was : Option (Held V)) → (if t then int_eq h.segid.0 s.0 else is_held_of s.0 was) ≡ is_held_of s.0 (if t then Some h else was)
          by true was = refl
          by false was = refl

  pub kept_without : (to call : ℕ) (h : Held V) (new : List (Segid × (ℕ × ℕ))) → held rows to call ≡ Some h
      → ((s : Segid) (e c : ℕ) → is_indexed new s e c ≡ (not (int_eq h.segid.0 s.0 && ((to == e) && (call == c))) && is_indexed keys s e c))
      → AreKept (without_held rows to call) new
  kept_without to call h new there changed = record { ascending = without_ascends rows to call kept.ascending; indexed = indexed }
    where
      indexed : (s : Segid) (e c : ℕ) → is_indexed new s e c ≡ is_held_of s.0 (held (without_held rows to call) e c)
      indexed s e c =
          changed s e c
          ∙ ap (λ b. not (int_eq h.segid.0 s.0 && ((to == e) && (call == c))) && b) (kept.indexed s e c)
          ∙ taken_there (int_eq h.segid.0 s.0) ((to == e) && (call == c)) (is_held_of s.0 (held rows e c)) (λ is. ap (is_held_of s.0) (at_name to call e c (Some h) there is))
          ∙ by ((to == e) && (call == c)) (held rows e c)
          ∙ sym (ap (is_held_of s.0) (held_without rows to call e c kept.ascending))
        where
          by : (t : Bool) (was : Option (Held V)) → (if t then false else is_held_of s.0 was) ≡ is_held_of s.0 (if t then None else was)
          by true was = refl
          by false was = refl

  pub next_held : (segid : Segid) (low to : ℕ) → IsNextIndexed keys segid low to → IsNextHolder rows segid.0 low to
  next_held segid low to next = record {
    from = next.from;
    here = holds rows kept.ascending segid.0 to next.here.0 (sym (kept.indexed segid to next.here.0) ∙ next.here.1);
    least = λ e up is. let one = held_by rows kept.ascending segid.0 e is in next.least e one.0 up (kept.indexed segid e one.0 ∙ one.1);
  }

  pub none_held : (segid : Segid) (low : ℕ) (first : Option Enclave) → IfNone first ((e c : ℕ) → low ≤ e → is_indexed keys segid e c ≡ false) → IfNone first ((e : ℕ) → low ≤ e → is_holder rows segid.0 e ≡ false)
  none_held segid low (Some to) none = tt
  none_held segid low None none = λ e up.
      false_from_ne_true (is_holder rows segid.0 e) (λ is. let one = held_by rows kept.ascending segid.0 e is in true≢false (sym (kept.indexed segid e one.0 ∙ one.1) ∙ none e one.0 up))

-- which row comes first
module _ {V : Type 0} (m : BTreeMap (ℕ × ℕ) (Held V)) (low : ℕ × ℕ) (r : List ((ℕ × ℕ) × Held V)) (range : IsRangeOf name_order (Included low) Unbounded m r) where
  pub no_next : r ≡ [] → (e c : ℕ) → IsLeBy name_order low (e, c) → held m.entries e c ≡ None
  unfolding held
  no_next none e c up = range.5 none (e, c) (up, tt)

  pub next_row : (row : (ℕ × ℕ) × Held V) (left : List ((ℕ × ℕ) × Held V)) → r ≡ row ∷ left → IsNextRow m.entries low row.0 row.1
  unfolding held
  next_row row left is =
      let Here : List ((ℕ × ℕ) × Held V) → Type 0 = λ r. IfSome (slice_get r 0) (λ row. (IsLeBy name_order low row.0 × ⊤) × (get name_order m row.0 ≡ Some row.1)) in
      let here = subst Here is range.1 in
      record {
        from = here.0.0;
        here = here.1;
        least = λ e c up some.
            let After : List ((ℕ × ℕ) × Held V) → Type 0 = λ r. IfSome (slice_get r 0) (λ row. IsLeBy name_order row.0 (e, c)) in
            subst After is (range.2 (e, c) (up, tt) some);
      }

pub kept_none : {V : Type 0} → AreKept {V = V} [] []
unfolding IsStrictlySortedBy held
kept_none = record { ascending = tt; indexed = λ s e c. refl }

-- an enclave is forgotten row by row
module _ {V : Type 0} (rows : Holding V) (gone : ℕ) (ascends : IsAscending rows) where
  pub one_fewer : (call : ℕ) → IsLeastCall rows gone call → length (without_held rows gone call) < length rows
  one_fewer call least = by (held rows gone call) refl least.here
    where
      by : (was : Option (Held V)) → held rows gone call ≡ was → IsSome was → length (without_held rows gone call) < length rows
      by None there some = absurd (cc)
      by (Some h) there some = fewer rows gone call h there

  pub forgets_one : (call : ℕ) → without_enclave (without_held rows gone call) gone ≡ without_enclave rows gone
  forgets_one call =
      same_rows (without_enclave (without_held rows gone call) gone) (without_enclave rows gone)
      (others_ascend (without_held rows gone call) gone (without_ascends rows gone call ascends)) (others_ascend rows gone ascends)
      (λ e c.
      held_of_others (without_held rows gone call) gone e c
      ∙ ap (λ x. if gone == e then None else x) (held_without rows gone call e c ascends)
      ∙ by (gone == e) (call == c) (held rows e c)
      ∙ sym (held_of_others rows gone e c))
    where
      by : (s t : Bool) (was : Option (Held V)) → (if s then None else (if s && t then None else was)) ≡ (if s then None else was)
      by true t was = refl
      by false t was = refl

  pub forgotten : ((c : ℕ) → held rows gone c ≡ None) → without_enclave rows gone ≡ rows
  forgotten none = same_rows (without_enclave rows gone) rows (others_ascend rows gone ascends) ascends (λ e c. held_of_others rows gone e c ∙ by e c (gone == e) refl)
    where
      by : (e c : ℕ) (s : Bool) → (gone == e) ≡ s → (if s then None else held rows e c) ≡ held rows e c
      by e c true same = sym (none c) ∙ ap (λ q. held rows q c) (eqb-true gone e same)
      by e c false other = refl
