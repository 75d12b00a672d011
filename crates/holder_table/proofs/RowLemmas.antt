-- Rows by their names: look-ups after a change, order, and what holds of some row.
use Rattle.std.proofs.Common.{◌≡◌, ◌<◌, ℕ, Bool, true, false, cond, not, ◌&&◌, List, [], ◌∷◌, None, Some, refl, ap, ◌∙◌, length, arith}
use Rattle.std.specs.Prelude.{◌==◌, Option, if◌then◌else◌}
use Rattle.std.specs.List.{list_any, filter}
use Rattle.std.specs.Ordering.{is_eq}
use Rattle.std.specs.BTreeMap.{is_at}
use Rattle.std.specs.Map.{lookup, keys_of}
use Rattle.std.proofs.lemmas.Bool.Decides.{nat_tests}
use Rattle.std.proofs.lemmas.List.Kept.{IsStrictlySortedBy-filter}
use Rattle.std.proofs.lemmas.Map.Entries.{lookup-filter-keys}
use Rattle.holder_table.specs.declared.Held.{Held}
use Rattle.holder_table.specs.Holding.{Holding, IsAscending, name_order, held, with_held, without_held, without_enclave}
use Rattle.holder_table.proofs.NameLemmas.{names_total, names_exact, same_name}
use Rattle.holder_table.proofs.Tables as tables

flip : (a b : ℕ) → (a == b) ≡ (b == a)
flip a b = grind (arith, nat_tests)

module _ {K X : Type 0} (p : K → Bool) where
  keys_kept : (es : List (K × X)) → keys_of (filter (λ e. p e.0) es) ≡ filter p (keys_of es)
  keys_kept [] = refl
  keys_kept (e ∷ es) = by (keys_kept es) (p e.0)
    where
      by : keys_of (filter (λ e. p e.0) es) ≡ filter p (keys_of es) → (t : Bool) → keys_of (cond t (e ∷ filter (λ e. p e.0) es) (filter (λ e. p e.0) es)) ≡ cond t (e.0 ∷ filter p (keys_of es)) (filter p (keys_of es))
      by more true = ap (λ ks. e.0 ∷ ks) more
      by more false = more

module _ {V : Type 0} where
  pub held_none : (e c : ℕ) → held {V = V} [] e c ≡ None
  unfolding held
  held_none e c = refl

  pub held_with : (rows : Holding V) (to call e c : ℕ) (h : Held V) → held (with_held rows to call h) e c ≡ (if (to == e) && (call == c) then Some h else held rows e c)
  unfolding held with_held
  held_with rows to call e c h =
      let test : is_eq (name_order (e, c) (to, call)) ≡ ((to == e) && (call == c)) = same_name (e, c) (to, call) ∙ rw (flip e to, flip c call) refl in
      tables.lookup_put names_total rows (to, call) h (e, c) ∙ ap (λ b. cond b (Some h) (lookup (is_at (name_order (e, c))) rows)) test

  pub held_without : (rows : Holding V) (to call e c : ℕ) → IsAscending rows → held (without_held rows to call) e c ≡ (if (to == e) && (call == c) then None else held rows e c)
  unfolding held without_held
  held_without rows to call e c ascends =
      tables.lookup_less names_total rows (to, call) (e, c) ascends ∙ ap (λ b. cond b None (lookup (is_at (name_order (e, c))) rows)) (same_name (to, call) (e, c))

  pub held_of_others : (rows : Holding V) (gone e c : ℕ) → held (without_enclave rows gone) e c ≡ (if gone == e then None else held rows e c)
  unfolding held without_enclave
  held_of_others rows gone e c =
      lookup-filter-keys (is_at (name_order (e, c))) (λ name. not (name.0 == gone)) (not (e == gone)) at_name rows ∙ rw (flip e gone) (by (gone == e) (lookup (is_at (name_order (e, c))) rows))
    where
      at_name : (name : ℕ × ℕ) → is_at (name_order (e, c)) name ≡ true → not (name.0 == gone) ≡ not (e == gone)
      at_name name is = let same : (e, c) ≡ name = names_exact (e, c) name (tables.equal (name_order (e, c) name) is) in rw (← same) refl

      by : (b : Bool) (found : Option (Held V)) → cond (not b) found None ≡ (if b then None else found)
      by true found = refl
      by false found = refl

  pub with_ascends : (rows : Holding V) (to call : ℕ) (h : Held V) → IsAscending rows → IsAscending (with_held rows to call h)
  unfolding with_held
  with_ascends rows to call h = tables.sorted_put names_total rows (to, call) h

  pub without_ascends : (rows : Holding V) (to call : ℕ) → IsAscending rows → IsAscending (without_held rows to call)
  unfolding without_held
  without_ascends rows to call = tables.sorted_less names_total rows (is_at (name_order (to, call)))

  pub others_ascend : (rows : Holding V) (gone : ℕ) → IsAscending rows → IsAscending (without_enclave rows gone)
  unfolding without_enclave
  others_ascend rows gone ascends =
      let kept = keys_kept (λ (name : ℕ × ℕ). not (name.0 == gone)) rows in
      rw kept (IsStrictlySortedBy-filter name_order (λ name. not (name.0 == gone)) (keys_of rows) ascends)

  pub same_rows : (a b : Holding V) → IsAscending a → IsAscending b → ((e c : ℕ) → held a e c ≡ held b e c) → a ≡ b
  unfolding held
  same_rows a b s t h = tables.same_entries names_total names_exact a b s t (λ name. h name.0 name.1)

  pub found : (test : (ℕ × ℕ) × Held V → Bool) (rows : Holding V) (e c : ℕ) (h : Held V) → held rows e c ≡ Some h → test ((e, c), h) ≡ true → list_any test rows ≡ true
  unfolding held
  found test rows e c h = tables.found names_total names_exact test rows (e, c) h

  pub seen : (test : (ℕ × ℕ) × Held V → Bool) (rows : Holding V) → IsAscending rows → list_any test rows ≡ true
      → (e : ℕ) × (c : ℕ) × (h : Held V) × (held rows e c ≡ Some h) × (test ((e, c), h) ≡ true)
  unfolding held
  seen test rows ascends some = let one = tables.seen names_total names_exact test rows ascends some in (one.0.0, one.0.1, one.1, one.2, one.3)

  pub fewer : (rows : Holding V) (to call : ℕ) (h : Held V) → held rows to call ≡ Some h → length (without_held rows to call) < length rows
  unfolding held without_held
  fewer rows to call h = tables.shorter (is_at (name_order (to, call))) rows h
