-- Elements of lists after a change.
use Rattle.std.proofs.Common.{◌≡◌, ◌<◌, ℕ, zero, suc, List, [], ◌∷◌, length, Bool, true, false, eqb, refl, sym, ap, ◌∙◌, subst}
use Rattle.std.specs.Prelude.{slice_set, slice_index_or}
use Rattle.std.proofs.lemmas.Bool.{eqb-true, eqb-false}
use Rattle.std.proofs.lemmas.List.{get_or-set_same, get_or-set_other}

-- what holds of the element that was put, and of the others, holds of each
pub set_case : {A : Type 0} (xs : List A) (i j : ℕ) (a d : A) (P : A → Type 0) → i < length xs → (j ≡ i → P a) → ((j ≡ i → ⊥) → P (slice_index_or xs j d)) → P (slice_index_or (slice_set xs i a) j d)
set_case xs i j a d P within here there = by (eqb j i) refl
  where
    by : (b : Bool) → eqb j i ≡ b → P (slice_index_or (slice_set xs i a) j d)
    by true is = let same = eqb-true j i is in subst P (sym (ap (λ k. slice_index_or (slice_set xs i a) k d) same ∙ get_or-set_same xs i a d within)) (here same)
    by false is = let apart = eqb-false j i is in subst P (sym (get_or-set_other xs i j a d apart)) (there apart)

-- what the new element has of the one before, each element has as before
pub set_field : {A B : Type 0} (f : A → B) (xs : List A) (i j : ℕ) (a d : A) → f a ≡ f (slice_index_or xs i d) → f (slice_index_or (slice_set xs i a) j d) ≡ f (slice_index_or xs j d)
set_field f [] i j a d is = refl
set_field f (x ∷ xs) zero zero a d is = is
set_field f (x ∷ xs) zero (suc j) a d is = refl
set_field f (x ∷ xs) (suc i) zero a d is = refl
set_field f (x ∷ xs) (suc i) (suc j) a d is = set_field f xs i j a d is
