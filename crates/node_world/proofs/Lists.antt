-- Choices, and elements of lists after a change.
use Rattle.std.proofs.Common.{◌≡◌, ◌<◌, ℕ, zero, suc, List, [], ◌∷◌, ◌++◌, length, Bool, true, false, cond, eqb, ltb, refl, sym, ap, ◌∙◌, subst, arith, length-append}
use Rattle.std.specs.Prelude.{Option, None, Some, is_some, slice_get, slice_set, slice_index_or}
use Rattle.std.proofs.lemmas.Bool.{eqb-true, eqb-false, ltb-true, ltb-false}
use Rattle.std.proofs.lemmas.List.{get_or-set_same, get_or-set_other}
use Rattle.std.proofs.lemmas.Option.{slice_get_within}
use Rattle.std.proofs.Math.ListN.{get_or-append}
use Rattle.std.proofs.Math.Seq.{get_or-append_seam}
use Rattle.enclave_rules.specs.Core.{host}
use Rattle.enclave_node.specs.Nodes.{NodeView, unborn_node}
use Rattle.node_machine.specs.Machine.{has_node, node_at}

-- what holds of both holds of the one that is chosen
pub cond_case : {X : Type 0} (b : Bool) (x y : X) (P : X → Type 0) → P x → P y → P (cond b x y)
cond_case true x y P one two = one
cond_case false x y P one two = two

pub same_either : {X : Type 0} (b : Bool) (x : X) → cond b x x ≡ x
same_either true x = refl
same_either false x = refl

-- what holds of the element that was put, and of the others, holds of each
pub set_case : {A : Type 0} (xs : List A) (i j : ℕ) (a d : A) (P : A → Type 0) → i < length xs → (j ≡ i → P a) → ((j ≡ i → ⊥) → P (slice_index_or xs j d)) → P (slice_index_or (slice_set xs i a) j d)
set_case xs i j a d P within here there = by (eqb j i) refl
  where
    by : (b : Bool) → eqb j i ≡ b → P (slice_index_or (slice_set xs i a) j d)
    by true is = let same = eqb-true j i is in subst P (sym (ap (λ k. slice_index_or (slice_set xs i a) k d) same ∙ get_or-set_same xs i a d within)) (here same)
    by false is = let apart = eqb-false j i is in subst P (sym (get_or-set_other xs i j a d apart)) (there apart)

-- what the new element has of the one before, each element has as before
pub set_field : {A B : Type 0} (f : A → B) (xs : List A) (i j : ℕ) (a d : A) → f a ≡ f (slice_index_or xs i d) → f (slice_index_or (slice_set xs i a) j d) ≡ f (slice_index_or xs j d)
set_field f [] i j a d is = refl
set_field f (x ∷ xs) zero zero a d is = is
set_field f (x ∷ xs) zero (suc j) a d is = refl
set_field f (x ∷ xs) (suc i) zero a d is = refl
set_field f (x ∷ xs) (suc i) (suc j) a d is = set_field f xs i j a d is

-- what holds of the elements so far and of one more
pub push_case : {A : Type 0} (xs : List A) (i : ℕ) (a d : A) (P : A → Type 0) → i < length (xs ++ a ∷ []) → (i < length xs → P (slice_index_or xs i d)) → (i ≡ length xs → P a) → P (slice_index_or (xs ++ a ∷ []) i d)
push_case xs i a d P within old new = by (ltb i (length xs)) refl
  where
    by : (b : Bool) → ltb i (length xs) ≡ b → P (slice_index_or (xs ++ a ∷ []) i d)
    by true is = let lt = ltb-true i (length xs) is in subst P (sym (get_or-append xs (a ∷ []) d i lt)) (old lt)
    by false is =
        let le = ltb-false i (length xs) is in
        let size = length-append xs (a ∷ []) in
        let last : i ≡ length xs = omega (arith, within, le, size) in
        subst P (sym (ap (λ k. slice_index_or (xs ++ a ∷ []) k d) last ∙ get_or-append_seam xs a [] d)) (new last)

-- ---- nodes by number

-- who has a node was born
pub node_within : (nodes : List NodeView) (e : ℕ) → has_node nodes e ≡ true → e < length nodes
node_within nodes e has = by (slice_get nodes e) refl has
  where
    by : (o : Option NodeView) → slice_get nodes e ≡ o → is_some o ≡ true → e < length nodes
    by None is has = cc
    by (Some node) is has = slice_get_within nodes e node is

-- and what is read of an enclave without one is nothing
pub node_gone : (nodes : List NodeView) (e : ℕ) → has_node nodes e ≡ false → node_at nodes e ≡ unborn_node 0 host []
node_gone [] e gone = refl
node_gone (node ∷ nodes) zero gone = cc
node_gone (node ∷ nodes) (suc e) gone = node_gone nodes e gone

pub has-set : (nodes : List NodeView) (i e : ℕ) (node : NodeView) → has_node (slice_set nodes i node) e ≡ has_node nodes e
has-set [] i e node = refl
has-set (n ∷ nodes) zero zero node = refl
has-set (n ∷ nodes) zero (suc e) node = refl
has-set (n ∷ nodes) (suc i) zero node = refl
has-set (n ∷ nodes) (suc i) (suc e) node = has-set nodes i e node

pub has-last : (nodes : List NodeView) (node : NodeView) → has_node (nodes ++ node ∷ []) (length nodes) ≡ true
has-last [] node = refl
has-last (n ∷ nodes) node = has-last nodes node

pub has-before : (nodes : List NodeView) (node : NodeView) (e : ℕ) → (e ≡ length nodes → ⊥) → has_node (nodes ++ node ∷ []) e ≡ has_node nodes e
has-before [] node zero other = absurd (other refl)
has-before [] node (suc e) other = refl
has-before (n ∷ nodes) node zero other = refl
has-before (n ∷ nodes) node (suc e) other = has-before nodes node e (λ is. other (ap suc is))
