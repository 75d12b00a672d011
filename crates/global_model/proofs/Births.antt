-- What a birth changes in the views of the new enclave, its parent and the host, and that it changes no other view.
use Rattle.std.proofs.Common.{◌≡◌, ◌≢◌, ◌+◌, ◌<◌, ◌≤◌, ℕ, zero, suc, List, [], ◌∷◌, ◌++◌, map, Bool, true, false, cond, not, ◌&&◌, ◌||◌, eqb, ltb, Some, refl, sym, ap, ◌∙◌, subst, inl, inr, arith, append-nil}
use Rattle.std.specs.List.{range_with_len, filter}
use Rattle.std.proofs.lemmas.Bool.{cases_eq, eq-eqb, ne_eqb, eqb-true, eqb-false, le-ltb}
use Rattle.std.proofs.lemmas.List.{map-append}
use Rattle.std.proofs.lemmas.List.Elements.{filter-append}
use Rattle.std.proofs.lemmas.List.FromFn.{map-range_with_len_more}
use Rattle.xm_num.specs.declared.Enclave.{Enclave}
use Rattle.xm_num.specs.declared.Kind.{Kind}
use Rattle.xm_num.specs.declared.Block.{Block}
use Rattle.xm_num.specs.Rows.{put}
use Rattle.frame_pool.specs.declared.BlockState.{BlockState}
use Rattle.frame_pool.specs.Blocks.{lend_from}
use Rattle.xemem_language.specs.declared.line.Line.TheVariants as lines
use Rattle.enclave_rules.specs.Core.{as_born, with_child, core_line}
use Rattle.enclave_rules.specs.Host.{no_host, with_birth}
use Rattle.global_model.specs.Facts.{Facts, fact_of, lent_to, after_line}
use Rattle.global_model.specs.Channels.{is_child_of}
use Rattle.global_model.specs.Views.{child_row, children_of, core_of, host_of, view_of}
use Rattle.global_model.specs.Apt.{IsBirth}
use Rattle.global_model.proofs.Runs.{passing_run-same, map_run-same, run-more}
use Rattle.global_model.proofs.Tree.{living_born}
use Rattle.global_model.proofs.Sound.{IsSound, no_fact}
use Rattle.global_model.proofs.Shown.{SeesLine, same_core}

-- ---- rows and states

-- a number past all rows of a run goes last
put_past : {V : Type 0} (f : ℕ → V) (t : ℕ → Bool) (a m n : ℕ) (v : V) → a + m ≤ n
    → put (map (λ c. (c, f c)) (filter t (range_with_len a m))) n v ≡ map (λ c. (c, f c)) (filter t (range_with_len a m)) ++ (n, v) ∷ []
unfolding put
put_past f t a zero n v past = refl
put_past f t a (suc m) n v past = by (put_past f t (a + 1) m n v (omega arith)) (t a)
  where
    by : put (map (λ c. (c, f c)) (filter t (range_with_len (a + 1) m))) n v ≡ map (λ c. (c, f c)) (filter t (range_with_len (a + 1) m)) ++ (n, v) ∷ [] → (b : Bool)
        → put (map (λ c. (c, f c)) (cond b (a ∷ filter t (range_with_len (a + 1) m)) (filter t (range_with_len (a + 1) m)))) n v
        ≡ map (λ c. (c, f c)) (cond b (a ∷ filter t (range_with_len (a + 1) m)) (filter t (range_with_len (a + 1) m))) ++ (n, v) ∷ []
    by more true =
        let above : ltb n a ≡ false = le-ltb n a (omega arith) in
        let apart : eqb n a ≡ false = ne_eqb n a (omega arith) in
        rw (above, apart) (ap (λ rows. (a, f a) ∷ rows) more)
    by more false = more

lend_run : (f : ℕ → BlockState) (blocks : List Block) (e : Enclave) (a n : ℕ) → lend_from a blocks e (map f (range_with_len a n)) ≡ map (lent_to blocks e f) (range_with_len a n)
lend_run f blocks e a zero = refl
lend_run f blocks e a (suc n) = ap (λ states. lent_to blocks e f a ∷ states) (lend_run f blocks e (a + 1) n)

-- ---- a birth

-- the facts after a birth
abbrev pub with_born : Facts → Enclave → Kind → Enclave → Bool → List Block → Facts
with_born G e kind parent ns blocks = after_line G (lines.Born e kind parent ns blocks)

-- the row of the new child
abbrev pub new_row : Bool → ℕ → Kind → List (ℕ × Kind)
new_row is_child e kind = cond is_child ((e, kind) ∷ []) []

module _ (G : Facts) (e : Enclave) (kind : Kind) (parent : Enclave) (ns : Bool) (blocks : List Block) (sound : IsSound G) (birth : IsBirth G e kind parent ns blocks) where
  host_recorded : host_of (with_born G e kind parent ns blocks) ≡ with_birth e parent blocks (host_of G)
  host_recorded =
      let H = with_born G e kind parent ns blocks in
      let parent_of : ℕ → Enclave = λ c. (fact_of (H.enclave c)).parent in
      let same : map parent_of (range_with_len 0 G.born) ≡ (host_of G).parents = map_run-same parent_of (λ c. (fact_of (G.enclave c)).parent) 0 G.born (λ c low high. rw (ne_eqb c e.0 (omega (arith, high, birth.next))) refl) in
      let last : parent_of G.born ≡ parent = rw (eq-eqb G.born e.0 (sym birth.next)) refl in
      let parents : map parent_of (range_with_len 0 (G.born + 1)) ≡ (host_of G).parents ++ parent ∷ [] = map-range_with_len_more parent_of 0 G.born G.born (omega arith) ∙ (λ i. same i ++ last i ∷ []) in
      λ i. record { states = sym (lend_run G.block blocks e 0 G.pool) i; parents = parents i }

  children_born : (k : ℕ) → map (child_row (with_born G e kind parent ns blocks)) (filter (λ c. is_child_of (with_born G e kind parent ns blocks) c k) (range_with_len 0 (G.born + 1)))
      ≡ map (child_row G) (filter (λ c. is_child_of G c k) (range_with_len 0 G.born)) ++ new_row (not (eqb e.0 0) && eqb parent.0 k) e.0 kind
  children_born k =
      let H = with_born G e kind parent ns blocks in
      let child : ℕ → Bool = λ c. is_child_of H c k in
      let number : 0 + G.born ≡ e.0 = omega (arith, birth.next) in
      let before : map (child_row H) (filter child (range_with_len 0 G.born)) ≡ map (child_row G) (filter (λ c. is_child_of G c k) (range_with_len 0 G.born))
      = passing_run-same (child_row H) (child_row G) child (λ c. is_child_of G c k) 0 G.born (λ c low high. rw (ne_eqb c e.0 (omega (arith, high, birth.next))) refl) (λ c low high. rw (ne_eqb c e.0 (omega (arith, high, birth.next))) refl) in
      let test : filter child (e.0 ∷ []) ≡ cond (not (eqb e.0 0) && eqb parent.0 k) (e.0 ∷ []) [] = rw (eq-eqb e.0 e.0 refl) refl in
      let last : map (child_row H) (filter child (e.0 ∷ [])) ≡ new_row (not (eqb e.0 0) && eqb parent.0 k) e.0 kind = ap (map (child_row H)) test ∙ by (not (eqb e.0 0) && eqb parent.0 k) in
      ap (λ run. map (child_row H) (filter child run)) (run-more 0 G.born ∙ ap (λ n. range_with_len 0 G.born ++ n ∷ []) number)
      ∙ ap (map (child_row H)) (filter-append child (range_with_len 0 G.born) (e.0 ∷ []))
      ∙ map-append (child_row H) (filter child (range_with_len 0 G.born)) (filter child (e.0 ∷ []))
      ∙ (λ i. before i ++ last i)
    where
      by : (b : Bool) → map (child_row (with_born G e kind parent ns blocks)) (cond b (e.0 ∷ []) []) ≡ new_row b e.0 kind
      by true = rw (eq-eqb e.0 e.0 refl) refl
      by false = refl

  -- ---- the views

  -- the children of an enclave that isn't the parent
  children_stay : (k : ℕ) → (not (eqb e.0 0) && eqb parent.0 k) ≡ false
      → map (child_row (with_born G e kind parent ns blocks)) (filter (λ c. is_child_of (with_born G e kind parent ns blocks) c k) (range_with_len 0 (G.born + 1))) ≡ map (child_row G) (filter (λ c. is_child_of G c k) (range_with_len 0 G.born))
  children_stay k other = children_born k ∙ rw other (append-nil _)

  -- the new enclave is no child of itself
  no_own_child : (not (eqb e.0 0) && eqb parent.0 e.0) ≡ false
  no_own_child = by (eqb e.0 0) refl
    where
      by : (b : Bool) → eqb e.0 0 ≡ b → (not b && eqb parent.0 e.0) ≡ false
      by true is = refl
      by false is =
          let child : e.0 ≢ 0 = eqb-false e.0 0 is in
          let lower : parent.0 < G.born = living_born G parent.0 sound.tree (birth.under (omega (arith, child))) in
          ne_eqb parent.0 e.0 (omega (arith, lower, birth.next))

  -- the host isn't a child, and its parent is no other enclave
  parent_test : (k : ℕ) → e.0 ≢ k → (not (eqb e.0 0) && eqb parent.0 k) ≡ eqb parent.0 k
  parent_test k apart = by (eqb e.0 0) refl
    where
      by : (b : Bool) → eqb e.0 0 ≡ b → (not b && eqb parent.0 k) ≡ eqb parent.0 k
      by true is =
          let first : e.0 ≡ 0 = eqb-true e.0 0 is in
          let root : parent.0 ≡ 0 = birth.root first in
          sym (ne_eqb parent.0 k (λ same. apart (first ∙ sym root ∙ same)))
      by false is = refl

  -- the parent has one more child, and no other enclave has
  children_after : (k : ℕ) → e.0 ≢ k
      → children_of (with_born G e kind parent ns blocks) k ≡ cond (eqb parent.0 k) (put (children_of G k) e.0 kind) (children_of G k)
  children_after k apart = children_born k ∙ ap (λ b. children_of G k ++ new_row b e.0 kind) (parent_test k apart) ∙ by (eqb parent.0 k)
    where
      by : (b : Bool) → children_of G k ++ new_row b e.0 kind ≡ cond b (put (children_of G k) e.0 kind) (children_of G k)
      by true = sym (put_past (λ c. (fact_of (G.enclave c)).kind) (λ c. is_child_of G c k) 0 G.born e.0 kind (omega (arith, birth.next)))
      by false = append-nil _

  -- the core of the new enclave, and of another
  core_own : core_of (with_born G e kind parent ns blocks) e.0 ≡ core_line e.0 (core_of G e.0) (lines.Born e kind parent ns blocks)
  core_own =
      let H = with_born G e kind parent ns blocks in
      let itself : eqb e.0 e.0 ≡ true = eq-eqb e.0 e.0 refl in
      let fact : H.enclave e.0 ≡ Some (record { kind = kind; parent = parent; blocks = blocks; ns = ns; living = true; admitted = false }) = rw itself refl in
      let was : (fact_of (G.enclave e.0)).admitted ≡ false = ap (λ o. (fact_of o).admitted) (no_fact G sound.tree e.0 (omega (arith, birth.next))) in
      let core : core_of H e.0 ≡ as_born kind parent ns blocks (core_of G e.0) = same_core _ _ (record {
        kind = ap (λ o. (fact_of o).kind) fact;
        parent = ap (λ o. (fact_of o).parent) fact;
        blocks = ap (λ o. (fact_of o).blocks) fact;
        holder = ap (λ o. (fact_of o).ns) fact;
        admitted = ap (λ o. (fact_of o).admitted) fact ∙ sym was;
        heard = refl;
        children = children_born e.0 ∙ rw no_own_child (append-nil _);
      }) in
      let line : core_line e.0 (core_of G e.0) (lines.Born e kind parent ns blocks) ≡ as_born kind parent ns blocks (core_of G e.0) = rw itself refl in
      core ∙ sym line

  core_other : (k : ℕ) → e.0 ≢ k → core_of (with_born G e kind parent ns blocks) k ≡ core_line k (core_of G k) (lines.Born e kind parent ns blocks)
  core_other k apart =
      let H = with_born G e kind parent ns blocks in
      let other : eqb e.0 k ≡ false = ne_eqb e.0 k apart in
      let fact : H.enclave k ≡ G.enclave k = rw (ne_eqb k e.0 (λ same. apart (sym same))) refl in
      let children = cond (eqb parent.0 k) (put (children_of G k) e.0 kind) (children_of G k) in
      let core : core_of H k ≡ record (core_of G k) { children = children } = same_core _ _ (record {
        kind = ap (λ o. (fact_of o).kind) fact;
        parent = ap (λ o. (fact_of o).parent) fact;
        blocks = ap (λ o. (fact_of o).blocks) fact;
        holder = ap (λ o. (fact_of o).ns) fact;
        admitted = ap (λ o. (fact_of o).admitted) fact;
        heard = refl;
        children = children_after k apart;
      }) in
      core ∙ rw other (by (eqb parent.0 k))
    where
      by : (b : Bool) → record (core_of G k) { children = cond b (put (children_of G k) e.0 kind) (children_of G k) } ≡ cond b (with_child e kind (core_of G k)) (core_of G k)
      by true = refl
      by false = refl

  core_born : (k : Enclave) → core_of (with_born G e kind parent ns blocks) k.0 ≡ core_line k.0 (core_of G k.0) (lines.Born e kind parent ns blocks)
  core_born k = elim (cases_eq e.0 k.0) [
    | inl same ↦ subst (λ n. core_of (with_born G e kind parent ns blocks) n ≡ core_line n (core_of G n) (lines.Born e kind parent ns blocks)) same core_own
    | inr apart ↦ core_other k.0 apart
  ]

  pub shown_born : (k : Enclave) → SeesLine G k (lines.Born e kind parent ns blocks)
  shown_born k =
      let line = lines.Born e kind parent ns blocks in
      let host : cond (eqb k.0 0) (host_of (with_born G e kind parent ns blocks)) no_host ≡ cond (eqb k.0 0) (with_birth e parent blocks (host_of G)) no_host
      = ap (λ h. cond (eqb k.0 0) h no_host) host_recorded in
      let view : view_of (with_born G e kind parent ns blocks) k ≡ record (view_of G k) { core = core_line k.0 (core_of G k.0) line; host = cond (eqb k.0 0) (with_birth e parent blocks (host_of G)) no_host }
      = λ i. record (view_of G k) { core = core_born k i; host = host i } in
      view ∙ by (eqb e.0 k.0) (eqb parent.0 k.0) (eqb k.0 0)
    where
      -- the view by whether it is the child's, the parent's and the host's
      by : (child above first : Bool)
          → record (view_of G k) {
            core = cond child (as_born kind parent ns blocks (core_of G k.0)) (cond above (with_child e kind (core_of G k.0)) (core_of G k.0));
            host = cond first (with_birth e parent blocks (host_of G)) no_host;
          }
          ≡ cond (child || above || first) (record (view_of G k) {
            core = cond child (as_born kind parent ns blocks (core_of G k.0)) (cond above (with_child e kind (core_of G k.0)) (core_of G k.0));
            host = cond first (with_birth e parent blocks (cond first (host_of G) no_host)) (cond first (host_of G) no_host);
          }) (record (view_of G k) { host = cond first (host_of G) no_host })
      by true above true = refl
      by true above false = refl
      by false true true = refl
      by false true false = refl
      by false false true = refl
      by false false false = refl
