-- Which call waits for which process.
use Rattle.std.proofs.Common.{◌≡◌, ◌↔◌, ℕ, Bool, true, false, cond, ◌&&◌, List, [], ◌∷◌, Option, None, Some, refl, sym, ap, subst, ◌∙◌, eq-eqb}
use Rattle.std.specs.Prelude.{◌==◌, if◌then◌else◌}
use Rattle.std.specs.Ordering.{nat_cmp}
use Rattle.std.specs.BTreeMap.{is_at}
use Rattle.std.specs.Map.{keys_of}
use Rattle.std.proofs.lemmas.Bool.{and_parts, and_from, eqb-true}
use Rattle.std.proofs.lemmas.Cmp.{nat_cmp_total, eq_by_cmp_equiv, tied_itself}
use Rattle.std.proofs.lemmas.Map.{lookup-none}
use Rattle.std.proofs.lemmas.Map.Keys.{IsDistinct-from_sorted, sorted_tail}
use Rattle.std.proofs.lemmas.Map.Entries.{none_past_head}
use Rattle.xm_num.specs.Rows.{at, IsAscending}
use Rattle.xm_num.specs.RowLaws.{RowLaws}
use Rattle.attach_map.specs.declared.Waiting.{Waiting}
use Rattle.attach_map.specs.Attaching.{waiting_call_of}
use Rattle.attach_map.specs.Seats.{Seat, beside}
use Rattle.attach_map.specs.Numbers.{IsCall}

-- the number of the first row stands in no later one
pub past_first : {V : Type 0} (row : ℕ × V) (rows : List (ℕ × V)) → IsAscending (row ∷ rows) → at rows row.0 ≡ None
unfolding at
past_first row rows ascends =
    lookup-none (is_at (nat_cmp row.0)) rows (none_past_head (eq_by_cmp_equiv nat_cmp_total) row.0 row rows (IsDistinct-from_sorted nat_cmp (keys_of (row ∷ rows)) ascends) (rw (tied_itself nat_cmp_total row.0) refl))

-- the waiting call that is found is one
pub waiting_is_call : RowLaws Waiting → (rows : List (ℕ × Waiting)) (p k : ℕ) → IsAscending rows → waiting_call_of rows p ≡ Some k → IsCall p (at rows k)
waiting_is_call laws [] p k ascends is = cc
waiting_is_call laws (row ∷ rows) p k ascends is = by (row.1.living && (row.1.pid.0 == p)) refl is (waiting_is_call laws rows p k (sorted_tail nat_cmp row.0 (keys_of rows) ascends))
  where
    here : (row.1.living && (row.1.pid.0 == p)) ≡ true → row.0 ≡ k → IsCall p (at (row ∷ rows) k)
    here pass same =
        let parts = and_parts row.1.living (row.1.pid.0 == p) pass in
        rw (← same, laws.head row rows) (parts.0, eqb-true row.1.pid.0 p parts.1)

    there : IsCall p (at rows k) → IsCall p (at (row ∷ rows) k)
    there call = rw (laws.later row rows k (λ same. subst (IsCall p) (ap (at rows) same ∙ past_first row rows ascends) call)) call

    by : (b : Bool) → (row.1.living && (row.1.pid.0 == p)) ≡ b → cond b (Some row.0) (waiting_call_of rows p) ≡ Some k → (waiting_call_of rows p ≡ Some k → IsCall p (at rows k)) → IsCall p (at (row ∷ rows) k)
    by true pass found more = here pass (let same : row.0 ≡ k = cc in same)
    by false pass found more = there (more found)

-- where none is found, there is none
pub none_waits : (rows : List (ℕ × Waiting)) (p k : ℕ) → waiting_call_of rows p ≡ None → IsCall p (at rows k) → ⊥
unfolding at
none_waits [] p k none call = call
none_waits (row ∷ rows) p k none call = by (none_waits rows p k) (is_at (nat_cmp k) row.0) call (row.1.living && (row.1.pid.0 == p)) refl none
  where
    by : (waiting_call_of rows p ≡ None → IsCall p (at rows k) → ⊥) → (b : Bool) → IsCall p (cond b (Some row.1) (at rows k)) → (c : Bool) → (row.1.living && (row.1.pid.0 == p)) ≡ c → cond c (Some row.0) (waiting_call_of rows p) ≡ None → ⊥
    by more b call true is none = let bad : Some row.0 ≡ None = none in cc
    by more true call false is none =
        let pass : (row.1.living && (row.1.pid.0 == p)) ≡ true = and_from row.1.living (row.1.pid.0 == p) call.0 (eq-eqb row.1.pid.0 p call.1) in
        let bad : false ≡ true = sym is ∙ pass in
        cc
    by more false call false is none = more none call

-- which call stands beside which process, and which waits for it
abbrev pub Besides : (ℕ → Option ℕ) → (ℕ → Option Waiting) → Type 0
Besides B C = (p k : ℕ) → (B p ≡ Some k) ↔ IsCall p (C k)

module _ (B : ℕ → Option ℕ) (C : ℕ → Option Waiting) (old : Besides B C) where
  pub one_call : (p k l : ℕ) → B p ≡ Some k → B p ≡ Some l → k ≡ l
  one_call p k l one other = let both : Some k ≡ Some l = sym one ∙ other in (let same : k ≡ l = cc in same)

  -- nothing changes beside a process
  pub same_beside : (now : ℕ → Option ℕ) → ((p : ℕ) → now p ≡ B p) → Besides now C
  same_beside now same p k = rw (same p) (old p k)

  -- a call changes in nothing that tells for whom it waits
  pub same_calls : (now : ℕ → Option Waiting) (c : ℕ) (w : Option Waiting) → ((k : ℕ) → now k ≡ (if c == k then w else C k)) → ((p : ℕ) → IsCall p w ↔ IsCall p (C c)) → Besides B now
  same_calls now c w changed alike p k = rw (changed k) (by (c == k) refl)
    where
      by : (b : Bool) → (c == k) ≡ b → (B p ≡ Some k) ↔ IsCall p (cond b w (C k))
      by true is =
          let same = eqb-true c k is in
          (λ held. (alike p).1 (rw same ((old p k).0 held)), λ call. (old p k).1 (subst (λ q. IsCall p (C q)) same ((alike p).0 call)))
      by false is = old p k

  -- a call of a process and what stands beside it change together
  pub both_change : (now : ℕ → Option ℕ) (calls : ℕ → Option Waiting) (p c : ℕ) (x : Option ℕ) (w : Option Waiting)
      → ((q : ℕ) → now q ≡ (if p == q then x else B q)) → ((k : ℕ) → calls k ≡ (if c == k then w else C k))
      → ((k : ℕ) → (x ≡ Some k) ↔ ((c ≡ k) × IsCall p w))
      → ((q : ℕ) → (p ≡ q → ⊥) → IsCall q w → ⊥)
      → ((q : ℕ) → (p ≡ q → ⊥) → B q ≡ Some c → ⊥)
      → ((k : ℕ) → (c ≡ k → ⊥) → IsCall p (C k) → ⊥)
      → Besides now calls
  both_change now calls p c x w beside_now calls_now own other none_other none_own q k = rw (beside_now q, calls_now k) (by (p == q) refl (c == k) refl)
    where
      differs : (a b : ℕ) → (a == b) ≡ false → a ≡ b → ⊥
      differs a b is same = let bad : false ≡ true = sym is ∙ eq-eqb a b same in cc

      by : (b : Bool) → (p == q) ≡ b → (d : Bool) → (c == k) ≡ d → (cond b x (B q) ≡ Some k) ↔ IsCall q (cond d w (C k))
      by true is true also =
          let here = eqb-true p q is in
          let there = eqb-true c k also in
          (λ held. subst (λ r. IsCall r w) here ((own k).0 held).1, λ call. (own k).1 (there, subst (λ r. IsCall r w) (sym here) call))
      by true is false also =
          let here = eqb-true p q is in
          (λ held. absurd (differs c k also ((own k).0 held).0), λ call. absurd (none_own k (differs c k also) (subst (λ r. IsCall r (C k)) (sym here) call)))
      by false is true also =
          let there = eqb-true c k also in
          (λ held. absurd (none_other q (differs p q is) (held ∙ ap Some (sym there))), λ call. absurd (other q (differs p q is) call))
      by false is false also = old q k

-- the call that waits for a process is the one beside it
pub waiting_beside : RowLaws Waiting → (seats : List (ℕ × Seat)) (calls : List (ℕ × Waiting)) → IsAscending calls → Besides (λ p. beside (at seats p)) (at calls) → (p : ℕ)
    → waiting_call_of calls p ≡ beside (at seats p)
waiting_beside laws seats calls ascends besides p = by (waiting_call_of calls p) refl (beside (at seats p)) refl
  where
    by : (found : Option ℕ) → waiting_call_of calls p ≡ found → (held : Option ℕ) → beside (at seats p) ≡ held → found ≡ held
    by None is None also = refl
    by None is (Some k) also = absurd (none_waits calls p k is ((besides p k).0 also))
    by (Some k) is held also = sym ((besides p k).1 (waiting_is_call laws calls p k ascends is)) ∙ also
