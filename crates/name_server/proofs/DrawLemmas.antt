-- The names once calls were made are the filters of their past.
use Rattle.std.proofs.Common.{◌≡◌, ◌+◌, ◌≤◌, ℕ, suc, Bool, true, false, ◌&&◌, List, [], ◌∷◌, ◌++◌, reverse, None, Some, refl, sym, ap, ◌∙◌, subst, arith, append-nil, append_assoc}
use Rattle.std.specs.Prelude.{◌==◌, IsSome, if◌then◌else◌}
use Rattle.std.specs.List.{range_with_len}
use Rattle.std.specs.List.Sorted.{IsStrictlySortedBy}
use Rattle.std.proofs.lemmas.Bool.{eqb-true}
use Rattle.std.proofs.lemmas.List.{reverse-append}
use Rattle.xm_num.specs.declared.Enclave.{Enclave}
use Rattle.xm_num.specs.RowLaws.{RowLaws}
use Rattle.xm_num.specs.Rows.{at}
use Rattle.name_server.specs.Names.{NamesState, AreNames, no_names, with_name, without_name, is_owned_by, has_name}
use Rattle.name_server.specs.Draws.{NameEvent, after_name_event, after_name_events, segids_drawn, count_drawn, owner_by}
use Rattle.name_server.specs.Draws.NameEvent.{Drawn, Undrawn}

pub record AreDraws (past : List NameEvent) (s : NamesState) : Type 0 where
  pub drawn : s.drawn ≡ count_drawn past
  pub owners : (k : ℕ) → at s.pairs k ≡ owner_by k past
  pub names : AreNames s

module _ (laws : RowLaws Enclave) (past : List NameEvent) (s : NamesState) (f : AreDraws past s) where
  drew : (owner : Enclave) → AreDraws (Drawn owner ∷ past) (with_name owner s)
  drew owner = record {
    drawn = ap (λ n. n + 1) f.drawn;
    owners = λ k.
        laws.put_at s.pairs (s.drawn + 1) k owner
        ∙ ap (λ x. if s.drawn + 1 == k then Some owner else x) (f.owners k)
        ∙ ap (λ n. if n + 1 == k then Some owner else owner_by k past) f.drawn;
    names = record {
      ascending = laws.put_ascends s.pairs (s.drawn + 1) owner f.names.ascending;
      drawn = λ k some. by k (s.drawn + 1 == k) refl (rw (← laws.put_at s.pairs (s.drawn + 1) k owner) some);
    };
  }
    where
      by : (k : ℕ) (b : Bool) → (s.drawn + 1 == k) ≡ b → IsSome (if b then Some owner else at s.pairs k) → (1 ≤ k) × (k ≤ s.drawn + 1)
      by k true same some = (omega (arith, eqb-true (s.drawn + 1) k same), omega (arith, eqb-true (s.drawn + 1) k same))
      by k false other some = let within = f.names.drawn k some in (within.0, omega (arith, within.1))

  -- what is found at a segid once a pair is unnamed
  left : (segid : ℕ) (owner : Enclave) (k : ℕ) (same : Bool) → (segid == k) ≡ same
      → (if same && has_name s segid owner then None else at s.pairs k) ≡ (if same && is_owned_by owner (owner_by k past) then None else owner_by k past)
  left segid owner k true is =
      let its : has_name s segid owner ≡ is_owned_by owner (owner_by k past) = ap (λ q. is_owned_by owner (at s.pairs q)) (eqb-true segid k is) ∙ ap (is_owned_by owner) (f.owners k) in
      rw its (ap (λ x. if is_owned_by owner (owner_by k past) then None else x) (f.owners k))
  left segid owner k false is = f.owners k

  undrew : (segid : ℕ) (owner : Enclave) (b : Bool) → has_name s segid owner ≡ b → AreDraws (Undrawn segid owner ∷ past) (if b then without_name segid s else s)
  undrew segid owner true is = record {
    drawn = f.drawn;
    owners = λ k. laws.less_at s.pairs segid k f.names.ascending ∙ by k (segid == k) ∙ left segid owner k (segid == k) refl;
    names = record {
      ascending = laws.less_ascends s.pairs segid f.names.ascending;
      drawn = λ k some. f.names.drawn k (was k (segid == k) (rw (← laws.less_at s.pairs segid k f.names.ascending) some));
    };
  }
    where
      by : (k : ℕ) (same : Bool) → (if same then None else at s.pairs k) ≡ (if same && has_name s segid owner then None else at s.pairs k)
      by k true = rw is refl
      by k false = refl

      was : (k : ℕ) (same : Bool) → IsSome (if same then None else at s.pairs k) → IsSome (at s.pairs k)
      was k true some = cc
      was k false some = some
  undrew segid owner false is = record {
    drawn = f.drawn;
    owners = λ k. by k (segid == k) ∙ left segid owner k (segid == k) refl;
    names = f.names;
  }
    where
      by : (k : ℕ) (same : Bool) → at s.pairs k ≡ (if same && has_name s segid owner then None else at s.pairs k)
      by k true = rw is refl
      by k false = refl

  one_more : (event : NameEvent) → AreDraws (event ∷ past) (after_name_event s event)
  one_more (Drawn owner) = drew owner
  one_more (Undrawn segid owner) = undrew segid owner (has_name s segid owner) refl

more : RowLaws Enclave → (events past : List NameEvent) (s : NamesState) → AreDraws past s → AreDraws (reverse events ++ past) (after_name_events s events)
more laws [] past s f = f
more laws (event ∷ events) past s f =
    let P : List NameEvent → Type 0 = λ p. AreDraws p (after_name_events (after_name_event s event) events) in
    let turned : reverse (event ∷ events) ++ past ≡ reverse events ++ (event ∷ past) =
    ap (λ p. p ++ past) (reverse-append (event ∷ []) events) ∙ append_assoc (reverse events) (event ∷ []) past in
    subst P (sym turned) (more laws events (event ∷ past) (after_name_event s event) (one_more laws past s f event))

nothing : AreDraws [] no_names
unfolding at IsStrictlySortedBy
nothing = record {
  drawn = refl;
  owners = λ k. refl;
  names = record { ascending = tt; drawn = λ k some. cc };
}

pub draws : RowLaws Enclave → (events : List NameEvent) → AreDraws (reverse events) (after_name_events no_names events)
draws laws events =
    let P : List NameEvent → Type 0 = λ p. AreDraws p (after_name_events no_names events) in
    subst P (append-nil (reverse events)) (more laws events [] no_names nothing)

stays : (segid : ℕ) (owner : Enclave) (s : NamesState) (b : Bool) → (if b then without_name segid s else s).drawn ≡ s.drawn
stays segid owner s true = refl
stays segid owner s false = refl

-- segids are drawn in order
pub in_order : (s : NamesState) (events : List NameEvent) → segids_drawn s events ≡ range_with_len (s.drawn + 1) (count_drawn events)
in_order s [] = refl
in_order s (Drawn owner ∷ events) =
    let next : count_drawn events + 1 ≡ suc (count_drawn events) = omega arith in
    rw next (ap (λ ks. (s.drawn + 1) ∷ ks) (in_order (with_name owner s) events))
in_order s (Undrawn segid owner ∷ events) =
    in_order (after_name_event s (Undrawn segid owner)) events ∙ ap (λ n. range_with_len (n + 1) (count_drawn events)) (stays segid owner s (has_name s segid owner))
