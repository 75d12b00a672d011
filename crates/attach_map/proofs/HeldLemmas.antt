-- What is kept of the permits, and what is seen of a change of them.
use Rattle.std.proofs.Common.{◌≡◌, ◌≤◌, ◌+◌, ℕ, Bool, true, false, cond, List, [], Option, None, Some, refl, sym, ap, subst, ◌∙◌, inl, inr, arith}
use Rattle.std.specs.Prelude.{◌==◌, ◌&&◌, is_some, IsSome, IsTrue, option_map}
use Rattle.std.specs.List.{find}
use Rattle.std.specs.List.Sorted.{IsStrictlySortedBy}
use Rattle.std.proofs.lemmas.Bool.{cases_eq, eq-eqb, ne_eqb, and_parts}
use Rattle.xm_num.specs.Rows.{at, put, less, IsAscending}
use Rattle.xm_num.specs.RowLaws.{RowLaws}
use Rattle.attach_map.specs.declared.Permit.{Permit}
use Rattle.attach_map.specs.declared.Waiting.{Waiting}
use Rattle.attach_map.specs.Attaching.{PermitState, is_get, awaits_permit, wanted_permit, permit_granted}
use Rattle.attach_map.specs.Numbers.{AreDrawn, AreHeld}
use Rattle.attach_map.specs.Seats.{Seat, with_seat_call, ChangesAt}
use Rattle.attach_map.proofs.SeenLemmas.{call_unseen}
use Rattle.attach_map.proofs.KeptLemmas.{state_of}
use Rattle.attach_map.proofs.PermitLemmas.{fails_each}

-- ---- rows after a change

module _ {V : Type 0} (laws : RowLaws V) (rows : List (ℕ × V)) (k : ℕ) where
  pub stays_put : (v : V) (q : ℕ) → IsSome (at rows q) → IsSome (at (put rows k v) q)
  stays_put v q some = subst IsSome (sym (laws.put_at rows k q v)) (by (k == q))
    where
      by : (b : Bool) → IsSome (cond b (Some v) (at rows q))
      by true = refl
      by false = some

  none_put : (v : V) (q : ℕ) → (k ≡ q → ⊥) → at rows q ≡ None → at (put rows k v) q ≡ None
  none_put v q other none = laws.put_at rows k q v ∙ rw (ne_eqb k q other) none

  none_less : IsAscending rows → (q : ℕ) → at rows q ≡ None → at (less rows k) q ≡ None
  none_less ascends q none = laws.less_at rows k q ascends ∙ by (k == q)
    where
      by : (b : Bool) → cond b None (at rows q) ≡ None
      by true = refl
      by false = none

  gone : IsAscending rows → at (less rows k) k ≡ None
  gone ascends = laws.less_at rows k k ascends ∙ rw (eq-eqb k k refl) refl

  -- a row that stands after another was put, and after one was taken out
  module _ (q : ℕ) (u : V) where
    of_put : {P : Type 0} (v : V) → at (put rows k v) q ≡ Some u → (k ≡ q → v ≡ u → P) → (at rows q ≡ Some u → P) → P
    of_put v there here other = elim (cases_eq k q) [
      | inl same ↦
          let both : Some v ≡ Some u = rw (eq-eqb k q same) at (sym (laws.put_at rows k q v) ∙ there) in
          (let value : v ≡ u = cc in here same value)
      | inr differs ↦ other (rw (ne_eqb k q differs) at (sym (laws.put_at rows k q v) ∙ there))
    ]

some_value : {V P : Type 0} (found : Option V) → IsSome found → ((v : V) → found ≡ Some v → P) → P
some_value None some with_value = let bad : false ≡ true = some in absurd (cc)
some_value (Some v) some with_value = with_value v refl

-- ---- what is kept after each call

pub nothing_held : AreHeld {V = Seat} [] 0 [] []
unfolding at IsStrictlySortedBy
nothing_held = record {
  drawn = record { ascend = tt; low = λ k some. cc; high = λ k some. cc };
  apart = λ k some. refl;
  held = λ k h is. cc;
}

module _ (seats : List (ℕ × Seat)) (issued : ℕ) (calls : List (ℕ × Waiting)) (permits : List (ℕ × PermitState)) (held : AreHeld seats issued calls permits) where
  -- processes change, of which none that holds a permit ends
  pub held_by_rest : (now : List (ℕ × Seat)) → ((k : ℕ) (h : PermitState) → at permits k ≡ Some h → IsSome (at now h.pid)) → AreHeld now issued calls permits
  held_by_rest now lives = record { drawn = held.drawn; apart = held.apart; held = lives }

  pub held_put : RowLaws Seat → (now : List (ℕ × Seat)) (p : ℕ) (seat : Seat) → now ≡ put seats p seat → AreHeld now issued calls permits
  held_put laws now p seat is = held_by_rest now (λ k h there. rw is (stays_put laws seats p seat h.pid (held.held k h there)))

  pub held_less : RowLaws Seat → RowLaws PermitState → (now : List (ℕ × Seat)) (p : ℕ) → now ≡ less seats p → IsAscending seats → option_map (λ (row : ℕ × PermitState). row.0) (find (λ row. row.1.pid == p) permits) ≡ None
      → AreHeld now issued calls permits
  held_less laws permit_laws now p is ascends free = held_by_rest now (λ k h there. rw (is, laws.less_at seats p h.pid ascends, ne_eqb p h.pid (other k h there)) (held.held k h there))
    where
      other : (k : ℕ) (h : PermitState) → at permits k ≡ Some h → p ≡ h.pid → ⊥
      other k h there same =
          let bad : true ≡ false = sym (eq-eqb h.pid p (sym same)) ∙ fails_each permit_laws (λ row. row.1.pid == p) permits free k h there in
          cc

  -- calls change, of which none begins to wait under a permit's number
  pub held_calls : (rest : List (ℕ × Waiting)) → ((k : ℕ) → IsSome (at permits k) → at rest k ≡ None) → AreHeld seats issued rest permits
  held_calls rest apart = record { drawn = held.drawn; apart = apart; held = held.held }

  pub held_changed : RowLaws Waiting → (rest : List (ℕ × Waiting)) (c : ℕ) (w : Waiting) → IsSome (at calls c) → rest ≡ put calls c w → AreHeld seats issued rest permits
  held_changed laws rest c w waits is = held_calls rest (λ k some. rw is (none_put laws calls c w k (λ same. let bad : is_some {T = Waiting} None ≡ true = subst IsSome (ap (at calls) same ∙ held.apart k some) waits in cc) (held.apart k some)))

  pub held_settled : RowLaws Waiting → (rest : List (ℕ × Waiting)) (c : ℕ) → rest ≡ less calls c → IsAscending calls → AreHeld seats issued rest permits
  held_settled laws rest c is ascends = held_calls rest (λ k some. rw is (none_less laws calls c ascends k (held.apart k some)))

  pub held_issued : RowLaws Waiting → (rest : List (ℕ × Waiting)) (w : Waiting) → rest ≡ put calls (issued + 1) w → AreHeld seats (issued + 1) rest permits
  held_issued laws rest w is = record {
    drawn = record { ascend = held.drawn.ascend; low = held.drawn.low; high = λ k some. let high = held.drawn.high k some in omega (arith, high) };
    apart = λ k some. rw is (none_put laws calls (issued + 1) w k (λ same. let high = held.drawn.high k some in omega (arith, high, same)) (held.apart k some));
    held = held.held;
  }

  -- a permit is granted
  pub held_granted : RowLaws PermitState → RowLaws Waiting → AreDrawn issued calls → (now : List (ℕ × PermitState)) (rest : List (ℕ × Waiting)) (c : ℕ) (h : PermitState) → IsSome (at calls c) → IsSome (at seats h.pid)
      → now ≡ put permits c h → rest ≡ less calls c → AreHeld seats issued rest now
  held_granted laws call_laws drawn now rest c h waits lives is fewer = record {
    drawn = record {
      ascend = rw is (laws.put_ascends permits c h held.drawn.ascend);
      low = λ k some. some_value (at now k) some (λ u there. old k u there (λ same. subst (λ n. 1 ≤ n) same (drawn.low c waits)) (λ before. held.drawn.low k (rw before refl)));
      high = λ k some. some_value (at now k) some (λ u there. old k u there (λ same. subst (λ n. n ≤ issued) same (drawn.high c waits)) (λ before. held.drawn.high k (rw before refl)));
    };
    apart = λ k some. some_value (at now k) some (λ u there. old k u there (λ same. rw (fewer, ← same) (gone call_laws calls c drawn.ascend)) (λ before. rw fewer (none_less call_laws calls c drawn.ascend k (held.apart k (rw before refl)))));
    held = λ k u there. of_put laws permits c k u h (ap (λ t. at t k) (sym is) ∙ there) (λ same value. subst (λ (x : PermitState). IsSome (at seats x.pid)) value lives) (λ before. held.held k u before);
  }
    where
      old : {P : Type 0} (k : ℕ) (u : PermitState) → at now k ≡ Some u → (c ≡ k → P) → (at permits k ≡ Some u → P) → P
      old k u there here other = of_put laws permits c k u h (ap (λ t. at t k) (sym is) ∙ there) (λ same value. here same) other

-- ---- a call that waits for a permit

pub awaits_living : (found : Option Waiting) (w : Waiting) → found ≡ Some w → IsTrue (awaits_permit found) → w.living ≡ true
awaits_living found w is awaits = let both : (w.living && is_get w.what) ≡ true = rw is at awaits in (and_parts w.living (is_get w.what) both).0

-- what is seen of a permit that was granted
pub granted_seen : RowLaws Seat → (started : ℕ) (seats now : List (ℕ × Seat)) (issued : ℕ) (calls rest : List (ℕ × Waiting)) (permits more : List (ℕ × PermitState)) → IsAscending seats
    → (c pages : ℕ) (w : Waiting) (permit : Permit) → at calls c ≡ Some w → wanted_permit w.what pages ≡ Some permit → IsSome (at seats w.pid.0) → ChangesAt (with_seat_call None) seats w.pid.0 now
    → rest ≡ less calls c → more ≡ put permits c (record { pid = w.pid.0; permit = permit })
    → state_of started now issued rest more ≡ permit_granted (state_of started seats issued calls permits) c pages
granted_seen laws started seats now issued calls rest permits more ascends c pages w permit waits wanted lives changes fewer is =
    rw (waits, wanted, fewer, is) (ap (λ ps. record { started = started; processes = ps; issued = issued; waiting = less calls c; permits = put permits c (record { pid = w.pid.0; permit = permit }) }) (call_unseen laws seats now w.pid.0 None ascends lives changes))
