-- What is kept of the numbers, and what is seen of a change.
use Rattle.std.proofs.Common.{◌≡◌, ◌≤◌, ◌+◌, ℕ, Bool, true, false, cond, List, [], Option, None, Some, refl, sym, ap, subst, ◌∙◌, arith, eq-eqb}
use Rattle.std.specs.Prelude.{◌==◌, Result, Ok, Err, OnOk, OnErr, is_some, IsSome, IsTrue, option_map, if◌then◌else◌}
use Rattle.std.specs.Option.{option_map_or}
use Rattle.std.specs.List.Sorted.{IsStrictlySortedBy}
use Rattle.std.proofs.lemmas.Bool.{eqb-true}
use Rattle.xm_num.specs.declared.Pid.{Pid}
use Rattle.xm_num.specs.declared.CallNo.{CallNo}
use Rattle.xm_num.specs.declared.Enclave.{Enclave}
use Rattle.xm_num.specs.declared.Page.{Page}
use Rattle.xm_num.specs.Rows.{at, put, less, IsAscending}
use Rattle.xm_num.specs.RowLaws.{RowLaws}
use Rattle.attach_map.specs.declared.Pending.{Pending}
use Rattle.attach_map.specs.declared.Waiting.{Waiting}
use Rattle.attach_map.specs.Attaching.{ProcessState, PermitState, AttacherState, fresh_process, process_started, pages_in, with_pages_in, waiting_call_of, call_issued, with_owner, looks_up, owner_found, call_settled, orphaned, process_ended}
use Rattle.attach_map.specs.Seats.{Seat, beside, seen, with_seat_call, with_seat_pages, seat_pages, IsLast, ChangesAt}
use Rattle.attach_map.specs.Numbers.{AreDrawn, IsCall, HaveOwnNumbers, AreHeld, AreNumbered, IsSeated}
use Rattle.attach_map.proofs.SeenLemmas.{each, each_at, each_ascends, each_put, each_less, call_unseen}
use Rattle.attach_map.proofs.WaitingLemmas.{Besides, one_call, same_beside, same_calls, both_change, waiting_is_call, waiting_beside}

-- ---- numbers that were drawn

module _ {V : Type 0} where
  pub drawn_last : (drawn : ℕ) (rows : List (ℕ × V)) → AreDrawn drawn rows → IsLast rows (drawn + 1)
  drawn_last drawn rows old q some = let high = old.high q some in omega (arith, high)

  -- the next number
  pub drawn_next : RowLaws V → (drawn : ℕ) (rows now : List (ℕ × V)) (v : V) → now ≡ put rows (drawn + 1) v → AreDrawn drawn rows → AreDrawn (drawn + 1) now
  drawn_next laws drawn rows now v is old =
      let ascend : IsAscending now = rw is (laws.put_ascends rows (drawn + 1) v old.ascend) in
      record {
        ascend = ascend;
        low = λ q some. by q (subst (λ t. IsSome (at t q)) is some) (drawn + 1 == q) refl;
        high = λ q some. upto q (subst (λ t. IsSome (at t q)) is some) (drawn + 1 == q) refl;
      }
    where
      earlier : (q : ℕ) → IsSome (at (put rows (drawn + 1) v) q) → (drawn + 1 == q) ≡ false → IsSome (at rows q)
      earlier q some other = subst IsSome (laws.put_at rows (drawn + 1) q v ∙ rw other refl) some

      by : (q : ℕ) → IsSome (at (put rows (drawn + 1) v) q) → (b : Bool) → (drawn + 1 == q) ≡ b → 1 ≤ q
      by q some true same = let here = eqb-true (drawn + 1) q same in omega (arith, here)
      by q some false other = old.low q (earlier q some other)

      upto : (q : ℕ) → IsSome (at (put rows (drawn + 1) v) q) → (b : Bool) → (drawn + 1 == q) ≡ b → q ≤ drawn + 1
      upto q some true same = let here = eqb-true (drawn + 1) q same in omega (arith, here)
      upto q some false other = let high = old.high q (earlier q some other) in omega (arith, high)

  -- rows that stand where rows stood
  pub drawn_fewer : {W : Type 0} (drawn : ℕ) (rows : List (ℕ × V)) (now : List (ℕ × W)) → IsAscending now → ((q : ℕ) → IsSome (at now q) → IsSome (at rows q)) → AreDrawn drawn rows → AreDrawn drawn now
  drawn_fewer drawn rows now ascend fewer old = record { ascend = ascend; low = λ q some. old.low q (fewer q some); high = λ q some. old.high q (fewer q some) }

  pub drawn_put : RowLaws V → (drawn : ℕ) (rows now : List (ℕ × V)) (k : ℕ) (v : V) → now ≡ put rows k v → IsSome (at rows k) → AreDrawn drawn rows → AreDrawn drawn now
  drawn_put laws drawn rows now k v is there old =
      drawn_fewer drawn rows now (rw is (laws.put_ascends rows k v old.ascend)) (λ q some. by q (subst IsSome (ap (λ t. at t q) is ∙ laws.put_at rows k q v) some) (k == q) refl) old
    where
      by : (q : ℕ) → IsSome (if k == q then Some v else at rows q) → (b : Bool) → (k == q) ≡ b → IsSome (at rows q)
      by q some true same = subst (λ n. IsSome (at rows n)) (eqb-true k q same) there
      by q some false other = rw other at some

  pub drawn_less : RowLaws V → (drawn : ℕ) (rows now : List (ℕ × V)) (k : ℕ) → now ≡ less rows k → AreDrawn drawn rows → AreDrawn drawn now
  drawn_less laws drawn rows now k is old =
      drawn_fewer drawn rows now (rw is (laws.less_ascends rows k old.ascend)) (λ q some. by q (subst IsSome (ap (λ t. at t q) is ∙ laws.less_at rows k q old.ascend) some) (k == q) refl) old
    where
      by : (q : ℕ) → IsSome (if k == q then None else at rows q) → (b : Bool) → (k == q) ≡ b → IsSome (at rows q)
      by q some true same = let bad : is_some {T = V} None ≡ true = rw same at some in cc
      by q some false other = rw other at some

-- ---- own numbers

own_put : RowLaws Waiting → (rows now : List (ℕ × Waiting)) (k : ℕ) (w : Waiting) → now ≡ put rows k w → w.call.0 ≡ k → HaveOwnNumbers rows → HaveOwnNumbers now
own_put laws rows now k w is mine own q u there = by (k == q) refl (sym (laws.put_at rows k q w) ∙ ap (λ t. at t q) (sym is) ∙ there)
  where
    by : (b : Bool) → (k == q) ≡ b → (if k == q then Some w else at rows q) ≡ Some u → u.call.0 ≡ q
    by true same found =
        let both : Some w ≡ Some u = rw same at found in
        let value : w ≡ u = cc in
        ap (λ (x : Waiting). x.call.0) (sym value) ∙ mine ∙ eqb-true k q same
    by false other found = own q u (rw other at found)

own_less : RowLaws Waiting → (rows now : List (ℕ × Waiting)) (k : ℕ) → now ≡ less rows k → IsAscending rows → HaveOwnNumbers rows → HaveOwnNumbers now
own_less laws rows now k is ascend own q u there = by (k == q) refl (sym (laws.less_at rows k q ascend) ∙ ap (λ t. at t q) (sym is) ∙ there)
  where
    by : (b : Bool) → (k == q) ≡ b → (if k == q then None else at rows q) ≡ Some u → u.call.0 ≡ q
    by true same found = let both : None ≡ Some u = rw same at found in cc
    by false other found = own q u (rw other at found)

-- ---- what is seen

-- what is seen of what is kept
abbrev pub state_of : ℕ → List (ℕ × Seat) → ℕ → List (ℕ × Waiting) → List (ℕ × PermitState) → AttacherState
state_of started seats issued calls permits = record { started = started; processes = seen seats; issued = issued; waiting = calls; permits = permits }

pub numbered : RowLaws Waiting → (started : ℕ) (seats : List (ℕ × Seat)) (issued : ℕ) (calls : List (ℕ × Waiting)) (permits : List (ℕ × PermitState)) → IsSeated started seats issued calls → AreHeld seats issued calls permits
    → AreNumbered (state_of started seats issued calls permits)
numbered laws started seats issued calls permits kept held = record {
  processes = drawn_fewer started seats (seen seats) (each_ascends (λ (s : Seat). s.process) seats kept.seats_drawn.ascend) (λ q some. back q (at seats q) (subst IsSome (each_at (λ (s : Seat). s.process) seats q) some)) kept.seats_drawn;
  waiting = kept.calls_drawn;
  own = kept.own;
  lives = λ p k call. rw (each_at (λ (s : Seat). s.process) seats p) (there (at seats p) k ((kept.beside_is p k).1 call));
  one = λ p k call. waiting_beside laws seats calls kept.calls_drawn.ascend kept.beside_is p ∙ (kept.beside_is p k).1 call;
  permits = record {
    drawn = held.drawn;
    apart = held.apart;
    held = λ k h is. rw (each_at (λ (s : Seat). s.process) seats h.pid) (on (at seats h.pid) (held.held k h is));
  };
}
  where
    back : (q : ℕ) (found : Option Seat) → IsSome (option_map (λ (s : Seat). s.process) found) → IsSome found
    back q None some = some
    back q (Some seat) some = refl

    there : (found : Option Seat) (k : ℕ) → beside found ≡ Some k → IsSome (option_map (λ (s : Seat). s.process) found)
    there None k is = cc
    there (Some seat) k is = refl

    on : (found : Option Seat) → IsSome found → IsSome (option_map (λ (s : Seat). s.process) found)
    on None some = some
    on (Some seat) some = refl

-- ---- a change of one row

pub record Change {V : Type 0} (f : V → V) (rows : List (ℕ × V)) (k : ℕ) (now : List (ℕ × V)) : Type 0 where
  pub v : V
  pub there : at rows k ≡ Some v
  pub is : now ≡ put rows k (f v)

pub change_is : {V : Type 0} (f : V → V) (rows : List (ℕ × V)) (k : ℕ) (now : List (ℕ × V)) → IsSome (at rows k) → ChangesAt f rows k now → Change f rows k now
change_is {V} f rows k now some changes = by (at rows k) refl some
  where
    by : (found : Option V) → at rows k ≡ found → IsSome found → Change f rows k now
    by None is some = cc
    by (Some v) is some = record { v = v; there = is; is = changes v is }

none_at : {V : Type 0} (found : Option V) → (IsSome found → ⊥) → found ≡ None
none_at None none = refl
none_at (Some v) none = absurd (none refl)

-- what stands beside processes after one row was put
beside_put : RowLaws Seat → (seats now : List (ℕ × Seat)) (k : ℕ) (seat : Seat) → now ≡ put seats k seat → (q : ℕ) → beside (at now q) ≡ (if k == q then beside (Some seat) else beside (at seats q))
beside_put laws seats now k seat is q = ap (λ t. beside (at t q)) is ∙ ap beside (laws.put_at seats k q seat) ∙ by (k == q)
  where
    by : (b : Bool) → beside (cond b (Some seat) (at seats q)) ≡ cond b (beside (Some seat)) (beside (at seats q))
    by true = refl
    by false = refl

beside_less : RowLaws Seat → (seats now : List (ℕ × Seat)) (k : ℕ) → IsAscending seats → now ≡ less seats k → (q : ℕ) → beside (at now q) ≡ (if k == q then None else beside (at seats q))
beside_less laws seats now k ascends is q = ap (λ t. beside (at t q)) is ∙ ap beside (laws.less_at seats k q ascends) ∙ by (k == q)
  where
    by : (b : Bool) → beside (cond b None (at seats q)) ≡ cond b None (beside (at seats q))
    by true = refl
    by false = refl

same_there : (a b : Option ℕ) (k q : ℕ) → (k ≡ q → a ≡ b) → (if k == q then a else b) ≡ b
same_there a b k q same = by (k == q) refl
  where
    by : (c : Bool) → (k == q) ≡ c → cond c a b ≡ b
    by true is = same (eqb-true k q is)
    by false is = refl

-- ---- what is kept after each call

module _ (laws : RowLaws Seat) (started : ℕ) (seats : List (ℕ × Seat)) (issued : ℕ) (calls : List (ℕ × Waiting)) (kept : IsSeated started seats issued calls) (now : List (ℕ × Seat)) where
  abbrev held : ℕ → Option ℕ
  held p = beside (at seats p)

  pub started_kept : (process : ProcessState) → now ≡ put seats (started + 1) (record { process = process; call = None }) → IsSeated (started + 1) now issued calls
  started_kept process is = record {
    seats_drawn = drawn_next laws started seats now (record { process = process; call = None }) is kept.seats_drawn;
    calls_drawn = kept.calls_drawn;
    own = kept.own;
    beside_is = same_beside held (at calls) kept.beside_is (λ p. beside (at now p))
        (λ p. beside_put laws seats now (started + 1) (record { process = process; call = None }) is p ∙ same_there None (held p) (started + 1) p (λ same. ap beside (sym (none_at (at seats p) (λ some. let high = kept.seats_drawn.high p some in omega (arith, high, same))))));
  }

  pub paged_kept : (p : ℕ) (f : Seat → Seat) → ((s : Seat) → (f s).call ≡ s.call) → Change f seats p now → IsSeated started now issued calls
  paged_kept p f call_same change =
      let v = change.v in
      record {
        seats_drawn = drawn_put laws started seats now p (f v) change.is (rw change.there refl) kept.seats_drawn;
        calls_drawn = kept.calls_drawn;
        own = kept.own;
        beside_is = same_beside held (at calls) kept.beside_is (λ q. beside (at now q))
            (λ q. beside_put laws seats now p (f v) change.is q ∙ same_there (beside (Some (f v))) (held q) p q (λ same. ap (option_map (λ (c : CallNo). c.0)) (call_same v) ∙ ap beside (sym change.there) ∙ ap held same));
      }

  module _ (waiting_laws : RowLaws Waiting) (calls_now : List (ℕ × Waiting)) where
    pub issued_kept : (p : Pid) (what : Pending) → waiting_call_of calls p.0 ≡ None → Change (with_seat_call (Some (record { 0 = issued + 1 }))) seats p.0 now
        → calls_now ≡ put calls (issued + 1) (record { call = record { 0 = issued + 1 }; pid = p; living = true; what = what })
        → IsSeated started now (issued + 1) calls_now
    issued_kept p what idle change is =
        let c = issued + 1 in
        let w : Waiting = record { call = record { 0 = issued + 1 }; pid = p; living = true; what = what } in
        let seat = with_seat_call (Some (record { 0 = issued + 1 })) change.v in
        let none : at calls c ≡ None = none_at (at calls c) (λ some. let high = kept.calls_drawn.high c some in omega (arith, high)) in
        record {
          seats_drawn = drawn_put laws started seats now p.0 seat change.is (rw change.there refl) kept.seats_drawn;
          calls_drawn = drawn_next waiting_laws issued calls calls_now w is kept.calls_drawn;
          own = own_put waiting_laws calls calls_now c w is refl kept.own;
          beside_is = both_change held (at calls) kept.beside_is (λ q. beside (at now q)) (at calls_now) p.0 c (Some c) (Some w)
              (beside_put laws seats now p.0 seat change.is) (λ k. ap (λ t. at t k) is ∙ waiting_laws.put_at calls c k w)
              (λ k. (λ same. (let here : c ≡ k = cc in here, (refl, refl)), λ both. ap Some both.0))
              (λ q other call. other call.1)
              (λ q other is_held. subst (IsCall q) none ((kept.beside_is q c).0 is_held))
              (λ k other call. let clash : None ≡ Some k = sym idle ∙ waiting_beside waiting_laws seats calls kept.calls_drawn.ascend kept.beside_is p.0 ∙ (kept.beside_is p.0 k).1 call in (cc));
        }

    -- a call of a process ends or waits for no one, and nothing stands beside the process
    freed : (p c : ℕ) (w : Option Waiting) → held p ≡ Some c → (IsCall p w → ⊥) → ((q : ℕ) → (p ≡ q → ⊥) → IsCall q w → ⊥)
        → ((q : ℕ) → beside (at now q) ≡ (if p == q then None else held q)) → ((k : ℕ) → at calls_now k ≡ (if c == k then w else at calls k))
        → (u : Waiting) → at calls c ≡ Some u → u.pid.0 ≡ p
        → Besides (λ q. beside (at now q)) (at calls_now)
    freed p c w is_held gone other seats_is calls_is u there of =
        both_change held (at calls) kept.beside_is (λ q. beside (at now q)) (at calls_now) p c None w
        seats_is calls_is
        (λ k. (λ same. cc, λ both. absurd (gone both.1)))
        other
        (λ q differs is_held. let call : IsCall q (Some u) = subst (IsCall q) there ((kept.beside_is q c).0 is_held) in differs (sym of ∙ call.1))
        (λ k differs call. differs (one_call held (at calls) kept.beside_is p c k is_held ((kept.beside_is p k).1 call)))

    pub settled_kept : (c : ℕ) (w : Waiting) → at calls c ≡ Some w → w.living ≡ true → Change (with_seat_call None) seats w.pid.0 now → calls_now ≡ less calls c → IsSeated started now issued calls_now
    settled_kept c w there living change is =
        let seat = with_seat_call None change.v in
        record {
          seats_drawn = drawn_put laws started seats now w.pid.0 seat change.is (rw change.there refl) kept.seats_drawn;
          calls_drawn = drawn_less waiting_laws issued calls calls_now c is kept.calls_drawn;
          own = own_less waiting_laws calls calls_now c is kept.calls_drawn.ascend kept.own;
          beside_is = freed w.pid.0 c None ((kept.beside_is w.pid.0 c).1 (rw there (living, refl))) (λ call. call) (λ q other call. call)
              (beside_put laws seats now w.pid.0 seat change.is) (λ k. ap (λ t. at t k) is ∙ waiting_laws.less_at calls c k kept.calls_drawn.ascend) w there refl;
        }

    pub left_kept : (p c : ℕ) → waiting_call_of calls p ≡ Some c → Change orphaned calls c calls_now → now ≡ less seats p → IsSeated started now issued calls_now
    left_kept p c waits change is =
        let w = orphaned change.v in
        let is_held : held p ≡ Some c = sym (waiting_beside waiting_laws seats calls kept.calls_drawn.ascend kept.beside_is p) ∙ waits in
        let call : IsCall p (Some change.v) = subst (IsCall p) change.there ((kept.beside_is p c).0 is_held) in
        record {
          seats_drawn = drawn_less laws started seats now p is kept.seats_drawn;
          calls_drawn = drawn_put waiting_laws issued calls calls_now c w change.is (rw change.there refl) kept.calls_drawn;
          own = own_put waiting_laws calls calls_now c w change.is (kept.own c change.v change.there) kept.own;
          beside_is = freed p c (Some w) is_held (λ bad. let clash : false ≡ true = bad.0 in (cc)) (λ q other bad. let clash : false ≡ true = bad.0 in (cc))
              (beside_less laws seats now p kept.seats_drawn.ascend is) (λ k. ap (λ t. at t k) change.is ∙ waiting_laws.put_at calls c k w) change.v change.there call.1;
        }

  pub ended_kept : RowLaws Waiting → (p : ℕ) → waiting_call_of calls p ≡ None → now ≡ less seats p → IsSeated started now issued calls
  ended_kept waiting_laws p idle is = record {
    seats_drawn = drawn_less laws started seats now p is kept.seats_drawn;
    calls_drawn = kept.calls_drawn;
    own = kept.own;
    beside_is = same_beside held (at calls) kept.beside_is (λ q. beside (at now q))
        (λ q. beside_less laws seats now p kept.seats_drawn.ascend is q ∙ same_there None (held q) p q (λ same. sym idle ∙ waiting_beside waiting_laws seats calls kept.calls_drawn.ascend kept.beside_is p ∙ ap held same));
  }

module _ (laws : RowLaws Waiting) (started : ℕ) (seats : List (ℕ × Seat)) (issued : ℕ) (calls now : List (ℕ × Waiting)) (kept : IsSeated started seats issued calls) where
  pub found_kept : (c : ℕ) (owner : Enclave) → Change (with_owner owner) calls c now → IsSeated started seats issued now
  found_kept c owner change =
      let w = with_owner owner change.v in
      record {
        seats_drawn = kept.seats_drawn;
        calls_drawn = drawn_put laws issued calls now c w change.is (rw change.there refl) kept.calls_drawn;
        own = own_put laws calls now c w change.is (kept.own c change.v change.there) kept.own;
        beside_is = same_calls (λ p. beside (at seats p)) (at calls) kept.beside_is (at now) c (Some w) (λ k. ap (λ t. at t k) change.is ∙ laws.put_at calls c k w)
            (λ p. (λ call. rw change.there call, λ call. subst (IsCall p) change.there call));
      }

  pub dropped_kept : (c : ℕ) (w : Waiting) → at calls c ≡ Some w → w.living ≡ false → now ≡ less calls c → IsSeated started seats issued now
  dropped_kept c w there dead is = record {
    seats_drawn = kept.seats_drawn;
    calls_drawn = drawn_less laws issued calls now c is kept.calls_drawn;
    own = own_less laws calls now c is kept.calls_drawn.ascend kept.own;
    beside_is = same_calls (λ p. beside (at seats p)) (at calls) kept.beside_is (at now) c None (λ k. ap (λ t. at t k) is ∙ laws.less_at calls c k kept.calls_drawn.ascend)
        (λ p. (λ call. absurd call, λ call. let held = subst (IsCall p) there call in (let clash : false ≡ true = sym dead ∙ held.0 in cc)));
  }

  -- the process that a waiting call is of, where it lives
  pub caller_lives : (c : ℕ) (w : Waiting) → at calls c ≡ Some w → w.living ≡ true → IsSome (at seats w.pid.0)
  caller_lives c w there living = by (at seats w.pid.0) ((kept.beside_is w.pid.0 c).1 (rw there (living, refl)))
    where
      by : (found : Option Seat) → beside found ≡ Some c → IsSome found
      by None is = cc
      by (Some seat) is = refl

-- ---- what is seen of each call

module _ (permits : List (ℕ × PermitState)) (started : ℕ) (seats : List (ℕ × Seat)) (issued : ℕ) (calls : List (ℕ × Waiting)) (now : List (ℕ × Seat)) where
  abbrev before : AttacherState
  before = state_of started seats issued calls permits

  abbrev its : Seat → ProcessState
  its seat = seat.process

  pub started_seen : (uid gid : ℕ) → now ≡ put seats (started + 1) (record { process = fresh_process uid gid; call = None }) → state_of (started + 1) now issued calls permits ≡ process_started before uid gid
  started_seen uid gid is =
      ap (λ ps. record { started = started + 1; processes = ps; issued = issued; waiting = calls; permits = permits }) (ap seen is ∙ each_put its seats (started + 1) (record { process = fresh_process uid gid; call = None }))

  at_seen : (p : ℕ) (seat : Seat) → at seats p ≡ Some seat → at (seen seats) p ≡ Some seat.process
  at_seen p seat there = each_at its seats p ∙ ap (option_map its) there

  pub pages_seen : (p : ℕ) → pages_in before p ≡ seat_pages seats p
  pages_seen p = rw (each_at its seats p) (by (at seats p))
    where
      by : (found : Option Seat) → option_map_or (λ (process : ProcessState). process.pages) (option_map its found) [] ≡ option_map_or (λ (seat : Seat). seat.process.pages) found []
      by None = refl
      by (Some seat) = refl

  pub paged_seen : (p : ℕ) (f : List (ℕ × Page) → List (ℕ × Page)) → Change (λ seat. with_seat_pages seat (f seat.process.pages)) seats p now
      → state_of started now issued calls permits ≡ with_pages_in before p (f (pages_in before p))
  paged_seen p f change =
      let v = change.v in
      let found = at_seen p v change.there in
      rw found (ap (λ ps. record { started = started; processes = ps; issued = issued; waiting = calls; permits = permits }) (ap seen change.is ∙ each_put its seats p (with_seat_pages v (f v.process.pages))))

module _ (permits : List (ℕ × PermitState)) (started : ℕ) (seats : List (ℕ × Seat)) (issued : ℕ) (calls now : List (ℕ × Waiting)) where
  pub found_seen : (c : ℕ) (owner : Enclave) → Change (with_owner owner) calls c now → state_of started seats issued now permits ≡ owner_found (state_of started seats issued calls permits) c owner
  found_seen c owner change = rw change.there (ap (λ ws. state_of started seats issued ws permits) change.is)

-- each call of a process that ended waits for no one
abbrev left_alone : ℕ → Waiting → Waiting
left_alone p w = if w.pid.0 == p then orphaned w else w

is_orphaned : (w : Waiting) → w.living ≡ false → orphaned w ≡ w
is_orphaned w dead = ap (λ b. record w { living = b }) (sym dead)

module _ (laws : RowLaws Waiting) (seats : List (ℕ × Seat)) (calls : List (ℕ × Waiting)) (ascends : IsAscending calls) (besides : Besides (λ p. beside (at seats p)) (at calls)) (p : ℕ) where
  -- a call that isn't the one of the process
  others_stay : (k : ℕ) (w : Waiting) → at calls k ≡ Some w → (waiting_call_of calls p ≡ Some k → ⊥) → left_alone p w ≡ w
  others_stay k w there other = by (w.pid.0 == p) refl w.living refl
    where
      by : (b : Bool) → (w.pid.0 == p) ≡ b → (l : Bool) → w.living ≡ l → cond b (orphaned w) w ≡ w
      by false is l lives = refl
      by true is false dead = is_orphaned w dead
      by true is true lives =
          absurd (other (waiting_beside laws seats calls ascends besides p ∙ (besides p k).1 (rw there (lives, eqb-true w.pid.0 p is))))

  pub none_left : waiting_call_of calls p ≡ None → each (left_alone p) calls ≡ calls
  none_left idle =
      laws.same (each (left_alone p) calls) calls (each_ascends (left_alone p) calls ascends) ascends (λ k. each_at (left_alone p) calls k ∙ by k (at calls k) refl)
    where
      by : (k : ℕ) (found : Option Waiting) → at calls k ≡ found → option_map (left_alone p) found ≡ found
      by k None is = refl
      by k (Some w) is = ap Some (others_stay k w is (λ waits. let clash : None ≡ Some k = sym idle ∙ waits in (cc)))

  pub one_left : (now : List (ℕ × Waiting)) (c : ℕ) → waiting_call_of calls p ≡ Some c → Change orphaned calls c now → each (left_alone p) calls ≡ now
  one_left now c waits change =
      let v = change.v in
      laws.same (each (left_alone p) calls) now (each_ascends (left_alone p) calls ascends) (rw change.is (laws.put_ascends calls c (orphaned v) ascends))
      (λ k. each_at (left_alone p) calls k ∙ by k (c == k) refl (at calls k) refl ∙ sym (ap (λ t. at t k) change.is ∙ laws.put_at calls c k (orphaned v)))
    where
      mine : IsCall p (Some change.v)
      mine = subst (IsCall p) change.there ((besides p c).0 (sym (waiting_beside laws seats calls ascends besides p) ∙ waits))

      by : (k : ℕ) (b : Bool) → (c == k) ≡ b → (found : Option Waiting) → at calls k ≡ found → option_map (left_alone p) found ≡ (if c == k then Some (orphaned change.v) else found)
      by k true same found is =
          let here : found ≡ Some change.v = sym is ∙ ap (at calls) (sym (eqb-true c k same)) ∙ change.there in
          rw (same, here, eq-eqb change.v.pid.0 p mine.1) refl
      by k false other None is = rw other refl
      by k false other (Some w) is =
          rw other (ap Some (others_stay k w is (λ waits_too.
          let both : Some c ≡ Some k = sym waits ∙ waits_too in
          let same : c ≡ k = cc in
          let clash : false ≡ true = sym other ∙ eq-eqb c k same in
          (cc))))

-- ---- nothing yet, and what is read

pub nothing_kept : IsSeated 0 [] 0 []
unfolding at IsStrictlySortedBy
nothing_kept = record {
  seats_drawn = record { ascend = tt; low = λ k some. cc; high = λ k some. cc };
  calls_drawn = record { ascend = tt; low = λ k some. cc; high = λ k some. cc };
  own = λ k w is. cc;
  beside_is = λ p k. (λ is. cc, λ call. absurd call);
}

-- a process that is looked up
pub looked_up : {X : Type 0} (f : ProcessState → X) (seats : List (ℕ × Seat)) (p : ℕ) (found : Option Seat) → found ≡ at seats p → option_map f (at (seen seats) p) ≡ option_map (λ (seat : Seat). f seat.process) found
looked_up {X} f seats p found is = rw (each_at (λ (s : Seat). s.process) seats p, ← is) (by found)
  where
    by : (found : Option Seat) → option_map f (option_map (λ (s : Seat). s.process) found) ≡ option_map (λ (seat : Seat). f seat.process) found
    by None = refl
    by (Some seat) = refl

-- the call that a process waits for
pub busy_is : RowLaws Waiting → (started : ℕ) (seats : List (ℕ × Seat)) (issued : ℕ) (calls : List (ℕ × Waiting)) → IsSeated started seats issued calls → (p : ℕ) (found : Option Seat) → found ≡ at seats p
    → waiting_call_of calls p ≡ beside found
busy_is laws started seats issued calls kept p found is = waiting_beside laws seats calls kept.calls_drawn.ascend kept.beside_is p ∙ ap beside (sym is)

-- a call that looks an owner up waits
pub looks_some : (found : Option Waiting) → IsTrue (looks_up found) → IsSome found
looks_some None is = cc
looks_some (Some w) is = refl

-- a process that is seen to live is kept
pub lives_kept : (seats : List (ℕ × Seat)) (p : ℕ) → IsSome (at (seen seats) p) → IsSome (at seats p)
lives_kept seats p some = by (at seats p) (subst IsSome (each_at (λ (s : Seat). s.process) seats p) some)
  where
    by : (found : Option Seat) → IsSome (option_map (λ (s : Seat). s.process) found) → IsSome found
    by None some = some
    by (Some seat) some = refl

-- by what a call answered
pub either : {T E P Q R : Type 0} (r : Result T E) → OnOk r P → OnErr r Q → (P → R) → (Q → R) → R
either (Ok t) ok err f g = f ok
either (Err e) ok err f g = g err

-- the call that a process waits for waits
pub waits_there : RowLaws Waiting → (calls : List (ℕ × Waiting)) (p c : ℕ) → IsAscending calls → waiting_call_of calls p ≡ Some c → IsSome (at calls c)
waits_there laws calls p c ascends waits = by (at calls c) (waiting_is_call laws calls p c ascends waits)
  where
    by : (found : Option Waiting) → IsCall p found → IsSome found
    by None call = absurd call
    by (Some w) call = refl

module _ (permits : List (ℕ × PermitState)) (laws : RowLaws Waiting) (started : ℕ) (seats : List (ℕ × Seat)) (issued : ℕ) (calls : List (ℕ × Waiting)) (kept : IsSeated started seats issued calls) (now : List (ℕ × Seat)) where
  ended_rows : (p : ℕ) → now ≡ less seats p → (rest : List (ℕ × Waiting)) → each (left_alone p) calls ≡ rest → state_of started now issued rest permits ≡ process_ended (state_of started seats issued calls permits) p
  ended_rows p is rest left =
      ap (λ ps. record { started = started; processes = ps; issued = issued; waiting = rest; permits = permits }) (ap seen is ∙ each_less (λ (s : Seat). s.process) seats p)
      ∙ ap (λ ws. record { started = started; processes = less (seen seats) p; issued = issued; waiting = ws; permits = permits }) (sym left)

  pub ended_seen : (p : ℕ) → waiting_call_of calls p ≡ None → now ≡ less seats p → state_of started now issued calls permits ≡ process_ended (state_of started seats issued calls permits) p
  ended_seen p idle is = ended_rows p is calls (none_left laws seats calls kept.calls_drawn.ascend kept.beside_is p idle)

  pub left_seen : (rest : List (ℕ × Waiting)) (p c : ℕ) → waiting_call_of calls p ≡ Some c → Change orphaned calls c rest → now ≡ less seats p → state_of started now issued rest permits ≡ process_ended (state_of started seats issued calls permits) p
  left_seen rest p c waits change is = ended_rows p is rest (one_left laws seats calls kept.calls_drawn.ascend kept.beside_is p rest c waits change)

module _ (permits : List (ℕ × PermitState)) (laws : RowLaws Seat) (started : ℕ) (seats : List (ℕ × Seat)) (issued : ℕ) (calls : List (ℕ × Waiting)) (kept : IsSeated started seats issued calls) (now : List (ℕ × Seat)) (rest : List (ℕ × Waiting)) where
  pub issued_seen : (p : Pid) (what : Pending) (call : Option CallNo) → IsSome (at seats p.0) → ChangesAt (with_seat_call call) seats p.0 now
      → rest ≡ put calls (issued + 1) (record { call = record { 0 = issued + 1 }; pid = p; living = true; what = what })
      → state_of started now (issued + 1) rest permits ≡ call_issued (state_of started seats issued calls permits) p what
  issued_seen p what call lives changes is =
      ap (λ ps. record { started = started; processes = ps; issued = issued + 1; waiting = rest; permits = permits }) (call_unseen laws seats now p.0 call kept.seats_drawn.ascend lives changes)
      ∙ ap (λ ws. record { started = started; processes = seen seats; issued = issued + 1; waiting = ws; permits = permits }) is

  pub settled_seen : (p c : ℕ) → IsSome (at seats p) → ChangesAt (with_seat_call None) seats p now → rest ≡ less calls c → state_of started now issued rest permits ≡ call_settled (state_of started seats issued calls permits) c
  settled_seen p c lives changes is =
      ap (λ ps. record { started = started; processes = ps; issued = issued; waiting = rest; permits = permits }) (call_unseen laws seats now p None kept.seats_drawn.ascend lives changes)
      ∙ ap (λ ws. record { started = started; processes = seen seats; issued = issued; waiting = ws; permits = permits }) is
