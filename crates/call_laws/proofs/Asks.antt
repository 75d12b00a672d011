-- What an enclave writes for a make or a remove is lawful.
use Rattle.std.proofs.Common.{◌≡◌, ◌+◌, ℕ, List, [], ◌∷◌, Bool, true, false, cond, not, ◌&&◌, eqb, Option, None, Some, is_some, refl, sym, ap, ◌∙◌, subst, inl, inr, arith}
use Rattle.std.specs.List.{AllByRecursion, find}
use Rattle.std.specs.Option.{option_map_or}
use Rattle.std.proofs.lemmas.Bool.{and_from, and_parts, eqb-true, eq-eqb, cases_Bool}
use Rattle.xm_num.specs.declared.Enclave.{Enclave}
use Rattle.xm_num.specs.declared.Pid.{Pid}
use Rattle.xm_num.specs.declared.Segid.{Segid}
use Rattle.xm_num.specs.Rows.{at}
use Rattle.xemem_language.specs.Calls.{call_of}
use Rattle.xemem_language.specs.declared.call.Call.{Call}
use Rattle.xemem_language.specs.declared.call.Call.TheVariants as calls
use Rattle.xemem_language.specs.declared.call.ProcessCall.{ProcessCall}
use Rattle.xemem_language.specs.declared.command.Command.{Command}
use Rattle.xemem_language.specs.declared.command.Command.TheVariants as commands
use Rattle.xemem_language.specs.declared.line.Line.{Line}
use Rattle.xemem_language.specs.declared.line.Line.TheVariants as lines
use Rattle.xemem_language.specs.declared.record.Record.{Record}
use Rattle.xemem_language.specs.declared.record.Body.{Body}
use Rattle.xemem_language.specs.declared.record.Body.TheVariants as bodies
use Rattle.attach_map.specs.declared.Pending.TheVariants as pendings
use Rattle.attach_map.specs.declared.Waiting.{Waiting}
use Rattle.exporter_pins.specs.Holdings.{Export, has_segid}
use Rattle.enclave_rules.specs.Exports.{segid_number}
use Rattle.enclave_rules.specs.Hand.{Hand}
use Rattle.enclave_rules.specs.Names.{can_draw, next_segid}
use Rattle.enclave_rules.specs.View.{View, own_lines}
use Rattle.enclave_rules.specs.Segments.{asking_lines, drew_line, is_make, issue_line, make_acts, make_of, name_request, named_lines, remove_acts, unname_lines, unname_record}
use Rattle.enclave_rules.specs.Sending.{Server, drop_lines, made_lines}
use Rattle.global_model.specs.Facts.{Facts, facts_at, runs}
use Rattle.global_model.specs.Refusals.{Condition, conditions_of, first_cause, has_segment, refusal_of}
use Rattle.global_model.specs.Views.{view_of}
use Rattle.discovery_laws.specs.Known.{holds, in_flight}
use Rattle.call_laws.specs.Cells.{as_drawn, as_issued, as_near, cells, is_cell, issued_in, makes}
use Rattle.call_laws.specs.Flights.{FitsBy, IsFit, IsNowhere, IsSingle, is_of, is_of_by}
use Rattle.call_laws.specs.Laws.{CallRows}
use Rattle.call_laws.proofs.Rows.{IsFound, all_more, found_has}
use Rattle.call_laws.proofs.CellLines.{drawn_has, is_cell_itself, unissued}
use Rattle.call_laws.proofs.ExportLines.{IsLive, IsLiveRow}
use Rattle.call_laws.proofs.SentLines.{IsEnded, Tells, TellsBy}
use Rattle.call_laws.proofs.Requests.{RequestsOnce, all-behind, tested_none}
use Rattle.call_laws.proofs.Tied.{GoesOn, AreNearAnswered, IsTied, KeepsAt, tied_line, goes_free, goes_first, goes_made}
use Rattle.call_laws.proofs.Handled.{IsNameable, may_forget, goes_forgotten, goes_named, ns_is}

-- ---- a command that isn't refused

pub none_holds : (conditions : List Condition) → first_cause conditions ≡ None → AllByRecursion (λ condition. condition.holds ≡ false) conditions
none_holds [] is = tt
none_holds (condition ∷ conditions) is = by (λ more. none_holds conditions more) condition.holds refl is
  where
    by : (first_cause conditions ≡ None → AllByRecursion (λ condition. condition.holds ≡ false) conditions) → (t : Bool) → condition.holds ≡ t
        → cond t (Some condition.cause) (first_cause conditions) ≡ None
        → (condition.holds ≡ false) × AllByRecursion (λ condition. condition.holds ≡ false) conditions
    by later true holds is = cc
    by later false holds is = (holds, later is)

pub is_not : (t : Bool) → not t ≡ false → t ≡ true
is_not true is = refl
is_not false is = cc

pub some_same : {A : Type 0} {a b : A} → Some a ≡ Some b → a ≡ b
some_same is = cc

pub asked_runs : (G : Facts) (command : Command) (e : Enclave) (p : Pid) (call : Call) → call_of command ≡ Some (record { enclave = e; pid = p; call = call })
    → refusal_of G command ≡ None → runs G e.0 p.0 ≡ true
asked_runs G command e p call asks allowed = by command asks allowed
  where
    moved : (f : Enclave) (q : Pid) (c : Call) → ◌≡◌ {A = Option ProcessCall} (Some (record { enclave = f; pid = q; call = c })) (Some (record { enclave = e; pid = p; call = call }))
        → runs G f.0 q.0 ≡ true → runs G e.0 p.0 ≡ true
    moved f q c is runs_there =
        let whole = some_same is in
        let enclave : e ≡ f = sym (ap (λ (a : ProcessCall). a.enclave) whole) in
        let pid : p ≡ q = sym (ap (λ (a : ProcessCall). a.pid) whole) in
        ap (λ e. runs G e.0 p.0) enclave ∙ ap (λ p. runs G f.0 p.0) pid ∙ runs_there

    by : (command : Command) → call_of command ≡ Some (record { enclave = e; pid = p; call = call }) → refusal_of G command ≡ None → runs G e.0 p.0 ≡ true
    by (commands.Alloc f q page n) asks allowed = moved f q (calls.Alloc page n) asks
        (let none = none_holds (conditions_of G (commands.Alloc f q page n)) allowed in is_not (runs G f.0 q.0) none.1.0)
    by (commands.Make f q addr size mode) asks allowed = moved f q (calls.Make addr size mode) asks
        (let none = none_holds (conditions_of G (commands.Make f q addr size mode)) allowed in is_not (runs G f.0 q.0) none.1.0)
    by (commands.Remove f q segid) asks allowed = moved f q (calls.Remove segid) asks
        (let none = none_holds (conditions_of G (commands.Remove f q segid)) allowed in is_not (runs G f.0 q.0) none.1.0)
    by _ asks allowed = cc

pub removed_has : (G : Facts) (command : Command) (e : Enclave) (p : Pid) (segid : Segid)
    → call_of command ≡ Some (record { enclave = e; pid = p; call = calls.Remove segid }) → refusal_of G command ≡ None
    → has_segment G e.0 (segid_number segid) ≡ true
removed_has G command e p segid asks allowed = by command asks allowed
  where
    removed : Call → Segid
    removed (calls.Remove s) = s
    removed (calls.Alloc page n) = segid
    removed (calls.Make addr size mode) = segid

    is_remove : Call → Bool
    is_remove (calls.Remove s) = true
    is_remove (calls.Alloc page n) = false
    is_remove (calls.Make addr size mode) = false

    other : (a : ProcessCall) → is_remove a.call ≡ false → Some a ≡ Some (record { enclave = e; pid = p; call = calls.Remove segid }) → ⊥
    other a none is = let clash : true ≡ false = sym (ap (λ (a : ProcessCall). is_remove a.call) (some_same is)) ∙ none in cc

    by : (command : Command) → call_of command ≡ Some (record { enclave = e; pid = p; call = calls.Remove segid }) → refusal_of G command ≡ None
        → has_segment G e.0 (segid_number segid) ≡ true
    by (commands.Remove f q s) asks allowed =
        let whole = some_same asks in
        let enclave : e ≡ f = sym (ap (λ (a : ProcessCall). a.enclave) whole) in
        let same : segid ≡ s = sym (ap (λ (a : ProcessCall). removed a.call) whole) in
        ap (λ e. has_segment G e.0 (segid_number segid)) enclave ∙ ap (λ s. has_segment G f.0 (segid_number s)) same
        ∙ (let none = none_holds (conditions_of G (commands.Remove f q s)) allowed in is_not (has_segment G f.0 (segid_number s)) none.1.1.1.1.0)
    by (commands.Alloc f q page n) asks allowed = absurd (other (record { enclave = f; pid = q; call = calls.Alloc page n }) refl asks)
    by (commands.Make f q addr size mode) asks allowed = absurd (other (record { enclave = f; pid = q; call = calls.Make addr size mode }) refl asks)
    by _ asks allowed = cc

-- ---- a make

module _ (rows : CallRows) (past : List Line) (e : Enclave) (p : Pid) (hand : Hand) (tied : IsTied past) (running : runs (facts_at past) e.0 p.0 ≡ true)
    (making : makes (facts_at past).hand ≡ true) where
  abbrev pub k : ℕ
  k = ((facts_at past).memory e.0).issued + 1

  abbrev pub v : View
  v = view_of (facts_at past) e

  abbrev pub issued : List Line
  issued = issue_line (view_of (facts_at past) e) p ∷ past

  fresh : issued_in past e.0 k ≡ false
  fresh = tied.fresh e.0 k (omega arith)

  pub new : (cells past e.0 k).issued ≡ false
  new = unissued past e.0 k fresh

  -- no record of it is under way
  nowhere : IsNowhere (facts_at past) e.0 k
  nowhere a b = tested_none (is_of e.0 k) (in_flight (facts_at past) a b)
      (all-behind (λ r. is_of e.0 k r ≡ false) ((facts_at past).channel a b).got ((facts_at past).channel a b).sent
      (all_more (Tells (cells past)) (λ r. is_of e.0 k r ≡ false) ((facts_at past).channel a b).sent (tied.told a b) (λ r tells. by r r.body tells)))
    where
      unissued : (of call : ℕ) → (cells past of call).issued ≡ true → (t : Bool) → (eqb of e.0 && eqb call k) ≡ t → t ≡ false
      unissued of call was false is = refl
      unissued of call was true is =
          let both = and_parts (eqb of e.0) (eqb call k) is in
          let there : (cells past e.0 k).issued ≡ true = (λ i. (cells past (sym (eqb-true of e.0 both.0) i) (sym (eqb-true call k both.1) i)).issued) ∙ was in
          let clash : true ≡ false = sym there ∙ new in
          cc

      drew_issued : (of call s : ℕ) → (cells past of call).drew ≡ Some s → (cells past of call).issued ≡ true
      drew_issued of call s drew = elim (cases_Bool (cells past of call).issued) [
        | inl is ↦ is
        | inr none ↦ absurd (let clash : None ≡ Some s = sym (ap (λ c. c.drew) (tied.blank of call none)) ∙ drew in cc)
      ]

      named : (r : Record) (segid : Segid) (dest : Option Enclave) → ((d : Enclave) → dest ≡ Some d → (cells past d.0 r.call).drew ≡ Some (segid_number segid))
          → (option_map_or (λ (d : Enclave). eqb d.0 e.0) dest false && eqb r.call k) ≡ false
      named r segid None tells = refl
      named r segid (Some d) tells = unissued d.0 r.call (drew_issued d.0 r.call (segid_number segid) (tells d refl)) (eqb d.0 e.0 && eqb r.call k) refl

      by : (r : Record) (body : Body) → TellsBy (cells past) r body → is_of_by e.0 k r body ≡ false
      by r bodies.NameReq tells = unissued r.origin.0 r.call tells.0 (eqb r.origin.0 e.0 && eqb r.call k) refl
      by r (bodies.Named segid) tells = named r segid r.dest tells
      by r (bodies.Unname segid) tells = unissued r.origin.0 r.call tells.issued (eqb r.origin.0 e.0 && eqb r.call k) refl
      by r _ tells = refl

  pub cell_issued : cells issued e.0 k ≡ as_issued p.0 (cells past e.0 k)
  cell_issued = ap (λ t. cond t (as_issued p.0 (cells past e.0 k)) (cells past e.0 k)) (and_from (makes (facts_at past).hand) (is_cell e.0 k e.0 k) making (is_cell_itself e.0 k))

  -- the segid is drawn at once where the enclave holds the name server
  abbrev pub drawn : List Line
  drawn = drew_line (view_of (facts_at past) e) e k ∷ issued

  pub cell_drawn : cells drawn e.0 k ≡ as_drawn (segid_number (next_segid v.names)) (as_issued p.0 (cells past e.0 k))
  cell_drawn = ap (λ t. cond t (as_drawn (segid_number (next_segid v.names)) (cells issued e.0 k)) (cells issued e.0 k)) (is_cell_itself e.0 k)
      ∙ ap (as_drawn (segid_number (next_segid v.names))) cell_issued

  runs_drawn : runs (facts_at drawn) e.0 p.0 ≡ true
  runs_drawn = rw (eq-eqb e.0 e.0 refl) running

  may_be_named : (w : Waiting) → at (own_lines hand (own_lines hand v (issue_line v p ∷ [])) (drew_line v e k ∷ [])).memory.waiting k ≡ Some w → is_make w.what ≡ true
      → IsNameable drawn e k (next_segid v.names) w
  may_be_named w found is_one =
      let w0 : Waiting = record { call = record { 0 = k }; pid = p; living = true; what = pendings.Make } in
      let put : at (own_lines hand (own_lines hand v (issue_line v p ∷ [])) (drew_line v e k ∷ [])).memory.waiting k ≡ Some w0
      = rows.waiting.put_at ((facts_at past).memory e.0).waiting k k w0 ∙ rw (eq-eqb k k refl) refl in
      let is : Some w0 ≡ Some w = sym put ∙ found in
      let same : w0 ≡ w = cc in
      let pid : p.0 ≡ w.pid.0 = ap (λ w. w.pid.0) same in
      record {
        waits = ap (λ c. c.waits) cell_drawn;
        process = ap (λ c. c.process) cell_drawn ∙ pid;
        running = ap (λ c. runs (facts_at drawn) e.0 c.process) cell_drawn ∙ runs_drawn;
        drawn = ap (λ c. c.drew) cell_drawn;
        stands = ap (λ c. c.far) cell_drawn;
        nowhere = nowhere;
      }

  keeps_drew : v.core.holder ≡ true → KeepsAt issued (drew_line v e k)
  keeps_drew is =
      let holder : holds (facts_at past) e.0 ≡ true = sym (ns_is ((facts_at past).enclave e.0)) ∙ is in
      let home = (tied.server.holder e.0 holder).0 in
      record {
        legal = record {
          issued = ap (λ c. c.issued) cell_issued;
          first = ap (λ c. c.drew) cell_issued ∙ ap (λ c. c.drew) (tied.blank e.0 k new);
          next = ap (λ n. n + 1) (tied.server.count e.0 holder);
        };
        next = tt;
        served = subst (λ h. holds (facts_at past) h ≡ true) (sym home) holder;
        sends = tt;
        once = nowhere;
        gives = ap (λ c. c.near) cell_issued ∙ ap (λ c. c.near) (tied.blank e.0 k new);
      }

  pub goes_make : GoesOn past (make_acts hand v p)
  goes_make =
      goes_first rows past (issue_line v p) (asking_lines hand (own_lines hand v (issue_line v p ∷ [])) k)
      (record { legal = fresh; next = (running, refl, making); served = tt; sends = tt; once = nowhere; gives = tt }) tt (by v.core.holder refl)
    where
      v1 : View
      v1 = own_lines hand v (issue_line v p ∷ [])

      requests : RequestsOnce issued (name_request e k)
      requests a b is =
          let both = and_parts (eqb e.0 a) (eqb k b) is in
          let P : ℕ → ℕ → Type 0 = λ a b. IsNowhere (facts_at issued) a b × IsFit (cells issued a b) true false false None in
          let blank = tied.blank e.0 k new in
          subst (λ n. P n b) (eqb-true e.0 a both.0) (subst (λ n. P e.0 n) (eqb-true k b both.1) (
            nowhere,
            record {
              waits_is = ap (λ c. c.waits) cell_issued;
              near_is = ap (λ c. c.near) cell_issued ∙ ap (λ c. c.near) blank;
              far_is = ap (λ c. c.far) cell_issued ∙ ap (λ c. c.far) blank;
              drew_is = ap (λ c. c.drew) cell_issued ∙ ap (λ c. c.drew) blank;
            },
          ))

      naming : v.core.holder ≡ true → (t : Bool)
          → GoesOn issued (cond t (drew_line v1 e k ∷ named_lines (own_lines hand v1 (drew_line v1 e k ∷ [])) k (next_segid v1.names)) (drop_lines v1))
      naming is true = goes_first rows issued (drew_line v1 e k) (named_lines (own_lines hand v1 (drew_line v1 e k ∷ [])) k (next_segid v1.names)) (keeps_drew is) tt
          (goes_named rows drawn (own_lines hand v1 (drew_line v1 e k ∷ [])) k (next_segid v1.names) may_be_named)
      naming is false = goes_free rows issued (drop_lines v1) (tt, tt)

      by : (t : Bool) → v.core.holder ≡ t
          → GoesOn issued (cond t (cond (can_draw v1.names) (drew_line v1 e k ∷ named_lines (own_lines hand v1 (drew_line v1 e k ∷ [])) k (next_segid v1.names)) (drop_lines v1))
          (made_lines v1 Server (name_request e k)))
      by true is = naming is (can_draw v1.names)
      by false is = goes_made rows issued v1 Server (name_request e k) (ap (λ c. c.issued) cell_issued, refl) requests

-- ---- a remove

pub record IsFirst {A : Type 0} (test : A → Bool) (xs : List A) : Type 0 where
  pub first : A
  pub found : find test xs ≡ Some first

first_found : (test : ℕ × Export → Bool) (xs : List (ℕ × Export)) → is_some (find test xs) ≡ true → IsFirst test xs
first_found test xs some = by (find test xs) refl some
  where
    by : (found : Option (ℕ × Export)) → find test xs ≡ found → is_some found ≡ true → IsFirst test xs
    by None is some = cc
    by (Some x) is some = record { first = x; found = is }

module _ (rows : CallRows) (past : List Line) (e : Enclave) (segid : Segid) (tied : IsTied past) (answered : AreNearAnswered past)
    (has : has_segment (facts_at past) e.0 (segid_number segid) ≡ true) where
  abbrev pub s : ℕ
  s = segid_number segid

  pub first : IsFirst (λ (row : ℕ × Export). has_segid (segid_number segid) row.1.segid) ((facts_at past).exports e.0)
  first = first_found (λ row. has_segid (segid_number segid) row.1.segid) ((facts_at past).exports e.0) has

  abbrev pub made : ℕ
  made = first.first.0

  pub live : IsLive (cells past e.0 made) s
  live = by found.has first.first.1.segid refl found.passes
    where
      found : IsFound (IsLiveRow (cells past e.0)) (λ row. has_segid (segid_number segid) row.1.segid) first.first
      found = found_has (IsLiveRow (cells past e.0)) (λ row. has_segid (segid_number segid) row.1.segid) ((facts_at past).exports e.0) first.first (tied.live e.0).live first.found

      by : IsLiveRow (cells past e.0) first.first → (own : Option ℕ) → first.first.1.segid ≡ own → has_segid s own ≡ true
          → IsLive (cells past e.0 made) s
      by has None is passes = cc
      by has (Some own) is passes = has s (is ∙ ap (λ n. Some n) (eqb-true own s passes))

  pub issued_once : (cells past e.0 made).issued ≡ true
  issued_once = elim (cases_Bool (cells past e.0 made).issued) [
    | inl is ↦ is
    | inr none ↦ absurd (let clash : false ≡ true = sym (ap (λ c. c.near) (tied.blank e.0 made none)) ∙ live.near in cc)
  ]

  -- no record of a call with a live segment is under way
  none_of : IsNowhere (facts_at past) e.0 made
  none_of = by (tied.only.only e.0 made)
    where
      unfit : (body : Body) → FitsBy (cells past e.0 made) body → ⊥
      unfit bodies.NameReq fit = let clash : true ≡ false = sym live.near ∙ fit.near_is in cc
      unfit (bodies.Named segid) fit = let clash : true ≡ false = sym live.near ∙ fit.near_is in cc
      unfit (bodies.Unname segid) fit = let clash : true ≡ false = sym live.near ∙ fit.near_is in cc
      unfit _ fit = fit

      by : IsSingle past e.0 made → IsNowhere (facts_at past) e.0 made
      by (inl none) = none
      by (inr one) = absurd (unfit one.rec.body one.fits)

  abbrev pub removed : List Line
  removed = lines.Remove e segid ∷ past

  pub cell_removed : cells removed e.0 made ≡ as_near false (cells past e.0 made)
  cell_removed = rw (eq-eqb e.0 e.0 refl, drawn_has s (cells past e.0 made) live.drawn) refl

  ended : IsEnded (cells removed e.0 made) s
  ended = record {
    issued = ap (λ c. c.issued) cell_removed ∙ issued_once;
    drawn = ap (λ c. c.drew) cell_removed ∙ live.drawn;
    near = ap (λ c. c.near) cell_removed;
    waits = ap (λ c. c.waits) cell_removed ∙ answered e.0 made live.near;
  }

  keeps_remove : KeepsAt past (lines.Remove e segid)
  keeps_remove = record {
    legal = record { call = made; drawn = live.drawn; live = live.near };
    next = tt;
    served = tt;
    sends = tt;
    once = λ k drew. let same = (tied.ones.one e.0 made e.0 k s live.drawn drew).1 in subst (IsNowhere (facts_at past) e.0) same none_of;
    gives = answered;
  }

  pub goes_remove : GoesOn past (remove_acts (view_of (facts_at past) e) segid)
  goes_remove =
      goes_first rows past (lines.Remove e segid) (cond v.core.holder (unname_lines v e segid) (made_lines v Server (unname_record e (make_of v.exports s) segid)))
      keeps_remove tt (by v.core.holder refl)
    where
      v : View
      v = view_of (facts_at past) e

      after : IsTied removed
      after = tied_line rows past (lines.Remove e segid) keeps_remove tied

      call_is : make_of ((facts_at past).exports e.0) s ≡ made
      call_is = ap (λ row. option_map_or (λ row. row.0) row 0) first.found

      unname_once : RequestsOnce removed (unname_record e (make_of v.exports s) segid)
      unname_once f j is =
          let P : ℕ → ℕ → Type 0 = λ f j. IsNowhere (facts_at removed) f j × IsFit (cells removed f j) false false true (Some s) in
          let both = and_parts (eqb e.0 f) (eqb (make_of ((facts_at past).exports e.0) s) j) is in
          subst (λ n. P n j) (eqb-true e.0 f both.0) (subst (λ n. P e.0 n) (sym call_is ∙ eqb-true (make_of ((facts_at past).exports e.0) s) j both.1) (
            none_of,
            record {
              waits_is = ended.waits;
              near_is = ended.near;
              far_is = ap (λ c. c.far) cell_removed ∙ tied.only.stands e.0 made live.near;
              drew_is = ended.drawn;
            },
          ))

      by : (t : Bool) → v.core.holder ≡ t
          → GoesOn removed (cond t (unname_lines v e segid) (made_lines v Server (unname_record e (make_of v.exports s) segid)))
      by true is =
          let holder : holds (facts_at past) e.0 ≡ true = sym (ns_is ((facts_at past).enclave e.0)) ∙ is in
          goes_forgotten rows removed v e segid (subst (λ h. holds (facts_at past) h ≡ true) (sym (tied.server.holder e.0 holder).0) holder)
          (may_forget removed s e.0 made (after.server.pairs e.0 s) after.ones.one ended)
          (λ f j drew. let same = after.ones.one e.0 made f j s ended.drawn drew in
          subst (λ n. IsNowhere (facts_at removed) n j) same.0 (subst (λ n. IsNowhere (facts_at removed) e.0 n) same.1 none_of))
      by false is = goes_made rows removed v Server (unname_record e (make_of v.exports s) segid)
          (subst (λ n. IsEnded (cells removed e.0 n) s) (sym call_is) ended) unname_once
