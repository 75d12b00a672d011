-- What an enclave writes for a make leaves each call idle or on its way.
use Rattle.std.proofs.Common.{◌≡◌, ◌+◌, ◌≤◌, ◌<◌, ◌^◌, ℕ, List, [], ◌∷◌, Bool, true, false, cond, ◌&&◌, ◌||◌, eqb, Option, None, Some, is_some, is_none, refl, sym, ap, ◌∙◌, subst, arith}
use Rattle.std.proofs.lemmas.Bool.{and_from, eq-eqb}
use Rattle.xm_num.specs.declared.Enclave.{Enclave}
use Rattle.xm_num.specs.declared.Segid.{Segid}
use Rattle.xm_num.specs.Rows.{at}
use Rattle.xemem_language.specs.declared.record.Record.{Record}
use Rattle.xemem_language.specs.declared.line.Line.{Line}
use Rattle.xemem_language.specs.declared.line.Line.TheVariants as lines
use Rattle.attach_map.specs.declared.Pending.TheVariants as pendings
use Rattle.attach_map.specs.declared.Waiting.{Waiting}
use Rattle.exporter_pins.specs.Holdings.{is_asked, live_export}
use Rattle.enclave_rules.specs.Exports.{is_segid, segid_number}
use Rattle.enclave_rules.specs.Names.{next_segid}
use Rattle.enclave_rules.specs.View.{View}
use Rattle.enclave_rules.specs.Segments.{drew_line, named_lines, takes_name}
use Rattle.enclave_rules.specs.Sending.{Server, drop_lines, made_lines, way_to}
use Rattle.global_model.specs.Facts.{Facts, facts_at}
use Rattle.global_model.specs.Journals.{Follows, onto}
use Rattle.global_model.specs.Views.{view_of}
use Rattle.discovery_laws.specs.Known.{holds, way_at}
use Rattle.call_laws.specs.Cells.{cells}
use Rattle.call_laws.specs.Laws.{CallRows}
use Rattle.call_laws.specs.Places.{HasRoom}
use Rattle.call_laws.proofs.CellLines.{is_cell_itself}
use Rattle.call_laws.proofs.Handled.{ns_is}
use Rattle.call_laws.proofs.Idle.{AreIdle, Settles, settled, settles_end, settles_first, settles_sent}
use Rattle.call_laws.proofs.Room.{draws, next_fits}
use Rattle.call_laws.proofs.Tied.{IsTied, KeepsAt, tied_line}
use Rattle.xm_num.specs.declared.Pid.{Pid}
use Rattle.enclave_rules.specs.Memory.{with_issued}
use Rattle.call_laws.specs.Cells.{as_drawn, as_issued, makes}
use Rattle.attach_map.specs.Attaching.{AttacherState}
use Rattle.enclave_rules.specs.Exports.{exports_line}
use Rattle.enclave_rules.specs.Hand.{Hand}
use Rattle.enclave_rules.specs.View.{own_lines}
use Rattle.enclave_rules.specs.Segments.{asking_lines, issue_line, make_acts, name_request, naming_lines}
use Rattle.global_model.specs.Facts.{at_number, runs}
use Rattle.discovery_laws.specs.Known.{knows}
use Rattle.call_laws.proofs.Asks.{cell_drawn, goes_make, new}
use Rattle.call_laws.proofs.IdleRecords.{made_is, named_is, none_live}
use Rattle.call_laws.proofs.Room.{valid_request}

-- an enclave that knows the way and doesn't hold the name server has a neighbour over which it goes
pub record IsWay (G : Facts) (e : ℕ) : Type 0 where
  pub over : Enclave
  pub is : way_at G e ≡ Some over

pub way_of : (G : Facts) (e : ℕ) → knows G e ≡ true → holds G e ≡ false → IsWay G e
way_of G e knowing held = by (way_at G e) refl (subst (λ t. (t || is_some (way_at G e)) ≡ true) held knowing)
  where
    by : (way : Option Enclave) → way_at G e ≡ way → is_some (way_at G e) ≡ true → IsWay G e
    by None is some = let clash : false ≡ true = ap is_some (sym is) ∙ some in absurd (cc)
    by (Some z) is some = record { over = z; is = is }

number_itself : {A : Type 0} (k : ℕ) (w : A) (f : ℕ → A) → at_number k w f k ≡ w
number_itself k w f = ap (λ t. cond t w (f k)) (eq-eqb k k refl)

-- ---- a make

module _ (rows : CallRows) (past : List Line) (e : Enclave) (p : Pid) (hand : Hand) (tied : IsTied past) (running : runs (facts_at past) e.0 p.0 ≡ true)
    (making : makes (facts_at past).hand ≡ true) (hand_is : (facts_at past).hand ≡ hand) (number : e.0 ≤ 255) where
  abbrev pub G : Facts
  G = facts_at past

  abbrev pub k : ℕ
  k = ((facts_at past).memory e.0).issued + 1

  abbrev pub v : View
  v = view_of (facts_at past) e

  abbrev pub w : View
  w = own_lines hand (view_of (facts_at past) e) (issue_line (view_of (facts_at past) e) p ∷ [])

  abbrev pub issue : Line
  issue = issue_line (view_of (facts_at past) e) p

  -- it asks for its segid
  make_sent : v.core.holder ≡ false → knows G e.0 ≡ true → k < 2 ^ 32 → Settles past (make_acts hand v p) e.0 k
  make_sent held knowing few =
      subst (λ ls. Settles past (issue ∷ ls) e.0 k) (sym lines_are)
      (settles_first past issue (lines.Sent e way.over made ∷ []) e.0 k (λ f j apart. apart)
      (settles_sent (issue ∷ past) e way.over made e.0 k tied.only.bounded (and_from (eqb e.0 e.0) (eqb k k) (eq-eqb e.0 e.0 refl) (eq-eqb k k refl))))
    where
      made : Record
      made = name_request e k

      way : IsWay G e.0
      way = way_of G e.0 knowing (sym (ns_is (G.enclave e.0)) ∙ held)

      over : way_to w Server ≡ Some way.over
      over = ap (λ t. cond t None (way_at G e.0)) held ∙ way.is

      lines_are : asking_lines hand w k ≡ lines.Sent e way.over made ∷ []
      lines_are = ap (λ t. cond t (naming_lines hand w k) (made_lines w Server made)) held
          ∙ made_is w Server way.over made (valid_request e k number (omega arith) few) over

  -- it is named at once
  make_named : v.core.holder ≡ true → HasRoom past → Settles past (make_acts hand v p) e.0 k
  make_named held room =
      subst (λ ls. Settles past ls e.0 k) (sym (lines_are ∙ ap (λ ls. issue ∷ drew ∷ ls) all_named))
      (settles_first past issue (drew ∷ name ∷ answer ∷ []) e.0 k (λ f j apart. apart)
      (settles_first (issue ∷ past) drew (name ∷ answer ∷ []) e.0 k (λ f j apart. apart)
      (settles_first drawn name (answer ∷ []) e.0 k (λ f j apart. apart)
      (settles_first (name ∷ drawn) answer [] e.0 k (λ f j apart. apart)
      (settles_end (answer ∷ name ∷ drawn) e.0 k
      (record { waits = rw (is_cell_itself e.0 k) refl; even = rw (is_cell_itself e.0 k) refl }))))))
    where
      drew : Line
      drew = drew_line w e k

      drawn : List Line
      drawn = drew_line w e k ∷ issue ∷ past

      u : View
      u = own_lines hand w (drew_line w e k ∷ [])

      segid : Segid
      segid = next_segid v.names

      row : Waiting
      row = record { call = record { 0 = k }; pid = p; living = true; what = pendings.Make }

      name : Line
      name = lines.Named e (record { 0 = k }) segid

      answer : Line
      answer = lines.AnswerSegid e p (record { 0 = k }) segid

      few : v.names.drawn < 2 ^ 32
      few = let count = tied.server.count e.0 (sym (ns_is (G.enclave e.0)) ∙ held) in let some = room.segids in omega (arith, count, some)

      lines_are : make_acts hand v p ≡ issue ∷ drew ∷ named_lines u k segid
      lines_are = ap (λ t. issue ∷ cond t (naming_lines hand w k) (made_lines w Server (name_request e k))) held
          ∙ ap (λ t. issue ∷ cond t (drew ∷ named_lines u k segid) (drop_lines w)) (draws v.names few)

      keeps : Follows KeepsAt past (issue ∷ drew ∷ named_lines u k segid)
      keeps = subst (Follows KeepsAt past) lines_are (goes_make rows past e p hand tied running making).keeps

      after : IsTied drawn
      after = tied_line rows (issue ∷ past) drew keeps.1.0 (tied_line rows past issue keeps.0 tied)

      cell : cells drawn e.0 k ≡ as_drawn (segid_number segid) (as_issued p.0 (cells past e.0 k))
      cell = cell_drawn rows past e p hand tied running making

      near : (cells drawn e.0 k).near ≡ false
      near = ap (λ c. c.near) cell ∙ ap (λ c. c.near) (tied.blank e.0 k (new rows past e p hand tied running making))

      exports_are : (facts_at drawn).exports e.0 ≡ u.exports
      exports_are = number_itself e.0 (exports_line G.hand (G.memory e.0) (G.exports e.0) issue) G.exports ∙ ap (λ h. exports_line h (G.memory e.0) (G.exports e.0) issue) hand_is

      found : at u.memory.waiting k ≡ Some row
      found = rows.waiting.put_at (G.memory e.0).waiting k k row ∙ ap (λ t. cond t (Some row) (at (G.memory e.0).waiting k)) (eq-eqb k k refl)

      takes : takes_name u k segid row ≡ true
      takes = and_from (is_segid segid) (is_asked (at u.exports k) && is_none (live_export u.exports (segid_number segid))) (next_fits v.names few)
          (and_from (is_asked (at u.exports k)) (is_none (live_export u.exports (segid_number segid)))
          (subst (λ table. is_asked (at table k) ≡ true) exports_are ((after.exact e.0 k).asked (ap (λ c. c.waits) cell) near))
          (subst (λ table. is_none (live_export table (segid_number segid)) ≡ true) exports_are
          (none_live drawn e.0 k (segid_number segid) ((facts_at drawn).exports e.0) after.ones (after.live e.0) (ap (λ c. c.drew) cell) near)))

      all_named : named_lines u k segid ≡ name ∷ answer ∷ []
      all_named = named_is u k segid row found takes

  pub idle_make : knows G e.0 ≡ true → HasRoom (issue_line (view_of (facts_at past) e) p ∷ past) → HasRoom past → AreIdle past → AreIdle (onto (make_acts hand (view_of (facts_at past) e) p) past)
  idle_make knowing later room idle =
      settled rows past (make_acts hand v p) e.0 k (goes_make rows past e p hand tied running making).keeps tied (by v.core.holder refl) idle
    where
      few : k < 2 ^ 32
      few =
          let is = number_itself e.0 (with_issued p (record { 0 = k }) (G.memory e.0)) G.memory in
          let some = later.calls e.0 in
          subst (λ (m : AttacherState). m.issued < 2 ^ 32) is some

      by : (t : Bool) → v.core.holder ≡ t → Settles past (make_acts hand v p) e.0 k
      by true held = make_named held room
      by false held = make_sent held knowing few
