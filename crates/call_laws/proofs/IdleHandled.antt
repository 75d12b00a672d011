-- What an enclave makes of a record of a call leaves each call idle or on its way.
use Rattle.std.proofs.Common.{◌≡◌, ◌≢◌, ◌≤◌, ◌<◌, ◌^◌, ℕ, List, [], ◌∷◌, Bool, true, false, cond, ◌&&◌, eqb, None, Some, is_none, refl, sym, ap, ◌∙◌, subst, arith}
use Rattle.std.specs.Option.{option_map_or}
use Rattle.std.proofs.lemmas.Bool.{and_from, eq-eqb, ne_eqb}
use Rattle.xm_num.specs.declared.Enclave.{Enclave}
use Rattle.xm_num.specs.declared.Segid.{Segid}
use Rattle.xm_num.specs.Rows.{at}
use Rattle.xemem_language.specs.declared.record.Record.{Record}
use Rattle.xemem_language.specs.declared.record.Body.{Body}
use Rattle.xemem_language.specs.declared.record.Body.TheVariants as bodies
use Rattle.xemem_language.specs.declared.line.Line.{Line}
use Rattle.xemem_language.specs.declared.line.Line.TheVariants as lines
use Rattle.xemem_wire.specs.Spelling.{is_valid}
use Rattle.xemem_wire.specs.Table.{has_call, kind_of}
use Rattle.attach_map.specs.declared.Pending.TheVariants as pendings
use Rattle.attach_map.specs.declared.Waiting.{Waiting}
use Rattle.exporter_pins.specs.Holdings.{is_asked, live_export}
use Rattle.enclave_rules.specs.Exports.{is_segid, segid_number}
use Rattle.enclave_rules.specs.Names.{next_segid}
use Rattle.enclave_rules.specs.View.{View}
use Rattle.enclave_rules.specs.Segments.{drew_line, name_lines, named_lines, named_record, takes_name, unname_lines}
use Rattle.enclave_rules.specs.Sending.{Server, To, drop_lines, made_lines, over_lines, send_lines, way_to}
use Rattle.enclave_rules.specs.Steps.{name_request_lines, named_to, unname_to}
use Rattle.global_model.specs.Facts.{Facts, facts_at}
use Rattle.global_model.specs.Views.{view_of}
use Rattle.discovery_laws.specs.Known.{holds, in_flight, route_at, way_at}
use Rattle.call_laws.specs.Cells.{cells, has_drawn, is_cell}
use Rattle.call_laws.specs.Flights.{FitsBy, IsFit, is_of, is_of_by}
use Rattle.call_laws.specs.Laws.{CallRows}
use Rattle.call_laws.specs.Onward.{IsOnward}
use Rattle.call_laws.specs.Places.{HasRoom}
use Rattle.call_laws.proofs.CellLines.{drawn_has, is_cell_itself}
use Rattle.call_laws.proofs.MemoryLines.{make_found}
use Rattle.call_laws.proofs.Handled.{got_fits, ns_is}
use Rattle.call_laws.proofs.Idle.{Settles, Spares, settles_end, settles_first, settles_sent}
use Rattle.call_laws.proofs.Room.{IsCalling, draws, next_fits, named_fits, unname_fits, valid_calling, valid_named}
use Rattle.call_laws.proofs.SentLines.{Tells}
use Rattle.call_laws.proofs.Tied.{IsTied, tied_line}
use Rattle.enclave_rules.specs.Sending.{route_or, toward_server}
use Rattle.call_laws.proofs.IdleRecords.{apart_drawn, made_is, named_is, none_live, of_one, over_is, unname_is}

module _ (rows : CallRows) (past : List Line) (x y : Enclave) (r : Record) (behind : List Record) (tied : IsTied past) (next : in_flight (facts_at past) x.0 y.0 ≡ r ∷ behind)
    (tells : Tells (cells past) r) (foreign : r.origin.0 ≢ y.0) (valid : is_valid r ≡ true) where
  abbrev pub G : Facts
  G = facts_at past

  abbrev pub v : View
  v = view_of (facts_at past) y

  tied_got : IsTied (lines.Got x y ∷ past)
  tied_got = tied_line rows past (lines.Got x y) (record { legal = tt; next = tt; served = tt; sends = tt; once = (r, record { others = behind; is = next }); gives = tt }) tied

  spares_got : (e k : ℕ) → is_of e k r ≡ true → (f j : ℕ) → is_cell f j e k ≡ false → Spares f j past (lines.Got x y)
  spares_got e k own f j apart q rs is =
      let both : r ∷ behind ≡ q ∷ rs = sym next ∙ is in
      let same : r ≡ q = cc in
      subst (λ (q : Record). is_of f j q ≡ false) same (of_one r r.body e k f j own apart)

  fits_as : (body : Body) → r.body ≡ body → (e k : ℕ) → is_of e k r ≡ true → FitsBy (cells past e k) body
  fits_as body is e k own =
      subst (FitsBy (cells past e k)) is (got_fits rows past x y r behind tied tells next (ne_eqb r.origin.0 y.0 foreign) e k own).1

  -- it is passed on
  passed : (e k : ℕ) (z : Enclave) → is_of e k r ≡ true → Settles past (lines.Got x y ∷ lines.Sent y z r ∷ []) e k
  passed e k z own =
      settles_first past (lines.Got x y) (lines.Sent y z r ∷ []) e k (spares_got e k own) (settles_sent (lines.Got x y ∷ past) y z r e k tied_got.only.bounded own)

  holder_is : holds G y.0 ≡ true → v.core.holder ≡ true
  holder_is held = ns_is (G.enclave y.0) ∙ held

  pub server_passed : (t : Bool) (here : List Line) (e k : ℕ) → is_of e k r ≡ true → t ≡ false → IsOnward (way_at G y.0) x.0
      → Settles past (lines.Got x y ∷ cond t here (over_lines v (Some x) (cond t None (way_at G y.0)) r)) e k
  server_passed t here e k own held on =
      subst (λ ls. Settles past (lines.Got x y ∷ ls) e k) (sym (ap (λ t. cond t here (over_lines v (Some x) (cond t None (way_at G y.0)) r)) held ∙ over_is v x on.neighbour (way_at G y.0) r on.is on.apart))
      (passed e k on.neighbour own)

  -- ---- a request

  pub own_request : r.body ≡ bodies.NameReq → is_of r.origin.0 r.call r ≡ true
  own_request body = ap (is_of_by r.origin.0 r.call r) body ∙ and_from (eqb r.origin.0 r.origin.0) (eqb r.call r.call) (eq-eqb r.origin.0 r.origin.0 refl) (eq-eqb r.call r.call refl)

  pub request_drawn : r.body ≡ bodies.NameReq → holds G y.0 ≡ true → y.0 ≤ 255 → HasRoom past → (z : Enclave) → route_at G y.0 r.origin.0 ≡ Some z
      → Settles past (lines.Got x y ∷ name_request_lines v x r) r.origin.0 r.call
  request_drawn body held number room z route =
      subst (λ ls. Settles past (lines.Got x y ∷ ls) r.origin.0 r.call) (sym lines_are)
      (settles_first past (lines.Got x y) (drew_line v r.origin r.call ∷ lines.Sent y z made ∷ []) r.origin.0 r.call (spares_got r.origin.0 r.call (own_request body))
      (settles_first (lines.Got x y ∷ past) (drew_line v r.origin r.call) (lines.Sent y z made ∷ []) r.origin.0 r.call (λ f j apart. apart)
      (settles_sent (drew_line v r.origin r.call ∷ lines.Got x y ∷ past) y z made r.origin.0 r.call tied_got.only.bounded
      (and_from (eqb r.origin.0 r.origin.0) (eqb r.call r.call) (eq-eqb r.origin.0 r.origin.0 refl) (eq-eqb r.call r.call refl)))))
    where
      made : Record
      made = named_record y r.origin r.call (next_segid v.names)

      few : v.names.drawn < 2 ^ 32
      few = let count = tied.server.count y.0 held in let some = room.segids in omega (arith, count, some)

      calling : IsCalling r
      calling = valid_calling r (ap (λ b. has_call (kind_of b)) body) valid

      way : way_to v (To r.origin) ≡ Some z
      way = ap (λ o. route_or o (toward_server v)) route

      lines_are : name_request_lines v x r ≡ drew_line v r.origin r.call ∷ lines.Sent y z made ∷ []
      lines_are =
          ap (λ t. cond t (name_lines v r.origin r.call) (send_lines v (Some x) Server r)) (holder_is held)
          ∙ ap (λ t. cond t (drew_line v r.origin r.call ∷ made_lines v (To r.origin) made) (drop_lines v)) (draws v.names few)
          ∙ ap (λ ls. drew_line v r.origin r.call ∷ ls)
          (made_is v (To r.origin) z made (valid_named y r.origin r.call (next_segid v.names) number calling.origin calling.some calling.few (next_fits v.names few)) way)

  -- ---- a name

  own_name : (segid : Segid) (d : Enclave) → r.body ≡ bodies.Named segid → r.dest ≡ Some d → is_of d.0 r.call r ≡ true
  own_name segid d body to =
      ap (is_of_by d.0 r.call r) body ∙ ap (λ o. option_map_or (λ (f : Enclave). eqb f.0 d.0) o false && eqb r.call r.call) to
      ∙ and_from (eqb d.0 d.0) (eqb r.call r.call) (eq-eqb d.0 d.0 refl) (eq-eqb r.call r.call refl)

  pub name_passed : (segid : Segid) (d : Enclave) → r.body ≡ bodies.Named segid → r.dest ≡ Some d → d.0 ≢ y.0 → IsOnward (route_at G y.0 d.0) x.0
      → Settles past (lines.Got x y ∷ named_to v x r segid r.dest) d.0 r.call
  name_passed segid d body to other on =
      subst (λ ls. Settles past (lines.Got x y ∷ ls) d.0 r.call) (sym lines_are) (passed d.0 r.call on.neighbour (own_name segid d body to))
    where
      lines_are : named_to v x r segid r.dest ≡ lines.Sent y on.neighbour r ∷ []
      lines_are =
          ap (named_to v x r segid) to ∙ ap (λ t. cond t (named_lines v r.call segid) (send_lines v (Some x) (To d) r)) (ne_eqb d.0 y.0 other)
          ∙ over_is v x on.neighbour (way_to v (To d)) r (ap (λ o. route_or o (toward_server v)) on.is) on.apart

  pub name_taken : (segid : Segid) (d : Enclave) → r.body ≡ bodies.Named segid → r.dest ≡ Some d → d.0 ≡ y.0 → Settles past (lines.Got x y ∷ named_to v x r segid r.dest) d.0 r.call
  name_taken segid d body to same =
      subst (λ n. Settles past (lines.Got x y ∷ named_to v x r segid r.dest) n r.call) (sym same)
      (subst (λ ls. Settles past (lines.Got x y ∷ ls) y.0 r.call) (sym lines_are)
      (settles_first past (lines.Got x y) (name ∷ answer ∷ []) y.0 r.call (spares_got y.0 r.call own)
      (settles_first (lines.Got x y ∷ past) name (answer ∷ []) y.0 r.call (λ f j apart. apart)
      (settles_first (name ∷ lines.Got x y ∷ past) answer [] y.0 r.call (λ f j apart. apart)
      (settles_end (answer ∷ name ∷ lines.Got x y ∷ past) y.0 r.call
      (record { waits = rw (is_cell_itself y.0 r.call) refl; even = rw (is_cell_itself y.0 r.call) fit.far_is }))))))
    where
      own : is_of y.0 r.call r ≡ true
      own = subst (λ n. is_of n r.call r ≡ true) same (own_name segid d body to)

      fit : IsFit (cells past y.0 r.call) true false true (Some (segid_number segid))
      fit = fits_as (bodies.Named segid) body y.0 r.call own

      w : Waiting
      w = record { call = record { 0 = r.call }; pid = record { 0 = (cells past y.0 r.call).process }; living = true; what = pendings.Make }

      name : Line
      name = lines.Named y (record { 0 = r.call }) segid

      answer : Line
      answer = lines.AnswerSegid y w.pid (record { 0 = r.call }) segid

      found : at v.memory.waiting r.call ≡ Some w
      found = make_found (at v.memory.waiting r.call) w ((tied.memory y.0).waiting r.call ∙ ap (λ t. cond t (Some w) None) fit.waits_is)

      takes : takes_name v r.call segid w ≡ true
      takes = and_from (is_segid segid) (is_asked (at v.exports r.call) && is_none (live_export v.exports (segid_number segid))) (named_fits r segid body valid)
          (and_from (is_asked (at v.exports r.call)) (is_none (live_export v.exports (segid_number segid))) ((tied.exact y.0 r.call).asked fit.waits_is fit.near_is)
          (none_live past y.0 r.call (segid_number segid) (G.exports y.0) tied.ones (tied.live y.0) fit.drew_is fit.near_is))

      lines_are : named_to v x r segid r.dest ≡ name ∷ answer ∷ []
      lines_are =
          ap (named_to v x r segid) to ∙ ap (λ t. cond t (named_lines v r.call segid) (send_lines v (Some x) (To d) r)) (eq-eqb d.0 y.0 same)
          ∙ named_is v r.call segid w found takes

  -- ---- what is to be forgotten

  pub own_unname : (segid : Segid) → r.body ≡ bodies.Unname segid → is_of r.origin.0 r.call r ≡ true
  own_unname segid body = ap (is_of_by r.origin.0 r.call r) body ∙ and_from (eqb r.origin.0 r.origin.0) (eqb r.call r.call) (eq-eqb r.origin.0 r.origin.0 refl) (eq-eqb r.call r.call refl)

  pub forgotten : (segid : Segid) → r.body ≡ bodies.Unname segid → holds G y.0 ≡ true → Settles past (lines.Got x y ∷ unname_to v x r segid) r.origin.0 r.call
  forgotten segid body held =
      subst (λ ls. Settles past (lines.Got x y ∷ ls) r.origin.0 r.call) (sym lines_are)
      (settles_first past (lines.Got x y) (lines.Unnamed segid ∷ []) r.origin.0 r.call (spares_got r.origin.0 r.call (own_unname segid body))
      (settles_first (lines.Got x y ∷ past) (lines.Unnamed segid) [] r.origin.0 r.call
      (apart_drawn (lines.Got x y ∷ past) r.origin.0 r.call s tied_got.ones fit.drew_is)
      (settles_end (lines.Unnamed segid ∷ lines.Got x y ∷ past) r.origin.0 r.call (record { waits = rw has fit.waits_is; even = rw has (sym fit.near_is) }))))
    where
      s : ℕ
      s = segid_number segid

      fit : IsFit (cells past r.origin.0 r.call) false false true (Some s)
      fit = fits_as (bodies.Unname segid) body r.origin.0 r.call (own_unname segid body)

      has : has_drawn s (cells past r.origin.0 r.call) ≡ true
      has = drawn_has s (cells past r.origin.0 r.call) fit.drew_is

      found : at v.names.pairs s ≡ Some r.origin
      found = ap (λ n. at (G.names n).pairs s) (sym (tied.server.holder y.0 held).0) ∙ tied.names r.origin.0 r.call s fit.drew_is fit.far_is

      lines_are : unname_to v x r segid ≡ lines.Unnamed segid ∷ []
      lines_are =
          ap (λ t. cond t (unname_lines v r.origin segid) (send_lines v (Some x) Server r)) (holder_is held) ∙ unname_is v r.origin segid (unname_fits r segid body valid) found
