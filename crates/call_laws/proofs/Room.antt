-- Numbers in their ranges: there was room all along, and what is made for calls is valid.
use Rattle.std.proofs.Common.{◌≡◌, ◌+◌, ◌≤◌, ◌<◌, ◌^◌, ℕ, List, [], ◌∷◌, map, Bool, true, false, cond, ◌&&◌, eqb, leb, ltb, Option, None, Some, refl, sym, ap, ◌∙◌, subst, arith}
use Rattle.std.specs.Prelude.{ℤ, pos, negsuc}
use Rattle.std.specs.Option.{option_map_or}
use Rattle.std.proofs.lemmas.Bool.{and_parts, eqb-true, le-leb, leb-true, lt-ltb, ltb-true}
use Rattle.xm_num.specs.declared.Enclave.{Enclave}
use Rattle.xm_num.specs.declared.Segid.{Segid}
use Rattle.xm_num.specs.Rows.{at, put}
use Rattle.xemem_language.specs.declared.record.Record.{Record}
use Rattle.xemem_language.specs.declared.record.Body.TheVariants as bodies
use Rattle.xemem_language.specs.declared.line.Line.{Line}
use Rattle.xemem_language.specs.declared.line.Line.TheVariants as lines
use Rattle.xemem_wire.specs.Fields.{are_allowed, name_number, segid_field}
use Rattle.xemem_wire.specs.Spelling.{is_body, is_valid}
use Rattle.xemem_wire.specs.Table.{has_call, kind_of}
use Rattle.attach_map.specs.Attaching.{AttacherState, ProcessState}
use Rattle.name_server.specs.Names.{NamesState}
use Rattle.enclave_rules.specs.Core.{local_frame}
use Rattle.enclave_rules.specs.Exports.{fits_signed, is_segid}
use Rattle.enclave_rules.specs.Memory.{with_answered, with_granted, with_released, with_issued, with_pages, with_process}
use Rattle.enclave_rules.specs.Names.{can_draw, next_segid}
use Rattle.enclave_rules.specs.Segments.{name_request, named_record, unname_record}
use Rattle.global_model.specs.Facts.{at_number, fact_of, facts_at}
use Rattle.global_model.specs.Journals.{onto}
use Rattle.call_laws.specs.Cells.{drawn_in}
use Rattle.call_laws.specs.Places.{HaveSegids, HasRoom}

-- ---- there was room before

drawn_more : (past : List Line) (line : Line) → drawn_in past ≤ drawn_in (line ∷ past)
drawn_more past (lines.Drew e call segid) = omega arith
drawn_more past _ = omega arith

issued_at : (e of : ℕ) (m : AttacherState) (f : ℕ → AttacherState) → (f of).issued ≤ m.issued → (f e).issued ≤ (at_number of m f e).issued
issued_at e of m f more = by (eqb e of) refl
  where
    by : (t : Bool) → eqb e of ≡ t → (f e).issued ≤ (cond t m (f e)).issued
    by true is = subst (λ n. (f n).issued ≤ m.issued) (sym (eqb-true e of is)) more
    by false is = omega arith

paged_issued : (m : AttacherState) (p : ℕ) (change : ProcessState → ProcessState) → m.issued ≤ (with_process p change m).issued
paged_issued m p change = by (at m.processes p)
  where
    by : (found : Option ProcessState) → m.issued ≤ (option_map_or (λ process. record m { processes = put m.processes p (change process) }) found m).issued
    by None = omega arith
    by (Some process) = omega arith

pub issued_more : (past : List Line) (line : Line) (e : ℕ) → ((facts_at past).memory e).issued ≤ ((facts_at (line ∷ past)).memory e).issued
issued_more past (lines.Proc of p uid gid) e = issued_at e of.0 _ (facts_at past).memory (omega arith)
issued_more past (lines.Alloc of p page frames) e =
    issued_at e of.0 _ (facts_at past).memory (paged_issued ((facts_at past).memory of.0) p.0
    (with_pages page.0 (map (local_frame (fact_of ((facts_at past).enclave of.0)).kind (fact_of ((facts_at past).enclave of.0)).blocks) frames)))
issued_more past (lines.Issue of p call) e = issued_at e of.0 (with_issued p call ((facts_at past).memory of.0)) (facts_at past).memory (omega arith)
issued_more past (lines.AnswerSegid of p call segid) e = issued_at e of.0 (with_answered call ((facts_at past).memory of.0)) (facts_at past).memory (omega arith)
issued_more past (lines.AnswerApid of p call apid pages) e = issued_at e of.0 (with_granted call pages ((facts_at past).memory of.0)) (facts_at past).memory (omega arith)
issued_more past (lines.AnswerRefused of p call cause) e = issued_at e of.0 (with_answered call ((facts_at past).memory of.0)) (facts_at past).memory (omega arith)
issued_more past (lines.Release of call) e = issued_at e of.0 (with_released call ((facts_at past).memory of.0)) (facts_at past).memory (omega arith)
issued_more past _ e = omega arith

pub room_line : (past : List Line) (line : Line) → HasRoom (line ∷ past) → HasRoom past
room_line past line room = record {
  segids = let more = drawn_more past line in let few = room.segids in omega (arith, more, few);
  calls = λ e. let more = issued_more past line e in let few = room.calls e in omega (arith, more, few);
}

pub room_lines : (past ls : List Line) → HasRoom (onto ls past) → HasRoom past
room_lines past [] room = room
room_lines past (l ∷ ls) room = room_line past l (room_lines (l ∷ past) ls room)

pub named_lines_by : (past ls : List Line) → HaveSegids (onto ls past) → HaveSegids past
named_lines_by past [] all = all
named_lines_by past (l ∷ ls) all = (named_lines_by (l ∷ past) ls all).1

-- ---- segids

pub draws : (n : NamesState) → n.drawn < 2 ^ 32 → can_draw n ≡ true
draws n few = lt-ltb n.drawn (2 ^ 32) few

pub next_fits : (n : NamesState) → n.drawn < 2 ^ 32 → is_segid (next_segid n) ≡ true
next_fits n few = le-leb (n.drawn + 1) 9223372036854775807 (omega (arith, few))

allowed_segid : (z : ℤ) → fits_signed z ≡ true → are_allowed (segid_field ∷ []) (name_number z ∷ []) ≡ true
allowed_segid (pos n) fits = let low : leb 0 n ≡ true = le-leb 0 n (omega arith) in rw (low, fits) refl
allowed_segid (negsuc n) fits = cc

segid_allowed : (z : ℤ) → are_allowed (segid_field ∷ []) (name_number z ∷ []) ≡ true → fits_signed z ≡ true
segid_allowed (pos n) is = (and_parts (leb 0 n) (leb n 9223372036854775807) (and_parts (leb 0 n && leb n 9223372036854775807) true is).0).1
segid_allowed (negsuc n) is = cc

-- ---- records that are made

pub valid_request : (e : Enclave) (k : ℕ) → e.0 ≤ 255 → 1 ≤ k → k < 2 ^ 32 → is_valid (name_request e k) ≡ true
unfolding is_valid
valid_request e k number some few = rw (le-leb e.0 255 number, le-leb 1 k some, lt-ltb k (2 ^ 32) few) refl

pub valid_named : (e d : Enclave) (k : ℕ) (segid : Segid) → e.0 ≤ 255 → d.0 ≤ 255 → 1 ≤ k → k < 2 ^ 32 → is_segid segid ≡ true → is_valid (named_record e d k segid) ≡ true
unfolding is_valid
valid_named e d k segid number caller some few fits =
    rw (allowed_segid segid.0 fits, le-leb e.0 255 number, le-leb d.0 255 caller, le-leb 1 k some, lt-ltb k (2 ^ 32) few) refl

pub valid_unname : (e : Enclave) (k : ℕ) (segid : Segid) → e.0 ≤ 255 → 1 ≤ k → k < 2 ^ 32 → is_segid segid ≡ true → is_valid (unname_record e k segid) ≡ true
unfolding is_valid
valid_unname e k segid number some few fits = rw (allowed_segid segid.0 fits, le-leb e.0 255 number, le-leb 1 k some, lt-ltb k (2 ^ 32) few) refl

-- ---- records that are valid

pub record IsCalling (r : Record) : Type 0 where
  pub origin : r.origin.0 ≤ 255
  pub some : 1 ≤ r.call
  pub few : r.call < 2 ^ 32

pub valid_calling : (r : Record) → has_call (kind_of r.body) ≡ true → is_valid r ≡ true → IsCalling r
unfolding is_valid
valid_calling r serves valid =
    let three = and_parts _ _ valid in
    let two = and_parts _ _ three.0 in
    let one = and_parts _ _ two.0 in
    let call : cond true (leb 1 r.call && ltb r.call (2 ^ 32)) (eqb r.call 0) ≡ true = subst (λ t. cond t (leb 1 r.call && ltb r.call (2 ^ 32)) (eqb r.call 0) ≡ true) serves three.1 in
    let ends = and_parts (leb 1 r.call) (ltb r.call (2 ^ 32)) call in
    record { origin = leb-true r.origin.0 255 one.1; some = leb-true 1 r.call ends.0; few = ltb-true r.call (2 ^ 32) ends.1 }

body_valid : (r : Record) → is_valid r ≡ true → is_body r.body ≡ true
unfolding is_valid
body_valid r valid = (and_parts _ _ (and_parts _ _ (and_parts _ _ valid).0).0).0

pub named_fits : (r : Record) (segid : Segid) → r.body ≡ bodies.Named segid → is_valid r ≡ true → is_segid segid ≡ true
named_fits r segid body valid = segid_allowed segid.0 (ap is_body (sym body) ∙ body_valid r valid)

pub unname_fits : (r : Record) (segid : Segid) → r.body ≡ bodies.Unname segid → is_valid r ≡ true → is_segid segid ≡ true
unname_fits r segid body valid = segid_allowed segid.0 (ap is_body (sym body) ∙ body_valid r valid)
