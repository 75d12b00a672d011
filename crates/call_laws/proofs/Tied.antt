-- What ties cells to facts, and is kept along lines that are lawful.
use Rattle.std.proofs.Common.{◌≡◌, ℕ, List, [], ◌∷◌, Bool, true, false, cond, ◌&&◌, eqb, Option, None, Some, refl, sym, ap, ◌∙◌, arith}
use Rattle.std.specs.List.{AllByRecursion}
use Rattle.std.specs.Option.{option_map_or}
use Rattle.xm_num.specs.declared.CallNo.{CallNo}
use Rattle.xm_num.specs.declared.Enclave.{Enclave}
use Rattle.xm_num.specs.declared.Pid.{Pid}
use Rattle.xm_num.specs.declared.Segid.{Segid}
use Rattle.xemem_language.specs.declared.record.Record.{Record}
use Rattle.xemem_language.specs.declared.record.Body.{Body}
use Rattle.xemem_language.specs.declared.record.Body.TheVariants as bodies
use Rattle.xemem_wire.specs.Spelling.{is_valid}
use Rattle.enclave_rules.specs.View.{View}
use Rattle.enclave_rules.specs.Sending.{Goal, drop_lines, made_lines, over_lines, send_lines, way_to}
use Rattle.xemem_language.specs.declared.line.Line.{Line}
use Rattle.xemem_language.specs.declared.line.Line.TheVariants as lines
use Rattle.enclave_rules.specs.Exports.{segid_number}
use Rattle.global_model.specs.Facts.{facts_at}
use Rattle.global_model.specs.Journals.{Follows, onto}
use Rattle.global_model.specs.Parts.{Birth, Calling, Receipt, Lacks}
use Rattle.call_laws.specs.Cells.{CallCell, cells, is_cell, has_drawn, as_issued, as_drawn, as_near, as_answered, as_forgotten, makes}
use Rattle.call_laws.specs.Flights.{is_of_by}
use Rattle.call_laws.specs.Legal.{CallAt}
use Rattle.call_laws.specs.Laws.{CallRows}
use Rattle.call_laws.proofs.Rows.{all_more}
use Rattle.call_laws.proofs.CellLines.{AreOnes, IsBlank, blank_line, new_cell, ones_line}
use Rattle.call_laws.proofs.MemoryLines.{IsMemory, IssuesNext, memory_line_kept}
use Rattle.call_laws.proofs.Fresh.{AreFresh, fresh_line}
use Rattle.call_laws.proofs.NameLines.{IsServer, IsServed, server_line}
use Rattle.call_laws.proofs.ExportLines.{AreLive, live_line}
use Rattle.call_laws.proofs.Exact.{AreNames, names_line_kept}
use Rattle.call_laws.proofs.Exports.{AreExact, GivesAt, exact_line}
use Rattle.call_laws.proofs.SentLines.{AreTold, SendsTrue, Tells, TellsBy, told_line}
use Rattle.call_laws.proofs.Requests.{AreOnly, AsksOnce, RequestsOnce, only_line}

pub record IsTied (past : List Line) : Type 0 where
  pub blank : (e k : ℕ) → IsBlank (cells past e k)
  pub ones : AreOnes past
  pub memory : IsMemory past
  pub fresh : AreFresh past
  pub server : IsServer past
  pub live : AreLive past
  pub names : AreNames past
  pub exact : AreExact past
  pub told : AreTold past
  pub only : AreOnly past

-- what a line must meet, beside the law, to keep all of it
pub record KeepsAt (past : List Line) (line : Line) : Type 0 where
  pub legal : CallAt past line
  pub next : IssuesNext (facts_at past) line
  pub served : IsServed (facts_at past) line
  pub sends : SendsTrue past line
  pub once : AsksOnce past line
  pub gives : GivesAt past line

pub tied_line : CallRows → (past : List Line) (line : Line) → KeepsAt past line → IsTied past → IsTied (line ∷ past)
tied_line rows past line keeps old = record {
  blank = blank_line past line keeps.legal old.blank;
  ones = ones_line past line keeps.legal old.ones;
  memory = memory_line_kept rows.waiting past line keeps.next old.memory;
  fresh = fresh_line past line keeps.next old.fresh;
  server = server_line rows.names past line keeps.legal keeps.served old.server;
  live = live_line past line keeps.legal old.ones old.live;
  names = names_line_kept rows.names past line keeps.legal keeps.served old.ones old.server old.names;
  exact = exact_line past line keeps.legal keeps.next keeps.gives old.blank old.ones old.live old.exact;
  told = told_line past line keeps.legal keeps.sends old.told;
  only = only_line past line keeps.legal keeps.once old.only;
}

pub tied_lines : CallRows → (past ls : List Line) → Follows KeepsAt past ls → IsTied past → IsTied (onto ls past)
tied_lines rows past [] keeps old = old
tied_lines rows past (l ∷ ls) keeps old = tied_lines rows (l ∷ past) ls keeps.1 (tied_line rows past l keeps.0 old)

pub legal_lines : (past ls : List Line) → Follows KeepsAt past ls → Follows CallAt past ls
legal_lines past [] keeps = tt
legal_lines past (l ∷ ls) keeps = (keeps.0.legal, legal_lines (l ∷ past) ls keeps.1)

-- ---- at pauses

-- no make that waits has a live segment
abbrev pub AreNearAnswered : List Line → Type 0
AreNearAnswered past = (e k : ℕ) → (cells past e k).near ≡ true → (cells past e k).waits ≡ false

answered_cond : (change : CallCell → CallCell) → ((c : CallCell) → (c.near ≡ true → c.waits ≡ false) → (change c).near ≡ true → (change c).waits ≡ false)
    → (t : Bool) (c : CallCell) → (c.near ≡ true → c.waits ≡ false) → (cond t (change c) c).near ≡ true → (cond t (change c) c).waits ≡ false
answered_cond change keeps true c old = keeps c old
answered_cond change keeps false c old = old

-- the line makes no segment live
abbrev pub IsUnnaming : Line → Type 0
IsUnnaming (lines.Named e call segid) = ⊥
IsUnnaming line = Unit {0}

answered_line : (past : List Line) (line : Line) → CallAt past line → IsUnnaming line → ((e k : ℕ) → IsBlank (cells past e k)) → AreNearAnswered past → AreNearAnswered (line ∷ past)
answered_line past (lines.Issue of p call) legal quiet blank old e k = by (makes (facts_at past).hand && is_cell e k of.0 call.0) refl
  where
    by : (t : Bool) → (makes (facts_at past).hand && is_cell e k of.0 call.0) ≡ t → (cond t (as_issued p.0 (cells past e k)) (cells past e k)).near ≡ true
        → (cond t (as_issued p.0 (cells past e k)) (cells past e k)).waits ≡ false
    by true own near =
        let none = new_cell past of.0 call.0 legal e k (makes (facts_at past).hand) own in
        let clash : false ≡ true = sym (ap (λ c. c.near) (blank e k none)) ∙ near in
        absurd (cc)
    by false other near = old e k near
answered_line past (lines.Drew of call segid) legal quiet blank old e k =
    answered_cond (as_drawn (segid_number segid)) (λ c was near. was near) (is_cell e k of.0 call.0) (cells past e k) (old e k)
answered_line past (lines.Named of call segid) legal quiet blank old e k = absurd quiet
answered_line past (lines.AnswerSegid of p call segid) legal quiet blank old e k =
    answered_cond as_answered (λ c was near. refl) (is_cell e k of.0 call.0) (cells past e k) (old e k)
answered_line past (lines.Remove of segid) legal quiet blank old e k =
    answered_cond (as_near false) (λ c was near. absurd (cc)) (eqb e of.0 && has_drawn (segid_number segid) (cells past e k)) (cells past e k) (old e k)
answered_line past (lines.Unnamed segid) legal quiet blank old e k =
    answered_cond as_forgotten (λ c was near. was near) (has_drawn (segid_number segid) (cells past e k)) (cells past e k) (old e k)
answered_line past _ legal quiet blank old e k = old e k

pub answered_lines : CallRows → (past ls : List Line) → Follows KeepsAt past ls → AllByRecursion IsUnnaming ls → IsTied past → AreNearAnswered past → AreNearAnswered (onto ls past)
answered_lines rows past [] keeps quiet tied answered = answered
answered_lines rows past (l ∷ ls) keeps quiet tied answered =
    answered_lines rows (l ∷ past) ls keeps.1 quiet.1 (tied_line rows past l keeps.0 tied) (answered_line past l keeps.0.legal quiet.0 tied.blank answered)

-- one that does, with its answer
pub answered_named : (past : List Line) (e : Enclave) (p : Pid) (call : CallNo) (segid answer : Segid) → AreNearAnswered past
    → AreNearAnswered (lines.AnswerSegid e p call answer ∷ lines.Named e call segid ∷ past)
answered_named past of p call segid answer old e k = by (is_cell e k of.0 call.0)
  where
    by : (t : Bool) → (cond t (as_answered (cond t (as_near true (cells past e k)) (cells past e k))) (cond t (as_near true (cells past e k)) (cells past e k))).near ≡ true
        → (cond t (as_answered (cond t (as_near true (cells past e k)) (cells past e k))) (cond t (as_near true (cells past e k)) (cells past e k))).waits ≡ false
    by true near = refl
    by false near = old e k near

-- ---- steps

-- the lines of a step after a past
pub record GoesOn (past ls : List Line) : Type 0 where
  pub keeps : Follows KeepsAt past ls
  pub answered : IsTied past → AreNearAnswered past → AreNearAnswered (onto ls past)

pub goes_quiet : CallRows → (past ls : List Line) → Follows KeepsAt past ls → AllByRecursion IsUnnaming ls → GoesOn past ls
goes_quiet rows past ls keeps quiet = record { keeps = keeps; answered = λ tied answered. answered_lines rows past ls keeps quiet tied answered }

pub goes_first : CallRows → (past : List Line) (l : Line) (ls : List Line) → KeepsAt past l → IsUnnaming l → GoesOn (l ∷ past) ls → GoesOn past (l ∷ ls)
goes_first rows past l ls keeps quiet on = record {
  keeps = (keeps, on.keeps);
  answered = λ tied answered. on.answered (tied_line rows past l keeps tied) (answered_line past l keeps.legal quiet tied.blank answered);
}

-- ---- lines that say nothing of calls

abbrev pub IsPlainBody : Body → Type 0
IsPlainBody bodies.NameReq = ⊥
IsPlainBody (bodies.Named segid) = ⊥
IsPlainBody (bodies.Unname segid) = ⊥
IsPlainBody body = Unit {0}

abbrev pub IsFreeOfCalls : Line → Type 0
IsFreeOfCalls (lines.Sent x y r) = IsPlainBody r.body
IsFreeOfCalls line = Lacks (Birth ∷ Calling ∷ Receipt ∷ []) line

abbrev pub AreFreeOfCalls : List Line → Type 0
AreFreeOfCalls ls = AllByRecursion IsFreeOfCalls ls

plain_tells : (C : ℕ → ℕ → CallCell) (r : Record) (body : Body) → IsPlainBody body → TellsBy C r body
plain_tells C r bodies.Query plain = tt
plain_tells C r _ plain = search

plain_request : (e k : ℕ) (r : Record) (body : Body) → IsPlainBody body → is_of_by e k r body ≡ true → ⊥
plain_request e k r bodies.NameReq plain is = absurd plain
plain_request e k r _ plain is = grind arith

pub keeps_free : (past : List Line) (line : Line) → IsFreeOfCalls line → KeepsAt past line
keeps_free past (lines.Sent x y r) free = record {
  legal = tt;
  next = tt;
  served = tt;
  sends = plain_tells (cells past) r r.body free;
  once = λ e k is. absurd (plain_request e k r r.body free is);
  gives = tt;
}
keeps_free past _ free = search

quiet_free : (line : Line) → IsFreeOfCalls line → IsUnnaming line
quiet_free (lines.Named e call segid) free = absurd free
quiet_free _ free = tt

pub keep_free : (past ls : List Line) → AreFreeOfCalls ls → Follows KeepsAt past ls
keep_free past [] free = tt
keep_free past (l ∷ ls) free = (keeps_free past l free.0, keep_free (l ∷ past) ls free.1)

pub goes_free : CallRows → (past ls : List Line) → AreFreeOfCalls ls → GoesOn past ls
goes_free rows past ls free = goes_quiet rows past ls (keep_free past ls free) (all_more IsFreeOfCalls IsUnnaming ls free quiet_free)

-- a record that tells what is true is sent, or dropped
pub goes_over : CallRows → (past : List Line) (v : View) (came over : Option Enclave) (r : Record) → Tells (cells past) r → RequestsOnce past r → GoesOn past (over_lines v came over r)
goes_over rows past v came None r tells once = goes_free rows past (drop_lines v) (tt, tt)
goes_over rows past v came (Some over) r tells once = by (option_map_or (λ from. eqb over.0 from.0) came false)
  where
    by : (t : Bool) → GoesOn past (cond t (drop_lines v) (lines.Sent v.me over r ∷ []))
    by true = goes_free rows past (drop_lines v) (tt, tt)
    by false = goes_quiet rows past (lines.Sent v.me over r ∷ []) (record { legal = tt; next = tt; served = tt; sends = tells; once = once; gives = tt }, tt) (tt, tt)

pub goes_made : CallRows → (past : List Line) (v : View) (goal : Goal) (r : Record) → Tells (cells past) r → RequestsOnce past r → GoesOn past (made_lines v goal r)
goes_made rows past v goal r tells once = by (is_valid r)
  where
    by : (t : Bool) → GoesOn past (cond t (send_lines v None goal r) (drop_lines v))
    by true = goes_over rows past v None (way_to v goal) r tells once
    by false = goes_free rows past (drop_lines v) (tt, tt)
