-- Along every journal the way is asked for and known, registrations are at their stages, and no record is got twice.
use Rattle.std.proofs.Common.{◌≡◌, ℕ, List, [], ◌∷◌, ◌++◌, Bool, true, false, cond, eqb, leb, Some, refl, sym, ap, ◌∙◌, subst, arith}
use Rattle.std.specs.List.{AllByRecursion}
use Rattle.std.proofs.lemmas.Bool.{eqb-true, false_from_ne_true}
use Rattle.xm_num.specs.declared.Enclave.{Enclave}
use Rattle.xm_num.specs.declared.Block.{Block}
use Rattle.xm_num.specs.declared.Pid.{Pid}
use Rattle.xemem_language.specs.declared.call.Call.{Call}
use Rattle.xm_num.specs.declared.Kind.{Kind}
use Rattle.xm_num.specs.declared.Kind.TheVariants as kinds
use Rattle.xemem_language.specs.declared.record.Record.{Record}
use Rattle.xemem_language.specs.declared.line.Line.{Line}
use Rattle.xemem_language.specs.declared.line.Line.TheVariants as lines
use Rattle.enclave_rules.specs.View.{View}
use Rattle.enclave_rules.specs.Steps.{adopt_lines, child_lines, record_lines, told_lines}
use Rattle.enclave_rules.specs.Core.{host}
use Rattle.global_model.specs.Facts.{Facts, after_line, after_lines, facts_at, is_admitted}
use Rattle.global_model.specs.Flow.{IsTree}
use Rattle.global_model.specs.Journals.{Follows, onto}
use Rattle.global_model.specs.Pauses.{IsPause, MayCome, MayHandle, Step, Written, Hosts, Bears, Takes, Handles, Asks, asked_lines, written_by}
use Rattle.global_model.specs.Views.{view_of}
use Rattle.discovery_laws.specs.Known.{in_flight, is_admitted_at}
use Rattle.discovery_laws.specs.Laws.{DiscoveryLaws}
use Rattle.discovery_laws.specs.Once.{IsFirstNew, OnceAt, first_onto, is_alike, is_of_discovery, records_got}
use Rattle.xemem_language.specs.Destinations.{destination_number}
use Rattle.xemem_wire.specs.Table.{kind_of}
use Rattle.discovery_laws.proofs.Underway.{bounded_got, next_flight}
use Rattle.discovery_laws.proofs.Each.{each_birth, each_either}
use Rattle.discovery_laws.proofs.Joined.{IsJoined}
use Rattle.discovery_laws.proofs.Marks.{IsLasting, kept-trans, kept_got, kept_lines, mark, mark_kept}
use Rattle.discovery_laws.proofs.Onces.{alike_kind, alike_mark, new_record}
use Rattle.discovery_laws.proofs.Pausing.{aside_alone, none_admitted, unborn_enclave}
use Rattle.discovery_laws.proofs.Received.{aside_asked, inner_record}
use Rattle.discovery_laws.proofs.Registrations.{pause_bounded}
use Rattle.discovery_laws.proofs.Unmoved.{AreWithinStep, IsWithinStep, inner_all, inner_aside}

-- ---- what a step leaves of what is kept

-- what was kept is kept by a newborn enclave too, which had nothing
kept_born : (G : Facts) (child : Enclave) (kind : Kind) (parent : Enclave) (ns : Bool) (blocks : List Block) → IsTree G → child.0 ≡ G.born
    → IsLasting G (after_line G (lines.Born child kind parent ns blocks))
kept_born G child kind parent ns blocks tree next = record {
  backs = λ a d is. is;
  routes = λ a d is. is;
  ready = λ e is. by e (eqb e child.0) refl is;
  got = λ test a b. omega arith;
}
  where
    by : (e : ℕ) (t : Bool) → eqb e child.0 ≡ t → is_admitted_at G e ≡ true
        → is_admitted (cond t (Some (record { kind = kind; parent = parent; blocks = blocks; ns = ns; living = true; admitted = false })) (G.enclave e)) ≡ true
    by e true here is = absurd (
        let none : is_admitted_at G e ≡ false
        = none_admitted (G.enclave e) (unborn_enclave G e tree (let same = eqb-true e child.0 here in omega (arith, same, next))) in
        let clash : true ≡ false = sym is ∙ none in
        cc)
    by e false there is = is

-- what is written for a call bears no enclave and gets no record
pub inner_asked : (v : View) (p : Pid) (call : Call) → AreWithinStep (asked_lines v p call)
inner_asked v p call = inner_all (asked_lines v p call) 0 (aside_asked v p call 0)

pub kept_step : DiscoveryLaws → (G : Facts) (step : Step) → IsPause G → MayCome G step → IsLasting G (after_lines G (written_by G step))
kept_step laws G (Written line) pause may = kept_lines laws.row G (line ∷ []) (inner_aside line 0 (aside_alone G line 0 may.1), tt) (pause_bounded G pause)
kept_step laws G (Takes x y count) pause may = kept_lines laws.row G (lines.Took x y count ∷ []) (tt, tt) (pause_bounded G pause)
kept_step laws G (Asks e p call) pause may = kept_lines laws.row G (asked_lines (view_of G e) p call) (inner_asked (view_of G e) p call) (pause_bounded G pause)
kept_step laws G (Handles x y r) pause may =
    let G1 = after_line G (lines.Got x y) in
    let next = next_flight G x.0 y.0 r may.others may.next in
    kept-trans G G1 (after_lines G1 (record_lines (view_of G y) x r)) (kept_got G x y)
    (kept_lines laws.row G1 (record_lines (view_of G y) x r) (inner_record (view_of G y) x r)
    (bounded_got G x y r next.others next.is (pause_bounded G pause)))
kept_step laws G (Hosts ns blocks) pause may =
    let G1 = after_line G (lines.Born host kinds.Host host ns blocks) in
    let more = cond ns (lines.Admitted host ∷ []) [] in
    kept-trans G G1 (after_lines G1 more) (kept_born G host kinds.Host host ns blocks pause.tree may.1.next)
    (kept_lines laws.row G1 more (each_either IsWithinStep ns (lines.Admitted host ∷ []) [] (tt, tt) tt) (pause_bounded G pause))
kept_step laws G (Bears child kind parent ns blocks) pause may =
    let G1 = after_line G (lines.Born child kind parent ns blocks) in
    let v = view_of G parent in
    let more = (told_lines child (G.heard parent.0) ++ child_lines child parent ns) ++ adopt_lines v child in
    kept-trans G G1 (after_lines G1 more) (kept_born G child kind parent ns blocks pause.tree may.1.next)
    (kept_lines laws.row G1 more (each_birth IsWithinStep child parent ns (G.heard parent.0) v (λ d. tt) tt (λ a b. tt)) (pause_bounded G pause))

-- ---- the records that were got

same_got_line : (y : ℕ) (line : Line) (past : List Line) → IsWithinStep line → records_got y (line ∷ past) ≡ records_got y past
same_got_line y (lines.Got x z) past inner = absurd inner
same_got_line y _ past inner = refl

same_got : (y : ℕ) (ls past : List Line) → AreWithinStep ls → records_got y (onto ls past) ≡ records_got y past
same_got y [] past inner = refl
same_got y (l ∷ ls) past inner = same_got y ls (l ∷ past) inner.1 ∙ same_got_line y l past inner.0

once_line : (line : Line) (past : List Line) → IsWithinStep line → OnceAt past line
once_line (lines.Got x z) past inner = absurd inner
once_line _ past inner = tt

once_lines : (ls past : List Line) → AreWithinStep ls → Follows OnceAt past ls
once_lines [] past inner = tt
once_lines (l ∷ ls) past inner = (once_line l past inner.0, once_lines ls (l ∷ past) inner.1)

-- all of them that are of discovery are kept
abbrev pub AreMarked : Facts → ℕ → List Record → Type 0
AreMarked G y rs = AllByRecursion (λ q. is_of_discovery q ≡ true → mark G y q ≡ true) rs

marked_kept : (G H : Facts) (y : ℕ) (rs : List Record) → IsLasting G H → AreMarked G y rs → AreMarked H y rs
marked_kept G H y [] kept all = tt
marked_kept G H y (r ∷ rs) kept all =
    (λ is. mark_kept G H y (kind_of r.body) r.origin.0 (destination_number r.dest) kept (all.0 is), marked_kept G H y rs kept all.1)

-- a record of which nothing is kept is like none of them
unlike : (G : Facts) (y : ℕ) (r : Record) (rs : List Record) → is_of_discovery r ≡ true → mark G y r ≡ false → AreMarked G y rs
    → AllByRecursion (λ q. is_alike r q ≡ false) rs
unlike G y r [] of none all = tt
unlike G y r (q ∷ rs) of none all = (
  false_from_ne_true (is_alike r q) (λ is.
      let kind : is_of_discovery q ≡ true = ap (λ k. leb k 4) (sym (alike_kind r q is)) ∙ of in
      let clash : false ≡ true = sym none ∙ alike_mark G y r q is ∙ all.0 kind in
      cc),
  unlike G y r rs of none all.1,
)

-- ---- steps

-- discovery has gone as it is to, up to a pause
pub record IsDiscovered (past : List Line) : Type 0 where
  pub joined : IsJoined (facts_at past)
  pub got : (y : ℕ) → AreMarked (facts_at past) y (records_got y past)

pub record GoesOn (past ls : List Line) : Type 0 where
  pub once : Follows OnceAt past ls
  pub got : (y : ℕ) → AreMarked (after_lines (facts_at past) ls) y (records_got y (onto ls past))

pub goes_within : (past ls : List Line) → AreWithinStep ls → IsLasting (facts_at past) (after_lines (facts_at past) ls) → IsDiscovered past → GoesOn past ls
goes_within past ls inner kept old = record {
  once = once_lines ls past inner;
  got = λ y. subst (AreMarked (after_lines (facts_at past) ls) y) (sym (same_got y ls past inner))
      (marked_kept (facts_at past) (after_lines (facts_at past) ls) y (records_got y past) kept (old.got y));
}

pub goes_born : (past : List Line) (child : Enclave) (kind : Kind) (parent : Enclave) (ns : Bool) (blocks : List Block) (more : List Line) → AreWithinStep more
    → IsLasting (facts_at past) (after_lines (facts_at past) (lines.Born child kind parent ns blocks ∷ more)) → IsDiscovered past
    → GoesOn past (lines.Born child kind parent ns blocks ∷ more)
goes_born past child kind parent ns blocks more inner kept old =
    let born = lines.Born child kind parent ns blocks in
    let H = after_lines (facts_at past) (born ∷ more) in
    record {
      once = (tt, once_lines more (born ∷ past) inner);
      got = λ y. subst (AreMarked H y) (sym (same_got y more (born ∷ past) inner)) (marked_kept (facts_at past) H y (records_got y past) kept (old.got y));
    }

pub goes_handled : DiscoveryLaws → (past : List Line) (x y : Enclave) (r : Record) → IsPause (facts_at past) → MayHandle (facts_at past) x y r → IsDiscovered past
    → IsLasting (facts_at past) (after_lines (facts_at past) (lines.Got x y ∷ record_lines (view_of (facts_at past) y) x r))
    → GoesOn past (lines.Got x y ∷ record_lines (view_of (facts_at past) y) x r)
goes_handled laws past x y r pause may old kept =
    let G = facts_at past in
    let own = record_lines (view_of G y) x r in
    let inner = inner_record (view_of G y) x r in
    let new = new_record laws G x y r pause may old.joined.asked old.joined.registered in
    let next = next_flight G x.0 y.0 r may.others may.next in
    record {
      once = (
        subst (λ rs. IsFirstNew rs (records_got y.0 past)) (sym next.is) (λ of. unlike G y.0 r (records_got y.0 past) of (new of).before (old.got y.0)),
        once_lines own (lines.Got x y ∷ past) inner,
      );
      got = λ e. subst (AreMarked (after_lines G (lines.Got x y ∷ own)) e) (sym (same_got e own (lines.Got x y ∷ past) inner))
          (by e (eqb y.0 e) refl (λ of. (new of).after) next.is (marked_kept G (after_lines G (lines.Got x y ∷ own)) e (records_got e past) kept (old.got e)));
    }
  where
    by : (e : ℕ) (t : Bool) → eqb y.0 e ≡ t
        → (is_of_discovery r ≡ true → mark (after_lines (facts_at past) (lines.Got x y ∷ record_lines (view_of (facts_at past) y) x r)) y.0 r ≡ true)
        → in_flight (facts_at past) x.0 y.0 ≡ r ∷ (next_flight (facts_at past) x.0 y.0 r may.others may.next).others
        → AreMarked (after_lines (facts_at past) (lines.Got x y ∷ record_lines (view_of (facts_at past) y) x r)) e (records_got e past)
        → AreMarked (after_lines (facts_at past) (lines.Got x y ∷ record_lines (view_of (facts_at past) y) x r)) e
        (cond t (first_onto (in_flight (facts_at past) x.0 y.0) (records_got e past)) (records_got e past))
    by e true here new flight all = rw flight (
      λ of. ap (λ n. mark (after_lines (facts_at past) (lines.Got x y ∷ record_lines (view_of (facts_at past) y) x r)) n r) (sym (eqb-true y.0 e here)) ∙ new of,
      all,
    )
    by e false other new flight all = all
