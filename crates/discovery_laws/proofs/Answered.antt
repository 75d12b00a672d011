-- What the receiver of a record makes of it, by who asks and who knows.
use Rattle.std.proofs.Common.{◌≡◌, ◌+◌, ◌<◌, ◌≤◌, ℕ, List, [], ◌∷◌, Bool, true, false, cond, ◌&&◌, ◌||◌, eqb, inl, inr, is_some, Option, None, Some, refl, sym, ap, ◌∙◌, subst, arith}
use Rattle.std.specs.Prelude.{◌++◌}
use Rattle.std.specs.Cmp.{unsigned_tied}
use Rattle.std.specs.List.{list_any}
use Rattle.std.specs.Option.{option_map_or}
use Rattle.std.proofs.lemmas.Bool.{eqb-true, eqb-false, eq-eqb, ltb-true, or_left, or_right}
use Rattle.xm_num.specs.declared.Enclave.{Enclave}
use Rattle.xm_num.specs.Rows.{at, less, IsAscending}
use Rattle.xm_num.specs.RowLaws.{RowLaws}
use Rattle.xemem_language.specs.declared.record.Record.{Record}
use Rattle.xemem_language.specs.declared.record.Body.{Body}
use Rattle.xemem_language.specs.declared.record.Body.TheVariants as bodies
use Rattle.xemem_language.specs.declared.line.Line.{Line}
use Rattle.xemem_language.specs.declared.line.Line.TheVariants as lines
use Rattle.enclave_rules.specs.View.{View}
use Rattle.enclave_rules.specs.Sending.{Server, knows_way, drop_lines, send_lines, way_to}
use Rattle.enclave_rules.specs.Steps.{knows_dead, is_stray, here_of, register_of, admit_of, told_askers, register_lines, admit_over, admit_to, body_lines, record_lines}
use Rattle.global_model.specs.Facts.{Facts, EnclaveFact, after_line, after_lines, fact_of, is_holder, is_living_enclave}
use Rattle.global_model.specs.Channels.{is_neighbour}
use Rattle.global_model.specs.Flow.{IsTree}
use Rattle.global_model.specs.Parts.{Lacks}
use Rattle.global_model.specs.Tree.{IsToward, parent_of}
use Rattle.global_model.specs.Views.{view_of}
use Rattle.discovery_laws.specs.Known.{askers_of, holds, in_flight, knows, way_at}
use Rattle.discovery_laws.specs.Laws.{FactLaws, TreeLaws}
use Rattle.discovery_laws.proofs.Flights.{one_if, count, add}
use Rattle.discovery_laws.proofs.Effects.{asked_leaves}
use Rattle.discovery_laws.proofs.Asking.{is_query, is_here, is_query_body, is_here_body, place, one_place, remembers, heres_flying, IsCounted, counted_sent, counted_got, counted_way, counted_asked}
use Rattle.discovery_laws.proofs.Knowing.{known_sent, known_got, known_asked, known_way, way_knows, way_learned}
use Rattle.discovery_laws.proofs.Newborn.{near_born, near_turned}
use Rattle.discovery_laws.proofs.Calm.{counted_knowing, counted_owed, IsAsking, IsCalm, AreCalm, calm_line, calm_lines}
use Rattle.discovery_laws.proofs.Each.{each_either, each_over}
use Rattle.discovery_laws.proofs.Serving.{all_but_calls, is_serving, serves_asked, serves_body}
use Rattle.xm_num.specs.declared.Pid.{Pid}
use Rattle.xemem_language.specs.declared.call.Call.{Call}
use Rattle.global_model.specs.Pauses.{asked_lines}

-- ---- strays

knows_none : (v : View) (e : Enclave) → v.core.heard ≡ [] → knows_dead v e ≡ false
knows_none v e none = ap (list_any (λ d. eqb d.0 e.0)) none

no_dead : (v : View) (d : Option Enclave) → v.core.heard ≡ [] → option_map_or (knows_dead v) d false ≡ false
no_dead v None none = refl
no_dead v (Some e) none = knows_none v e none

or_false : (b : Bool) → ((b || false) || false) ≡ b
or_false true = refl
or_false false = refl

-- where no death was heard of, a stray is one that comes back to its origin
pub stray_is : (v : View) (r : Record) → v.core.heard ≡ [] → is_stray v r ≡ eqb r.origin.0 v.me.0
stray_is v r none = (λ i. (eqb r.origin.0 v.me.0 || knows_none v r.origin none i) || no_dead v r.dest none i) ∙ or_false (eqb r.origin.0 v.me.0)

holder_is : (fact : Option EnclaveFact) → (fact_of fact).ns ≡ is_holder fact
holder_is None = refl
holder_is (Some fact) = refl

pub knows_way_is : (G : Facts) (y : Enclave) → knows_way (view_of G y) ≡ knows G y.0
knows_way_is G y = ap (λ b. b || is_some (way_at G y.0)) (holder_is (G.enclave y.0))

-- ---- records that neither ask for the way nor tell it

calm_register : (v : View) (from : Enclave) (r : Record) → (is_query r || is_here r) ≡ false → AreCalm (register_lines v from r)
calm_register v from r calm = (
  tt,
  each_either IsCalm v.core.holder (lines.Route v.me r.origin from ∷ lines.Sent v.me from (admit_of v.me r.origin) ∷ [])
      (send_lines v (Some from) Server r) (tt, (refl, tt)) (each_over IsCalm v (Some from) (way_to v Server) r tt (λ x. calm)),
)

calm_over : (v : View) (from d : Enclave) (r : Record) (over : Option Enclave) → (is_query r || is_here r) ≡ false → AreCalm (admit_over v from d r over)
calm_over v from d r None calm = (tt, tt)
calm_over v from d r (Some over) calm = (tt, each_over IsCalm v (Some from) (Some over) r tt (λ x. calm))

calm_admit : (v : View) (from : Enclave) (r : Record) (dest : Option Enclave) → (is_query r || is_here r) ≡ false → AreCalm (admit_to v from r dest)
calm_admit v from r None calm = (tt, tt)
calm_admit v from r (Some d) calm = each_either IsCalm (eqb d.0 v.me.0) (cond v.core.admitted (drop_lines v) (lines.Admitted v.me ∷ []))
    (admit_over v from d r (at v.ways.backs d.0)) (each_either IsCalm v.core.admitted (drop_lines v) (lines.Admitted v.me ∷ []) (tt, tt) (tt, tt))
    (calm_over v from d r (at v.ways.backs d.0) calm)

-- what serves calls asks for no way and tells none
serving_calm : (body : Body) → is_serving body ≡ true → (is_query_body body || is_here_body body) ≡ false
serving_calm bodies.NameReq is = refl
serving_calm (bodies.Named segid) is = refl
serving_calm (bodies.Unname segid) is = refl
serving_calm _ is = absurd (cc)

calm_for_calls : (line : Line) → Lacks all_but_calls line → IsCalm line
calm_for_calls (lines.Sent x y r) none = absurd none
calm_for_calls _ none = search

pub calm_asked : (v : View) (p : Pid) (call : Call) → AreCalm (asked_lines v p call)
calm_asked v p call = serves_asked IsCalm calm_for_calls (λ x y r is. serving_calm r.body is) v p call

pub calm_body : (v : View) (from : Enclave) (r : Record) → (is_query r || is_here r) ≡ false → (body : Body)
    → (is_query_body body || is_here_body body) ≡ false → AreCalm (body_lines v from r body)
calm_body v from r calm bodies.Query is = absurd (cc)
calm_body v from r calm bodies.Here is = absurd (cc)
calm_body v from r calm bodies.Register is = calm_register v from r calm
calm_body v from r calm bodies.Admit is = calm_admit v from r r.dest calm
calm_body v from r calm bodies.NameReq is = serves_body IsCalm calm_for_calls (λ x y r is. serving_calm r.body is) v from r bodies.NameReq refl (λ x. calm)
calm_body v from r calm (bodies.Named segid) is = serves_body IsCalm calm_for_calls (λ x y r is. serving_calm r.body is) v from r (bodies.Named segid) refl (λ x. calm)
calm_body v from r calm (bodies.Unname segid) is = serves_body IsCalm calm_for_calls (λ x y r is. serving_calm r.body is) v from r (bodies.Unname segid) refl (λ x. calm)
calm_body v from r calm body is = (tt, tt)

pub calm_record : (v : View) (from : Enclave) (r : Record) → (is_query r || is_here r) ≡ false → AreCalm (record_lines v from r)
calm_record v from r calm = each_either IsCalm (is_stray v r) (drop_lines v) (body_lines v from r r.body) (tt, tt) (calm_body v from r calm r.body calm)

-- ---- what a step leaves

abbrev pub none_owed : ℕ → ℕ → ℕ
none_owed a b = 0

module _ (laws : TreeLaws) (G : Facts) (x y : Enclave) (r : Record) (behind : List Record) (next : in_flight G x.0 y.0 ≡ r ∷ behind) where
  abbrev pub got : Facts
  got = after_line G (lines.Got x y)

  -- a record of another kind, or a here where the way is known
  pub handles_calm : is_query r ≡ false → (is_here r ≡ true → knows G y.0 ≡ true) → (ls : List Line) → AreCalm ls → IsAsking none_owed G
      → IsAsking none_owed (after_lines got ls)
  handles_calm query here ls calm old = calm_lines laws none_owed ls got calm (record {
    counted = counted_got none_owed none_owed (knows G) (knows G) G x y r behind next
        (λ a b. let none : add (is_query r) y.0 x.0 a b ≡ 0 = ap (λ t. add t y.0 x.0 a b) query in omega (arith, none))
        (λ a. omega arith) here old.counted;
    known = known_got G x y r behind next old.known;
    rooted = old.rooted;
  })

  -- a query, of which an answer is owed
  abbrev asked_owed : ℕ → ℕ → ℕ
  asked_owed a b = add true y.0 x.0 a b

  pub handles_query : (table : RowLaws Enclave) → is_query r ≡ true → is_here r ≡ false → IsAsking none_owed G → (t : Bool) → knows G y.0 ≡ t
      → IsAsking none_owed (after_lines got (cond t (lines.Sent y x (here_of y) ∷ []) (lines.Asked y x ∷ [])))
  handles_query table query here old t is = by t is
    where
      first : IsCounted asked_owed (knows G) got
      first = counted_got none_owed asked_owed (knows G) (knows G) G x y r behind next
          (λ a b. let some : add (is_query r) y.0 x.0 a b ≡ add true y.0 x.0 a b = ap (λ t. add t y.0 x.0 a b) query in omega (arith, some))
          (λ a. omega arith) (λ is. let clash : true ≡ false = sym is ∙ here in absurd (cc)) old.counted

      by : (t : Bool) → knows G y.0 ≡ t
          → IsAsking none_owed (after_lines got (cond t (lines.Sent y x (here_of y) ∷ []) (lines.Asked y x ∷ [])))
      by true is = record {
        counted = counted_sent asked_owed none_owed (knows G) got y x (here_of y)
            (λ a b. omega arith) (λ no_query. absurd (cc)) first;
        known = known_sent got y x (here_of y) first.within (λ is. refl) (λ here. is) (known_got G x y r behind next old.known);
        rooted = old.rooted;
      }
      by false is = record {
        counted = counted_knowing none_owed (knows G) (knows (after_line got (lines.Asked y x))) (after_line got (lines.Asked y x))
            (λ a. let same : one_if (knows (after_line got (lines.Asked y x)) a) ≡ one_if (knows G a)
            = ap (λ o. one_if (holds G a || is_some o)) (asked_leaves got y x a) in omega (arith, same))
            (counted_asked asked_owed none_owed (knows G) table got y x (λ a b. omega arith) is first);
        known = known_asked laws got y x old.rooted (known_got G x y r behind next old.known);
        rooted = old.rooted;
      }

-- ---- the askers are told

-- y owes an answer to those in the rows
abbrev pub row_owed : ℕ → ℕ → List (ℕ × Enclave) → ℕ → ℕ → ℕ
row_owed y parent rows a b = one_if (eqb a y && is_some (at rows (place parent b)))

less_first : (row : ℕ × Enclave) (rows : List (ℕ × Enclave)) → less (row ∷ rows) row.0 ≡ rows
unfolding less
less_first row rows = rw (unsigned_tied row.0 row.0 ∙ eq-eqb row.0 row.0 refl) refl

-- rows in order, each at its neighbour's place
record AreKeyed (parent : ℕ) (rows : List (ℕ × Enclave)) : Type 0 where
  ascends : IsAscending rows
  keyed : (k : ℕ) (x : Enclave) → at rows k ≡ Some x → k ≡ place parent x.0

module _ (table : RowLaws Enclave) (parent : ℕ) (row : ℕ × Enclave) (rows : List (ℕ × Enclave)) (good : AreKeyed parent (row ∷ rows)) where
  behind_at : (q : ℕ) → at rows q ≡ cond (eqb row.0 q) None (at (row ∷ rows) q)
  behind_at q = ap (λ table. at table q) (sym (less_first row rows)) ∙ table.less_at (row ∷ rows) row.0 q good.ascends

  behind_keyed : AreKeyed parent rows
  behind_keyed = record {
    ascends = subst (λ table. IsAscending table) (less_first row rows) (table.less_ascends (row ∷ rows) row.0 good.ascends);
    keyed = λ k x is. by k x (eqb row.0 k) (sym (behind_at k) ∙ is);
  }
    where
      by : (k : ℕ) (x : Enclave) (t : Bool) → cond t None (at (row ∷ rows) k) ≡ Some x → k ≡ place parent x.0
      by k x true is = absurd (cc)
      by k x false is = good.keyed k x is

  row_key : row.0 ≡ place parent row.1.0
  row_key = good.keyed row.0 row.1 (table.head row rows)

  -- the first row is owed one answer
  row_pays : (y a b : ℕ) → row_owed y parent (row ∷ rows) a b ≡ row_owed y parent rows a b + add true y row.1.0 a b
  row_pays y a b = by_y (eqb a y)
    where
      at_place : (t : Bool) → eqb row.0 (place parent b) ≡ t → (u : Bool) → eqb b row.1.0 ≡ u
          → one_if (is_some (at (row ∷ rows) (place parent b))) ≡ one_if (is_some (at rows (place parent b))) + one_if u
      at_place true here true same =
          let first : one_if (is_some (at (row ∷ rows) (place parent b))) ≡ 1
          = ap (λ k. one_if (is_some (at (row ∷ rows) k))) (sym (eqb-true row.0 (place parent b) here)) ∙ ap (λ o. one_if (is_some o)) (table.head row rows) in
          let later : one_if (is_some (at rows (place parent b))) ≡ 0
          = ap (λ o. one_if (is_some o)) (behind_at (place parent b) ∙ ap (λ t. cond t None (at (row ∷ rows) (place parent b))) here) in
          omega (arith, first, later)
      at_place true here false other =
          let same : b ≡ row.1.0 = one_place parent b row.1.0 (sym (eqb-true row.0 (place parent b) here) ∙ row_key) in
          absurd (eqb-false b row.1.0 other same)
      at_place false there true same =
          absurd (eqb-false row.0 (place parent b) there (row_key ∙ ap (place parent) (sym (eqb-true b row.1.0 same))))
      at_place false there false other =
          let later : one_if (is_some (at rows (place parent b))) ≡ one_if (is_some (at (row ∷ rows) (place parent b)))
          = ap (λ o. one_if (is_some o)) (behind_at (place parent b) ∙ ap (λ t. cond t None (at (row ∷ rows) (place parent b))) there) in
          omega (arith, later)

      by_y : (t : Bool) → one_if (t && is_some (at (row ∷ rows) (place parent b)))
          ≡ one_if (t && is_some (at rows (place parent b))) + one_if (true && (t && eqb b row.1.0))
      by_y true = at_place (eqb row.0 (place parent b)) refl (eqb b row.1.0) refl
      by_y false = omega arith

-- each of them is sent a here
tells_askers : (table : RowLaws Enclave) (v : View) (rows : List (ℕ × Enclave)) (H : Facts) → knows H v.me.0 ≡ true
    → AreKeyed v.core.parent.0 rows → IsAsking (row_owed v.me.0 v.core.parent.0 rows) H
    → IsAsking none_owed (after_lines H (told_askers v rows))
tells_askers table v [] H knowing good old = record {
  counted = counted_owed (row_owed v.me.0 v.core.parent.0 []) none_owed (knows H) H
      (λ a b. by (eqb a v.me.0) (at [] (place v.core.parent.0 b)) (table.none (place v.core.parent.0 b))) old.counted;
  known = old.known;
  rooted = old.rooted;
}
  where
    by : (t : Bool) (o : Option Enclave) → o ≡ None → one_if (t && is_some o) ≡ 0
    by true None none = refl
    by true (Some x) none = absurd (cc)
    by false o none = refl
tells_askers table v (row ∷ rows) H knowing good old =
    let K = after_line H (lines.Sent v.me row.1 (here_of v.me)) in
    tells_askers table v rows K knowing (behind_keyed table v.core.parent.0 row rows good) (record {
      counted = counted_sent (row_owed v.me.0 v.core.parent.0 (row ∷ rows)) (row_owed v.me.0 v.core.parent.0 rows) (knows H) H v.me row.1 (here_of v.me)
          (λ a b. let pays = row_pays table v.core.parent.0 row rows good v.me.0 a b in omega (arith, pays)) (λ no_query. absurd (cc)) old.counted;
      known = known_sent H v.me row.1 (here_of v.me) old.counted.within (λ is. refl) (λ here. knowing) old.known;
      rooted = old.rooted;
    })

-- ---- the way is told

-- an enclave that holds the name server was born
some_holder : (fact : Option EnclaveFact) → is_holder fact ≡ true → is_some fact ≡ true
some_holder None is = absurd (cc)
some_holder (Some fact) is = refl

some_living : (fact : Option EnclaveFact) → is_living_enclave fact ≡ true → is_some fact ≡ true
some_living None is = absurd (cc)
some_living (Some fact) is = refl

pub living_born : (G : Facts) (e : ℕ) → IsTree G → is_living_enclave (G.enclave e) ≡ true → e < G.born
living_born G e tree is = ltb-true e G.born (sym (tree.enclaves e).known ∙ some_living (G.enclave e) is)

pub holder_born : (G : Facts) (h : ℕ) → IsTree G → holds G h ≡ true → h < G.born
holder_born G h tree is = ltb-true h G.born (sym (tree.enclaves h).known ∙ some_holder (G.enclave h) is)

-- where a neighbour knows the way, its way doesn't go over one that doesn't know it; so that one's way goes over the neighbour
module _ (laws : TreeLaws) (G : Facts) (x y : Enclave) (tree : IsTree G) (near : is_neighbour G x.0 y.0 ≡ true) (old : IsAsking none_owed G) where
  pub over_neighbour : knows G x.0 ≡ true → knows G y.0 ≡ false → (h : ℕ) → holds G h ≡ true → IsToward (parent_of G) G.born y.0 h x.0
  over_neighbour knowing unknowing h is = elim (laws.sides (parent_of G) G.born x.0 y.0 h old.rooted (laws.near G x.0 y.0 near)
      (near_born G x.0 y.0 tree near) (near_born G y.0 x.0 tree (near_turned G x.0 y.0 near)) (holder_born G h tree is)) [
        | inl away ↦ absurd (back away (way_at G x.0) refl)
        | inr there ↦ there
      ]
    where
      back : IsToward (parent_of G) G.born x.0 h y.0 → (o : Option Enclave) → way_at G x.0 ≡ o → ⊥
      back away None none =
          let held : holds G x.0 ≡ true = by (holds G x.0) (ap (λ o. holds G x.0 || is_some o) (sym none) ∙ knowing) in
          away.apart (old.known.one x.0 h held is)
        where
          by : (t : Bool) → (t || false) ≡ true → t ≡ true
          by true is = refl
          by false is = absurd (cc)
      back away (Some over) found =
          let led = old.known.leads h x.0 over is found in
          let same : over.0 ≡ y.0 = led.next ∙ sym away.next in
          let clash : true ≡ false = sym (old.known.over x.0 over found) ∙ ap (knows G) same ∙ unknowing in
          cc

  pub handles_here : (past : FactLaws) (table : RowLaws Enclave) (r : Record) (behind : List Record) → in_flight G x.0 y.0 ≡ r ∷ behind
      → is_here r ≡ true → is_query r ≡ false → knows G y.0 ≡ false
      → IsAsking none_owed (after_lines G (lines.Got x y ∷ lines.Way y x
      ∷ told_askers (view_of G y) (less (askers_of G y.0) (place (parent_of G y.0) x.0)) ++ lines.Sent y x (register_of y) ∷ []))
  handles_here past table r behind next here query unknowing =
      subst (IsAsking none_owed) (sym (past.after H2 (told_askers (view_of G y) rows) (lines.Sent y x (register_of y) ∷ [])))
      (calm_line laws none_owed (after_lines H2 (told_askers (view_of G y) rows)) (lines.Sent y x (register_of y)) refl
      (tells_askers table (view_of G y) rows H2 (way_learned H1 y x) row_keyed (record {
        counted = counted_knowing (row_owed y.0 p rows) later (knows H2) H2 surely second;
        known = known_way H1 y x knowing (over_neighbour knowing unknowing) (known_got G x y r behind next old.known);
        rooted = old.rooted;
      })))
    where
      H1 : Facts
      H1 = after_line G (lines.Got x y)

      H2 : Facts
      H2 = after_line H1 (lines.Way y x)

      p : ℕ
      p = parent_of G y.0

      rows : List (ℕ × Enclave)
      rows = less (askers_of G y.0) (place p x.0)

      rows_at : (k : ℕ) → at rows k ≡ cond (eqb (place p x.0) k) None (at (askers_of G y.0) k)
      rows_at k = table.less_at (askers_of G y.0) (place p x.0) k (old.counted.ascends y.0)

      row_keyed : AreKeyed p rows
      row_keyed = record {
        ascends = table.less_ascends (askers_of G y.0) (place p x.0) (old.counted.ascends y.0);
        keyed = λ k z is. by k z (eqb (place p x.0) k) (sym (rows_at k) ∙ is);
      }
        where
          by : (k : ℕ) (z : Enclave) (t : Bool) → cond t None (at (askers_of G y.0) k) ≡ Some z → k ≡ place p z.0
          by k z true is = absurd (cc)
          by k z false is = old.counted.keyed y.0 k z is

      knowing : knows G x.0 ≡ true
      knowing = old.known.told x.0 y.0 (
          let is : heres_flying G x.0 y.0 ≡ one_if (is_here r) + count is_here behind = ap (count is_here) next in
          let one : one_if (is_here r) ≡ 1 = ap one_if here in
          omega (arith, is, one))

      later : ℕ → Bool
      later e = knows G e || eqb e y.0

      surely : (a : ℕ) → one_if (later a) ≤ one_if (knows H2 a)
      surely a = by (knows G a) (eqb a y.0) refl refl
        where
          by : (s t : Bool) → knows G a ≡ s → eqb a y.0 ≡ t → one_if (s || t) ≤ one_if (knows H2 a)
          by true t is at = let one : one_if (knows H2 a) ≡ 1 = ap one_if (way_knows H1 y x a is) in omega (arith, one)
          by false true is at = let one : one_if (knows H2 a) ≡ 1 = ap one_if (ap (knows H2) (eqb-true a y.0 at) ∙ way_learned H1 y x) in omega (arith, one)
          by false false is at = omega arith

      first : IsCounted none_owed later H1
      first = counted_got none_owed none_owed (knows G) later G x y r behind next
          (λ a b. let none : add (is_query r) y.0 x.0 a b ≡ 0 = ap (λ t. add t y.0 x.0 a b) query in omega (arith, none))
          (λ a. by (knows G a) (eqb a y.0)) (λ is. or_right (knows G y.0) (eqb y.0 y.0) (eq-eqb y.0 y.0 refl)) old.counted
        where
          by : (s t : Bool) → one_if s ≤ one_if (s || t)
          by true t = omega arith
          by false t = omega arith

      second : IsCounted (row_owed y.0 p rows) later H2
      second = counted_way none_owed (row_owed y.0 p rows) later table H1 y x
          (λ a b other. ap (λ t. one_if (t && is_some (at rows (place p b)))) other)
          (λ b. refl) most least (or_left (knows G x.0) (eqb x.0 y.0) knowing) first
        where
          here_owed : (b : ℕ) → row_owed y.0 p rows y.0 b ≡ one_if (is_some (cond (eqb (place p x.0) (place p b)) None (at (askers_of G y.0) (place p b))))
          here_owed b = ap (λ t. one_if (t && is_some (at rows (place p b)))) (eq-eqb y.0 y.0 refl) ∙ ap (λ o. one_if (is_some o)) (rows_at (place p b))

          most : (b : ℕ) → row_owed y.0 p rows y.0 b ≤ one_if (remembers G y.0 b)
          most b = let is = here_owed b in let le = by (eqb (place p x.0) (place p b)) in omega (arith, is, le)
            where
              by : (t : Bool) → one_if (is_some (cond t None (at (askers_of G y.0) (place p b)))) ≤ one_if (remembers G y.0 b)
              by true = omega arith
              by false = omega arith

          least : (b : ℕ) → one_if (remembers G y.0 b) ≤ one_if (eqb b x.0) + row_owed y.0 p rows y.0 b
          least b = let is = here_owed b in let le = by (eqb (place p x.0) (place p b)) refl (eqb b x.0) refl in omega (arith, is, le)
            where
              most_one : (t : Bool) → one_if t ≤ 1
              most_one true = omega arith
              most_one false = omega arith

              by : (t : Bool) → eqb (place p x.0) (place p b) ≡ t → (u : Bool) → eqb b x.0 ≡ u
                  → one_if (remembers G y.0 b) ≤ one_if u + one_if (is_some (cond t None (at (askers_of G y.0) (place p b))))
              by t is true same = omega (arith, most_one (remembers G y.0 b))
              by true is false other = absurd (eqb-false b x.0 other (sym (one_place p x.0 b (eqb-true (place p x.0) (place p b) is))))
              by false is false other = omega arith
