-- What the name server has: each name is of a call whose cell says so.
use Rattle.std.proofs.Common.{◌≡◌, ◌+◌, ℕ, List, ◌∷◌, Bool, true, false, cond, ◌&&◌, ◌||◌, eqb, Option, None, Some, is_some, inl, inr, refl, sym, ap, ◌∙◌, subst, arith}
use Rattle.std.proofs.lemmas.Bool.{eqb-true, eq-eqb, cases_Bool}
use Rattle.xm_num.specs.declared.Block.{Block}
use Rattle.xm_num.specs.declared.Enclave.{Enclave}
use Rattle.xm_num.specs.declared.Kind.{Kind}
use Rattle.xm_num.specs.Rows.{at, IsAscending}
use Rattle.xm_num.specs.RowLaws.{RowLaws}
use Rattle.xemem_language.specs.declared.line.Line.{Line}
use Rattle.xemem_language.specs.declared.line.Line.TheVariants as lines
use Rattle.name_server.specs.Names.{NamesState, no_names}
use Rattle.enclave_rules.specs.Exports.{segid_number}
use Rattle.global_model.specs.Facts.{EnclaveFact, Facts, after_line, as_admitted, facts_at, is_holder}
use Rattle.discovery_laws.specs.Known.{holds}
use Rattle.call_laws.specs.Cells.{CallCell, cells, is_cell, has_drawn, drawn_in, as_issued, as_drawn, as_near, as_answered, as_forgotten, makes}
use Rattle.call_laws.specs.One.{IsPair}
use Rattle.call_laws.specs.Legal.{CallAt, MayDraw}
use Rattle.call_laws.proofs.CellLines.{same_call, is_cell_itself, drawn_is}

pub record IsServer (past : List Line) : Type 0 where
  pub ascends : (e : ℕ) → IsAscending ((facts_at past).names e).pairs
  pub pairs : (e s : ℕ) (of : Enclave) → at ((facts_at past).names e).pairs s ≡ Some of → IsPair (cells past) s of.0
  pub count : (e : ℕ) → holds (facts_at past) e ≡ true → ((facts_at past).names e).drawn ≡ drawn_in past
  pub holder : (e : ℕ) → holds (facts_at past) e ≡ true → ((facts_at past).holder.0 ≡ e) × ((facts_at past).server ≡ true)
  pub none : (e : ℕ) → holds (facts_at past) e ≡ false → (facts_at past).names e ≡ no_names
  pub before : (facts_at past).server ≡ false → drawn_in past ≡ 0

-- an enclave is born where it wasn't, and holds the name server only where none does; what is written of names is at the holder
abbrev pub IsServed : Facts → Line → Type 0
IsServed G (lines.Born e kind parent ns blocks) = (is_some (G.enclave e.0) ≡ false) × ((ns && G.server) ≡ false)
IsServed G (lines.Drew e call segid) = holds G G.holder.0 ≡ true
IsServed G (lines.Unnamed segid) = holds G G.holder.0 ≡ true
IsServed G line = Unit {0}

-- ---- lines that leave the names as they are

-- the same is drawn for a call, and where it stood it stands
pub record IsStanding (c d : CallCell) : Type 0 where
  pub drew : d.drew ≡ c.drew
  pub far : d.far ≡ c.far

standing_cond : (change : CallCell → CallCell) → ((c : CallCell) → IsStanding c (change c)) → (t : Bool) (c : CallCell) → IsStanding c (cond t (change c) c)
standing_cond change same true c = same c
standing_cond change same false c = record { drew = refl; far = refl }

pair_stays : (C D : ℕ → ℕ → CallCell) (s e : ℕ) (pair : IsPair C s e) → IsStanding (C e pair.call) (D e pair.call) → IsPair D s e
pair_stays C D s e pair same = record { call = pair.call; drawn = same.drew ∙ pair.drawn; stands = same.far ∙ pair.stands }

same_server : (past : List Line) (line : Line) → ((e k : ℕ) → IsStanding (cells past e k) (cells (line ∷ past) e k))
    → ((e : ℕ) → (facts_at (line ∷ past)).names e ≡ (facts_at past).names e)
    → ((e : ℕ) → holds (facts_at (line ∷ past)) e ≡ holds (facts_at past) e)
    → (facts_at (line ∷ past)).holder ≡ (facts_at past).holder → (facts_at (line ∷ past)).server ≡ (facts_at past).server
    → drawn_in (line ∷ past) ≡ drawn_in past → IsServer past → IsServer (line ∷ past)
same_server past line cell names held holder server count old = record {
  ascends = λ e. subst (λ n. IsAscending n.pairs) (sym (names e)) (old.ascends e);
  pairs = λ e s of is.
      let pair = old.pairs e s of (ap (λ n. at n.pairs s) (sym (names e)) ∙ is) in
      pair_stays (cells past) (cells (line ∷ past)) s of.0 pair (cell of.0 pair.call);
  count = λ e is. ap (λ n. n.drawn) (names e) ∙ old.count e (sym (held e) ∙ is) ∙ sym count;
  holder = λ e is. let was = old.holder e (sym (held e) ∙ is) in (ap (λ h. h.0) holder ∙ was.0, server ∙ was.1);
  none = λ e is. names e ∙ old.none e (sym (held e) ∙ is);
  before = λ is. count ∙ old.before (sym server ∙ is);
}

-- ---- a birth

not_holder : (fact : Option EnclaveFact) → is_some fact ≡ false → is_holder fact ≡ false
not_holder None is = refl
not_holder (Some fact) is = cc

module _ (past : List Line) (e : Enclave) (kind : Kind) (parent : Enclave) (ns : Bool) (blocks : List Block) where
  abbrev pub born_fact : EnclaveFact
  born_fact = record { kind = kind; parent = parent; blocks = blocks; ns = ns; living = true; admitted = false }

  pub server_born : is_some ((facts_at past).enclave e.0) ≡ false → (ns && (facts_at past).server) ≡ false → IsServer past
      → IsServer (lines.Born e kind parent ns blocks ∷ past)
  server_born unborn one old = record {
    ascends = old.ascends;
    pairs = old.pairs;
    count = λ j is. count j (eqb j e.0) refl is;
    holder = λ j is. holder j (eqb j e.0) refl is;
    none = λ j is. none j (eqb j e.0) refl is;
    before = λ is. before ns one is;
  }
    where
      G : Facts
      G = facts_at past

      none_there : (j : ℕ) → eqb j e.0 ≡ true → holds G j ≡ false
      none_there j is = ap (holds G) (eqb-true j e.0 is) ∙ not_holder (G.enclave e.0) unborn

      count : (j : ℕ) (t : Bool) → eqb j e.0 ≡ t → is_holder (cond t (Some born_fact) (G.enclave j)) ≡ true → (G.names j).drawn ≡ drawn_in past
      count j true here is =
          ap (λ n. n.drawn) (old.none j (none_there j here)) ∙ sym (old.before (ap (λ t. t && G.server) (sym is) ∙ one))
      count j false there is = old.count j is

      holder : (j : ℕ) (t : Bool) → eqb j e.0 ≡ t → is_holder (cond t (Some born_fact) (G.enclave j)) ≡ true
          → ((cond ns e G.holder).0 ≡ j) × ((G.server || ns) ≡ true)
      holder j true here is = (ap (λ t. (cond t e G.holder).0) is ∙ sym (eqb-true j e.0 here), ap (λ t. G.server || t) is ∙ either G.server)
        where
          either : (t : Bool) → (t || true) ≡ true
          either true = refl
          either false = refl
      holder j false there is = by ns one (old.holder j is)
        where
          by : (t : Bool) → (t && G.server) ≡ false → (G.holder.0 ≡ j) × (G.server ≡ true) → ((cond t e G.holder).0 ≡ j) × ((G.server || t) ≡ true)
          by true one was = let clash : true ≡ false = sym was.1 ∙ one in absurd (cc)
          by false one was = (was.0, ap (λ t. t || false) was.1)

      none : (j : ℕ) (t : Bool) → eqb j e.0 ≡ t → is_holder (cond t (Some born_fact) (G.enclave j)) ≡ false → G.names j ≡ no_names
      none j true here is = old.none j (none_there j here)
      none j false there is = old.none j is

      before : (t : Bool) → (t && G.server) ≡ false → (G.server || t) ≡ false → drawn_in past ≡ 0
      before t one is = old.before (left G.server t is)
        where
          left : (s t : Bool) → (s || t) ≡ false → s ≡ false
          left true t is = is
          left false t is = refl

admitted_holds : (G : Facts) (e : Enclave) (j : ℕ) → holds (after_line G (lines.Admitted e)) j ≡ holds G j
admitted_holds G e j = by (eqb j e.0) refl
  where
    same : (fact : Option EnclaveFact) → is_holder (as_admitted fact) ≡ is_holder fact
    same None = refl
    same (Some fact) = refl

    by : (t : Bool) → eqb j e.0 ≡ t → is_holder (cond t (as_admitted (G.enclave e.0)) (G.enclave j)) ≡ holds G j
    by true is = same (G.enclave e.0) ∙ ap (holds G) (sym (eqb-true j e.0 is))
    by false is = refl

-- ---- names change at the holder

-- the names at the holder, and no others
at_holder : (past : List Line) (n : NamesState) (P : ℕ → NamesState → Type 0) (j : ℕ) → P (facts_at past).holder.0 n
    → ((eqb j (facts_at past).holder.0 ≡ false) → P j ((facts_at past).names j)) → P j (cond (eqb j (facts_at past).holder.0) n ((facts_at past).names j))
at_holder past n P j here there = by (eqb j (facts_at past).holder.0) refl
  where
    by : (t : Bool) → eqb j (facts_at past).holder.0 ≡ t → P j (cond t n ((facts_at past).names j))
    by true is = subst (λ i. P i n) (sym (eqb-true j (facts_at past).holder.0 is)) here
    by false is = there is

-- the line changes them so
pub names_change : (past : List Line) (line : Line) (n : NamesState) → IsServer past → holds (facts_at past) (facts_at past).holder.0 ≡ true
    → ((e : ℕ) → (facts_at (line ∷ past)).names e ≡ cond (eqb e (facts_at past).holder.0) n ((facts_at past).names e))
    → ((e : ℕ) → holds (facts_at (line ∷ past)) e ≡ holds (facts_at past) e)
    → (facts_at (line ∷ past)).holder ≡ (facts_at past).holder → (facts_at (line ∷ past)).server ≡ (facts_at past).server
    → IsAscending n.pairs → n.drawn ≡ drawn_in (line ∷ past)
    → ((s : ℕ) (of : Enclave) → at n.pairs s ≡ Some of → IsPair (cells (line ∷ past)) s of.0)
    → RowLaws Enclave → IsServer (line ∷ past)
names_change past line n old served names held holder server ascends count pairs rows = record {
  ascends = λ e. subst (λ m. IsAscending m.pairs) (sym (names e)) (at_holder past n (λ e m. IsAscending m.pairs) e ascends (λ other. old.ascends e));
  pairs = λ e s of is. at_holder past n (λ e m. at m.pairs s ≡ Some of → IsPair (cells (line ∷ past)) s of.0) e (pairs s of)
      (λ other is. absurd (let none : at ((facts_at past).names e).pairs s ≡ None
      = ap (λ m. at m.pairs s) (old.none e (others e other)) ∙ rows.none s in cc))
      (ap (λ m. at m.pairs s) (sym (names e)) ∙ is);
  count = λ e is. ap (λ m. m.drawn) (names e) ∙ at_holder past n (λ e m. holds (facts_at past) e ≡ true → m.drawn ≡ drawn_in (line ∷ past)) e (λ is. count)
      (λ other is. let clash : false ≡ true = sym (others e other) ∙ is in absurd (cc)) (sym (held e) ∙ is);
  holder = λ e is. let was = old.holder e (sym (held e) ∙ is) in (ap (λ h. h.0) holder ∙ was.0, server ∙ was.1);
  none = λ e is. names e ∙ at_holder past n (λ e m. holds (facts_at past) e ≡ false → m ≡ no_names) e
      (λ is. let clash : true ≡ false = sym served ∙ is in absurd (cc)) (λ other is. old.none e is) (sym (held e) ∙ is);
  before = λ is. let clash : true ≡ false = sym (old.holder (facts_at past).holder.0 served).1 ∙ (sym server ∙ is) in absurd (cc);
}
  where
    others : (e : ℕ) → eqb e (facts_at past).holder.0 ≡ false → holds (facts_at past) e ≡ false
    others e other = elim (cases_Bool (holds (facts_at past) e)) [
      | inl is ↦ absurd (let clash : true ≡ false = sym (eq-eqb e (facts_at past).holder.0 (sym (old.holder e is).0)) ∙ other in cc)
      | inr none ↦ none
    ]

drew_pair : (past : List Line) (of call s : ℕ) (D : ℕ → ℕ → CallCell) → MayDraw past of call s
    → ((e k : ℕ) → D e k ≡ cond (is_cell e k of call) (as_drawn s (cells past e k)) (cells past e k))
    → (q e : ℕ) → IsPair (cells past) q e → IsPair D q e
drew_pair past of call s D legal changed q e pair = by (is_cell e pair.call of call) refl
  where
    by : (t : Bool) → is_cell e pair.call of call ≡ t → IsPair D q e
    by true is =
        absurd (let same = same_call e pair.call of call is in
        let first : (cells past e pair.call).drew ≡ None
        = (λ i. (cells past (same.enclave i) (sym same.call_is i)).drew) ∙ legal.first in
        let clash : Some q ≡ None = sym pair.drawn ∙ first in cc)
    by false is =
        let now : D e pair.call ≡ cells past e pair.call
        = changed e pair.call ∙ ap (λ t. cond t (as_drawn s (cells past e pair.call)) (cells past e pair.call)) is in
        record { call = pair.call; drawn = ap (λ c. c.drew) now ∙ pair.drawn; stands = ap (λ c. c.far) now ∙ pair.stands }

pub server_line : RowLaws Enclave → (past : List Line) (line : Line) → CallAt past line → IsServed (facts_at past) line → IsServer past → IsServer (line ∷ past)
server_line rows past (lines.Born e kind parent ns blocks) legal served old = server_born past e kind parent ns blocks served.0 served.1 old
server_line rows past (lines.Admitted e) legal served old =
    same_server past (lines.Admitted e) (λ j k. record { drew = refl; far = refl }) (λ j. refl) (admitted_holds (facts_at past) e) refl refl refl old
server_line rows past (lines.Drew e call segid) legal served old =
    names_change past (lines.Drew e call segid) _ old served (λ j. refl) (λ j. refl) refl refl
    (rows.put_ascends n.pairs s e (old.ascends (facts_at past).holder.0))
    (ap (λ k. k + 1) (old.count (facts_at past).holder.0 served) ∙ omega arith)
    (λ q of is. pairs q of (eqb s q) refl (sym (rows.put_at n.pairs s q e) ∙ is)) rows
  where
    n : NamesState
    n = (facts_at past).names (facts_at past).holder.0

    s : ℕ
    s = segid_number segid

    D : ℕ → ℕ → CallCell
    D = cells (lines.Drew e call segid ∷ past)

    pairs : (q : ℕ) (of : Enclave) (t : Bool) → eqb s q ≡ t → cond t (Some e) (at n.pairs q) ≡ Some of → IsPair D q of.0
    pairs q of true is found =
        let same : e ≡ of = cc in
        subst (λ f. IsPair D q f.0) same (record {
          call = call.0;
          drawn = rw (is_cell_itself e.0 call.0) (ap (λ n. Some n) (eqb-true s q is));
          stands = rw (is_cell_itself e.0 call.0) refl;
        })
    pairs q of false is found = drew_pair past e.0 call.0 s D legal (λ a b. refl) q of.0 (old.pairs (facts_at past).holder.0 q of found)
server_line rows past (lines.Unnamed segid) legal served old =
    names_change past (lines.Unnamed segid) _ old served (λ j. refl) (λ j. refl) refl refl
    (rows.less_ascends n.pairs s (old.ascends (facts_at past).holder.0))
    (old.count (facts_at past).holder.0 served)
    (λ q of is. pairs q of (eqb s q) refl (sym (rows.less_at n.pairs s q (old.ascends (facts_at past).holder.0)) ∙ is)) rows
  where
    n : NamesState
    n = (facts_at past).names (facts_at past).holder.0

    s : ℕ
    s = segid_number segid

    kept : (q e k : ℕ) → eqb s q ≡ false → (cells past e k).drew ≡ Some q → (t : Bool) → has_drawn s (cells past e k) ≡ t
        → IsStanding (cells past e k) (cond t (as_forgotten (cells past e k)) (cells past e k))
    kept q e k other drew true is =
        absurd (let same : Some q ≡ Some s = sym drew ∙ drawn_is s (cells past e k) is in
        let number : s ≡ q = cc in let clash : true ≡ false = sym (eq-eqb s q number) ∙ other in cc)
    kept q e k other drew false is = record { drew = refl; far = refl }

    pairs : (q : ℕ) (of : Enclave) (t : Bool) → eqb s q ≡ t → cond t None (at n.pairs q) ≡ Some of → IsPair (cells (lines.Unnamed segid ∷ past)) q of.0
    pairs q of true is found = absurd (cc)
    pairs q of false is found =
        let pair = old.pairs (facts_at past).holder.0 q of found in
        pair_stays (cells past) (cells (lines.Unnamed segid ∷ past)) q of.0 pair (kept q of.0 pair.call is pair.drawn (has_drawn s (cells past of.0 pair.call)) refl)
server_line rows past (lines.Issue e p call) legal served old =
    same_server past (lines.Issue e p call)
    (λ j k. standing_cond (as_issued p.0) (λ c. record { drew = refl; far = refl }) (makes (facts_at past).hand && is_cell j k e.0 call.0) (cells past j k)) (λ j. refl) (λ j. refl) refl refl refl old
server_line rows past (lines.Named e call segid) legal served old =
    same_server past (lines.Named e call segid)
    (λ j k. standing_cond (as_near true) (λ c. record { drew = refl; far = refl }) (is_cell j k e.0 call.0) (cells past j k)) (λ j. refl) (λ j. refl) refl refl refl old
server_line rows past (lines.AnswerSegid e p call segid) legal served old =
    same_server past (lines.AnswerSegid e p call segid)
    (λ j k. standing_cond as_answered (λ c. record { drew = refl; far = refl }) (is_cell j k e.0 call.0) (cells past j k)) (λ j. refl) (λ j. refl) refl refl refl old
server_line rows past (lines.Remove e segid) legal served old =
    same_server past (lines.Remove e segid)
    (λ j k. standing_cond (as_near false) (λ c. record { drew = refl; far = refl }) (eqb j e.0 && has_drawn (segid_number segid) (cells past j k)) (cells past j k))
    (λ j. refl) (λ j. refl) refl refl refl old
server_line rows past line legal served old = same_server past line (λ j k. record { drew = refl; far = refl }) (λ j. refl) (λ j. refl) refl refl refl old
