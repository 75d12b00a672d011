-- What an enclave knows of ways is what it heard last.
use Rattle.std.proofs.Common.{◌≡◌, ℕ, List, [], ◌∷◌, Bool, true, false, ◌&&◌, cond, eqb, Option, None, Some, refl, sym, ap, ◌∙◌, arith}
use Rattle.std.specs.List.Sorted.{IsStrictlySortedBy}
use Rattle.std.proofs.lemmas.Bool.{eqb-true, cond_both}
use Rattle.std.proofs.lemmas.Bool.Decides.{nat_tests}
use Rattle.xm_num.specs.declared.Enclave.{Enclave}
use Rattle.xm_num.specs.Rows.{at, IsAscending}
use Rattle.enclave_rules.specs.Ways.{WaysView, place_among}
use Rattle.history_laws.specs.Laws.{HistoryLaws}
use Rattle.xemem_language.specs.declared.line.Line.{Line}
use Rattle.xemem_language.specs.declared.line.Line.TheVariants as lines
use Rattle.global_model.specs.Facts.{facts_at, fact_of, at_number}
use Rattle.history_laws.specs.Ways.{way_heard, back_heard, route_heard, asker_heard}

turned : (a b : ℕ) → eqb a b ≡ eqb b a
turned a b = grind (arith, nat_tests)

-- ---- the ways of all enclaves, changed at one

module _ (ways : ℕ → WaysView) (of : ℕ) (w : WaysView) (e : ℕ) where
  changed_has : (P : WaysView → Type 0) → P w → P (ways e) → P (at_number of w ways e)
  changed_has P new old = cond_both (eqb e of) w (ways e) P (λ is. new) (λ other. old)

  stays_here : {A : Type 0} (f : WaysView → A) → f w ≡ f (ways of) → f (at_number of w ways e) ≡ f (ways e)
  stays_here f same = by (eqb e of) refl
    where
      by : (b : Bool) → eqb e of ≡ b → f (cond b w (ways e)) ≡ f (ways e)
      by true here = same ∙ ap (λ n. f (ways n)) (sym (eqb-true e of here))
      by false other = refl

  -- where rows are changed at one number
  found_here : (part : WaysView → List (ℕ × Enclave)) (to d : ℕ) (new : Option Enclave) → at (part w) d ≡ cond (eqb to d) new (at (part (ways of)) d)
      → at (part (at_number of w ways e)) d ≡ cond (eqb e of && eqb d to) new (at (part (ways e)) d)
  found_here part to d new is = by (eqb e of) refl
    where
      by : (b : Bool) → eqb e of ≡ b → at (part (cond b w (ways e))) d ≡ cond (b && eqb d to) new (at (part (ways e)) d)
      by true here =
          is ∙ ap (λ t. cond t new (at (part (ways of)) d)) (turned to d)
          ∙ ap (λ n. cond (eqb d to) new (at (part (ways n)) d)) (sym (eqb-true e of here))
      by false other = refl

-- ---- ways back and routes ascend

AreAscending : WaysView → Type 0
AreAscending w = IsAscending w.backs × IsAscending w.routes

rows_ascend : HistoryLaws → (e : ℕ) (past : List Line) → AreAscending ((facts_at past).ways e)
unfolding AreAscending IsStrictlySortedBy
rows_ascend laws e [] = (tt, tt)
rows_ascend laws e (lines.Asked of by ∷ past) = changed_has (facts_at past).ways of.0 _ e AreAscending (rows_ascend laws of.0 past) (rows_ascend laws e past)
rows_ascend laws e (lines.Way of over ∷ past) = changed_has (facts_at past).ways of.0 _ e AreAscending (rows_ascend laws of.0 past) (rows_ascend laws e past)
rows_ascend laws e (lines.Back of to over ∷ past) =
    let old = rows_ascend laws of.0 past in
    changed_has (facts_at past).ways of.0 _ e AreAscending (laws.table.put_ascends ((facts_at past).ways of.0).backs to.0 over old.0, old.1) (rows_ascend laws e past)
rows_ascend laws e (lines.Route of to over ∷ past) =
    let old = rows_ascend laws of.0 past in
    changed_has (facts_at past).ways of.0 _ e AreAscending (old.0, laws.table.put_ascends ((facts_at past).ways of.0).routes to.0 over old.1) (rows_ascend laws e past)
rows_ascend laws e (lines.Heard of dead ∷ past) =
    let old = rows_ascend laws of.0 past in
    changed_has (facts_at past).ways of.0 _ e AreAscending
    (laws.table.less_ascends ((facts_at past).ways of.0).backs dead.0 old.0, laws.table.less_ascends ((facts_at past).ways of.0).routes dead.0 old.1) (rows_ascend laws e past)
rows_ascend laws e (_ ∷ past) = rows_ascend laws e past

-- ---- what was heard last

pub way_is_heard : (e : ℕ) (past : List Line) → ((facts_at past).ways e).way ≡ way_heard e past
way_is_heard e [] = refl
way_is_heard e (lines.Way of over ∷ past) = by (eqb e of.0) (way_is_heard e past)
  where
    by : (b : Bool) → ((facts_at past).ways e).way ≡ way_heard e past
        → (cond b (record ((facts_at past).ways of.0) { way = Some over; askers = [] }) ((facts_at past).ways e)).way ≡ cond b (Some over) (way_heard e past)
    by true more = refl
    by false more = more
way_is_heard e (lines.Asked of by ∷ past) = stays_here (facts_at past).ways of.0 _ e (λ w. w.way) refl ∙ way_is_heard e past
way_is_heard e (lines.Back of to over ∷ past) = stays_here (facts_at past).ways of.0 _ e (λ w. w.way) refl ∙ way_is_heard e past
way_is_heard e (lines.Route of to over ∷ past) = stays_here (facts_at past).ways of.0 _ e (λ w. w.way) refl ∙ way_is_heard e past
way_is_heard e (lines.Heard of dead ∷ past) = stays_here (facts_at past).ways of.0 _ e (λ w. w.way) refl ∙ way_is_heard e past
way_is_heard e (_ ∷ past) = way_is_heard e past

module _ (laws : HistoryLaws) (e d : ℕ) where
  back_at : WaysView → Option Enclave
  back_at w = at w.backs d

  pub back_is_heard : (past : List Line) → at ((facts_at past).ways e).backs d ≡ back_heard e d past
  unfolding at back_at AreAscending
  back_is_heard [] = refl
  back_is_heard (lines.Back of to over ∷ past) =
      found_here (facts_at past).ways of.0 _ e (λ w. w.backs) to.0 d (Some over) (laws.table.put_at ((facts_at past).ways of.0).backs to.0 d over)
      ∙ ap (λ found. cond (eqb e of.0 && eqb d to.0) (Some over) found) (back_is_heard past)
  back_is_heard (lines.Heard of dead ∷ past) =
      found_here (facts_at past).ways of.0 _ e (λ w. w.backs) dead.0 d None (laws.table.less_at ((facts_at past).ways of.0).backs dead.0 d (rows_ascend laws of.0 past).0)
      ∙ ap (λ found. cond (eqb e of.0 && eqb d dead.0) None found) (back_is_heard past)
  back_is_heard (lines.Asked of by ∷ past) = stays_here (facts_at past).ways of.0 _ e back_at refl ∙ back_is_heard past
  back_is_heard (lines.Way of over ∷ past) = stays_here (facts_at past).ways of.0 _ e back_at refl ∙ back_is_heard past
  back_is_heard (lines.Route of to over ∷ past) = stays_here (facts_at past).ways of.0 _ e back_at refl ∙ back_is_heard past
  back_is_heard (_ ∷ past) = back_is_heard past

  route_at : WaysView → Option Enclave
  route_at w = at w.routes d

  pub route_is_heard : (past : List Line) → at ((facts_at past).ways e).routes d ≡ route_heard e d past
  unfolding at route_at AreAscending
  route_is_heard [] = refl
  route_is_heard (lines.Route of to over ∷ past) =
      found_here (facts_at past).ways of.0 _ e (λ w. w.routes) to.0 d (Some over) (laws.table.put_at ((facts_at past).ways of.0).routes to.0 d over)
      ∙ ap (λ found. cond (eqb e of.0 && eqb d to.0) (Some over) found) (route_is_heard past)
  route_is_heard (lines.Heard of dead ∷ past) =
      found_here (facts_at past).ways of.0 _ e (λ w. w.routes) dead.0 d None (laws.table.less_at ((facts_at past).ways of.0).routes dead.0 d (rows_ascend laws of.0 past).1)
      ∙ ap (λ found. cond (eqb e of.0 && eqb d dead.0) None found) (route_is_heard past)
  route_is_heard (lines.Asked of by ∷ past) = stays_here (facts_at past).ways of.0 _ e route_at refl ∙ route_is_heard past
  route_is_heard (lines.Way of over ∷ past) = stays_here (facts_at past).ways of.0 _ e route_at refl ∙ route_is_heard past
  route_is_heard (lines.Back of to over ∷ past) = stays_here (facts_at past).ways of.0 _ e route_at refl ∙ route_is_heard past
  route_is_heard (_ ∷ past) = route_is_heard past

  -- an asker, by its place
  asker_at : WaysView → Option Enclave
  asker_at w = at w.askers d

  pub asker_is_heard : (past : List Line) → at ((facts_at past).ways e).askers d ≡ asker_heard e d past
  unfolding at asker_at
  asker_is_heard [] = refl
  asker_is_heard (lines.Asked of by ∷ past) =
      let place = place_among (fact_of ((facts_at past).enclave of.0)).parent by in
      found_here (facts_at past).ways of.0 _ e (λ w. w.askers) place d (Some by) (laws.table.put_at ((facts_at past).ways of.0).askers place d by)
      ∙ ap (λ found. cond (eqb e of.0 && eqb d place) (Some by) found) (asker_is_heard past)
  asker_is_heard (lines.Way of over ∷ past) = answered (eqb e of.0) (asker_is_heard past)
    where
      answered : (b : Bool) → at ((facts_at past).ways e).askers d ≡ asker_heard e d past
          → at (cond b (record ((facts_at past).ways of.0) { way = Some over; askers = [] }) ((facts_at past).ways e)).askers d ≡ cond b None (asker_heard e d past)
      answered true more = laws.table.none d
      answered false more = more
  asker_is_heard (lines.Back of to over ∷ past) = stays_here (facts_at past).ways of.0 _ e asker_at refl ∙ asker_is_heard past
  asker_is_heard (lines.Route of to over ∷ past) = stays_here (facts_at past).ways of.0 _ e asker_at refl ∙ asker_is_heard past
  asker_is_heard (lines.Heard of dead ∷ past) = stays_here (facts_at past).ways of.0 _ e asker_at refl ∙ asker_is_heard past
  asker_is_heard (_ ∷ past) = asker_is_heard past
