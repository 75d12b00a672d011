-- That the names go with the exports through changes, and how often exports have a frame.
use Rattle.std.proofs.Common.{◌≡◌, ◌+◌, ◌-◌, ◌≤◌, ℕ, Bool, true, false, cond, not, ◌&&◌, ◌||◌, List, [], ◌∷◌, Option, None, Some, refl, sym, ap, ◌∙◌, ◌⊎◌, inl, inr, arith}
use Rattle.std.specs.Prelude.{◌==◌, IsSome, is_some, Result, Ok, Err, IfOk, OnOk, take}
use Rattle.std.specs.List.{All, list_any, find, sum_by}
use Rattle.std.specs.BTreeMap.{is_at}
use Rattle.std.specs.Map.{lookup, keys_of, values_of}
use Rattle.std.specs.Option.{unwrap_or, option_map}
use Rattle.std.specs.Cmp.{unsigned_tied}
use Rattle.std.specs.Ordering.{is_eq, nat_cmp}
use Rattle.std.specs.List.Sorted.{IsStrictlySortedBy}
use Rattle.std.proofs.lemmas.Bool.{ne_eqb, eq-eqb, eqb-true, cases_eq, or_cases, or_from, or_left, or_right}
use Rattle.std.proofs.lemmas.Cmp.{nat_cmp_total}
use Rattle.std.proofs.lemmas.List.Elements.{filter_agree, All-head, All-tail}
use Rattle.std.proofs.lemmas.List.Sums.{sum_by-cons}
use Rattle.std.proofs.lemmas.Map.Entries.{sum_by-insert_entry, sum_by-remove_entry}
use Rattle.std.proofs.lemmas.Map.Keys.{sorted_head, sorted_tail}
use Rattle.xm_num.specs.declared.Frame.{Frame}
use Rattle.xm_num.specs.RowLaws.{RowLaws}
use Rattle.xm_num.specs.Rows.{at, put, less, IsAscending}
use Rattle.exporter_pins.specs.Holdings.{Export, has_frame, is_covered, free_among, is_asked, has_segid, live_export, live_with, with_live, Holdings, own_all, with_owned}
use Rattle.number_pairs.specs.Pairs.{has_pair}
use Rattle.exporter_pins.specs.Layout.{Names, FrameUse, IsTable, AreMade, is_made_by, cover_sum, cover_at, frame_times, AreCounted, segid_in, name_at, free_in}
use Rattle.exporter_pins.proofs.FrameLemmas.{less_from}

abbrev weight : Export → ℕ
weight e = cond (is_some e.segid) 0 1

-- sums over the exports after a change
module _ (f : Export → ℕ) where
  pub sum_put : (exports : List (ℕ × Export)) (k : ℕ) (e : Export) → IsAscending exports
      → sum_by f (values_of (put exports k e)) + unwrap_or (option_map f (at exports k)) 0 ≡ sum_by f (values_of exports) + f e
  unfolding at put
  sum_put exports k e ascends = sum_by-insert_entry f nat_cmp_total exports k e ascends

  pub sum_less : (exports : List (ℕ × Export)) (k : ℕ) → sum_by f (values_of (less exports k)) + unwrap_or (option_map f (at exports k)) 0 ≡ sum_by f (values_of exports)
  unfolding at less
  sum_less exports k = sum_by-remove_entry f (is_at (nat_cmp k)) exports

times_is : (fs : List Frame) (k : ℕ) → has_frame fs k ≡ not (frame_times fs k == 0)
times_is [] k = refl
times_is (f ∷ fs) k = rw (sum_by-cons (λ (frame : Frame). cond (frame.0 == k) 1 0) f fs, times_is fs k) (by (f.0 == k) (frame_times fs k))
  where
    by : (t : Bool) (n : ℕ) → (t || not (n == 0)) ≡ not (cond t 1 0 + n == 0)
    by true n = rw (ne_eqb (1 + n) 0 (λ is. omega arith)) refl
    by false n = let e : 0 + n ≡ n = omega arith in rw e refl

pub covered_is : (exports : List (ℕ × Export)) (k : ℕ) → is_covered exports k ≡ not (cover_sum exports k == 0)
covered_is [] k = refl
covered_is (row ∷ rows) k = rw (sum_by-cons (λ (e : Export). frame_times e.frames k) row.1 (values_of rows), covered_is rows k, times_is row.1.frames k) (by (frame_times row.1.frames k) (cover_sum rows k))
  where
    by : (m n : ℕ) → (not (m == 0) || not (n == 0)) ≡ not (m + n == 0)
    by m n = elim (cases_eq m 0) [
      | inl same ↦ let e : m + n ≡ n = omega arith in rw (e, same) refl
      | inr other ↦ rw (ne_eqb m 0 other, ne_eqb (m + n) 0 (λ is. other (omega arith))) refl
    ]

-- the free frames are the free_in ones
pub free_is : (u : FrameUse) (exports : List (ℕ × Export)) → ((k : ℕ) → cover_at u.covers k ≡ cover_sum exports k) → free_in u ≡ free_among u.frames u.owners (is_covered exports)
free_is u exports same = filter_agree _ _ (λ (frame : Frame). rw (same frame.0, covered_is exports frame.0) refl) u.frames

pub has_is : (n : ℕ) (o : Option ℕ) → has_segid n o ≡ true → o ≡ Some n
has_is n None h = cc
has_is n (Some m) h = ap Some (eqb-true m n h)

is_has : (n : ℕ) (o : Option ℕ) → o ≡ Some n → has_segid n o ≡ true
is_has n None h = cc
is_has n (Some m) h = let same : m ≡ n = cc in eq-eqb m n same

-- an export that is asked
pub asked_is : (o : Option Export) → is_asked o ≡ true → segid_in o ≡ None
asked_is None h = cc
asked_is (Some e) h = by e.segid h
  where
    by : (s : Option ℕ) → not (is_some s) ≡ true → s ≡ None
    by None h = refl
    by (Some n) h = cc

not_live : (n : ℕ) (test : ℕ → Bool) (rows : List (ℕ × Export)) → find (λ row. has_segid n row.1.segid) rows ≡ None → segid_in (lookup test rows) ≡ Some n → ⊥
not_live n test [] h is = cc
not_live n test (r ∷ rs) h is = by (has_segid n r.1.segid) (test r.0) refl h is (not_live n test rs)
  where
    by : (s t : Bool) → has_segid n r.1.segid ≡ s → cond s (Some r) (find (λ row. has_segid n row.1.segid) rs) ≡ None → segid_in (cond t (Some r.1) (lookup test rs)) ≡ Some n
        → (find (λ row. has_segid n row.1.segid) rs ≡ None → segid_in (lookup test rs) ≡ Some n → ⊥) → ⊥
    by true t live h is more = cc
    by false true live h is more = let bad : true ≡ false = sym (is_has n r.1.segid is) ∙ live in cc
    by false false live h is more = more h is

pub unused_name : (n k : ℕ) (rows : List (ℕ × Export)) → live_export rows n ≡ None → segid_in (at rows k) ≡ Some n → ⊥
unfolding at
unused_name n k rows h is = not_live n _ rows h is

no_exports : IsAscending {V = Export} []
unfolding IsStrictlySortedBy
no_exports = tt

module _ (laws : RowLaws Export) where
  none_after : (r : ℕ × Export) (rs : List (ℕ × Export)) → IsAscending (r ∷ rs) → at rs r.0 ≡ None
  none_after r [] ascends = laws.none r.0
  none_after r (q ∷ rs) ascends = laws.before q rs r.0 (sorted_tail nat_cmp r.0 (keys_of (q ∷ rs)) ascends) (less_from r.0 q.0 (sorted_head nat_cmp r.0 (keys_of (q ∷ rs)) ascends).0)

  -- what stands behind the first row stands in all
  behind : (n k : ℕ) (r : ℕ × Export) (rs : List (ℕ × Export)) → IsAscending (r ∷ rs) → segid_in (at rs k) ≡ Some n → (k ≡ r.0 → ⊥) × (segid_in (at (r ∷ rs) k) ≡ Some n)
  behind n k r rs ascends is = elim (cases_eq k r.0) [
    | inl same ↦ absurd (let bad : None ≡ Some n = rw (same, none_after r rs ascends) at is in (cc))
    | inr other ↦ (other, rw (laws.later r rs k other) is)
  ]

  pub find_none : (n : ℕ) (rows : List (ℕ × Export)) → IsAscending rows → ((k : ℕ) → segid_in (at rows k) ≡ Some n → ⊥) → live_export rows n ≡ None
  find_none n [] ascends none = refl
  find_none n (r ∷ rs) ascends none = by (has_segid n r.1.segid) refl (find_none n rs (sorted_tail nat_cmp r.0 (keys_of rs) ascends) (λ k is. none k (behind n k r rs ascends is).1))
    where
      by : (s : Bool) → has_segid n r.1.segid ≡ s → live_export rs n ≡ None → cond s (Some r) (live_export rs n) ≡ None
      by true live more = absurd (none r.0 (rw (laws.head r rs) (has_is n r.1.segid live)))
      by false live more = more

  pub find_some : (n call : ℕ) (e : Export) (rows : List (ℕ × Export)) → IsAscending rows → at rows call ≡ Some e → e.segid ≡ Some n → ((k : ℕ) → segid_in (at rows k) ≡ Some n → k ≡ call) → live_export rows n ≡ Some (call, e)
  find_some n call e [] ascends here is one = absurd (let bad : None ≡ Some e = sym (laws.none call) ∙ here in (cc))
  find_some n call e (r ∷ rs) ascends here is one = elim (cases_eq call r.0) [
    | inl same ↦
        let found : Some r.1 ≡ Some e = sym (laws.head r rs) ∙ rw same at here in
        let value : r.1 ≡ e = cc in
        let live : has_segid n r.1.segid ≡ true = rw value (is_has n e.segid is) in
        rw live (λ i. Some (sym same i, value i))
    | inr other ↦ by other (has_segid n r.1.segid) refl (find_some n call e rs (sorted_tail nat_cmp r.0 (keys_of rs) ascends) (sym (laws.later r rs call other) ∙ here) is (λ k at_k. one k (behind n k r rs ascends at_k).1))
  ]
    where
      by : (call ≡ r.0 → ⊥) → (s : Bool) → has_segid n r.1.segid ≡ s → live_export rs n ≡ Some (call, e) → cond s (Some r) (live_export rs n) ≡ Some (call, e)
      by other true live more = absurd (other (sym (one r.0 (rw (laws.head r rs) (has_is n r.1.segid live)))))
      by other false live more = more

  pub table_new : (names : Names) → names.entries ≡ [] → IsTable [] names 0
  table_new names none = record {
    ascending = no_exports;
    named = λ n call is. let bad : None ≡ Some call = rw none at is in cc;
    live = λ n call is. let bad : None ≡ Some n = rw (laws.none call) at is in cc;
    counted = refl;
    room = omega arith;
  }

  module _ (rows : List (ℕ × Export)) (names : Names) (asked : ℕ) (table : IsTable rows names asked) where
    -- more room, and the same names
    pub table_reserved : (new : Names) → ((n : ℕ) → name_at new.entries n ≡ name_at names.entries n) → names.spare ≤ new.spare → IsTable rows new asked
    table_reserved new same room = record {
      ascending = table.ascending;
      named = λ n call is. table.named n call (sym (same n) ∙ is);
      live = λ n call is. same n ∙ table.live n call is;
      counted = table.counted;
      room = omega (arith, table.room);
    }

    module _ (c : ℕ) (e : Export) where
      put_here : at (put rows c e) c ≡ Some e
      put_here = laws.put_at rows c c e ∙ rw (eq-eqb c c refl) refl

      put_there : (k : ℕ) → (k ≡ c → ⊥) → at (put rows c e) k ≡ at rows k
      put_there k other = laws.put_at rows c k e ∙ rw (ne_eqb c k (λ same. other (sym same))) refl

      less_here : at (less rows c) c ≡ None
      less_here = laws.less_at rows c c table.ascending ∙ rw (eq-eqb c c refl) refl

      less_there : (k : ℕ) → (k ≡ c → ⊥) → at (less rows c) k ≡ at rows k
      less_there k other = laws.less_at rows c k table.ascending ∙ rw (ne_eqb c k (λ same. other (sym same))) refl

      pub table_put : (new : Names) → at rows c ≡ None → e.segid ≡ None → ((n : ℕ) → name_at new.entries n ≡ name_at names.entries n) → asked + 1 ≤ new.spare → IsTable (put rows c e) new (asked + 1)
      table_put new fresh none same room = record {
        ascending = laws.put_ascends rows c e table.ascending;
        named = λ n call is. segid call ∙ table.named n call (sym (same n) ∙ is);
        live = λ n call is. same n ∙ table.live n call (sym (segid call) ∙ is);
        counted = omega (arith, table.counted, sum_put weight rows c e table.ascending, rest, one);
        room = room;
      }
        where
          segid : (k : ℕ) → segid_in (at (put rows c e) k) ≡ segid_in (at rows k)
          segid k = elim (cases_eq k c) [
            | inl same ↦ rw (same, put_here, fresh) none
            | inr other ↦ rw (put_there k other) refl
          ]

          rest : unwrap_or (option_map weight (at rows c)) 0 ≡ 0
          rest = rw fresh refl

          one : weight e ≡ 1
          one = rw none refl

      module _ (here : at rows c ≡ Some e) where
        weighs : unwrap_or (option_map weight (at rows c)) 0 ≡ weight e
        weighs = rw here refl

        pub table_less_live : (n : ℕ) (new : Names) → e.segid ≡ Some n → ((m : ℕ) → name_at new.entries m ≡ cond (n == m) None (name_at names.entries m)) → names.spare ≤ new.spare → IsTable (less rows c) new asked
        table_less_live n new is fewer room = record {
          ascending = laws.less_ascends rows c table.ascending;
          named = λ m k name. named m k name (n == m) refl (sym (fewer m) ∙ name);
          live = λ m k segid. live m k segid (cases_eq k c);
          counted = omega (arith, table.counted, sum_less weight rows c, weighs, none);
          room = omega (arith, table.room);
        }
          where
            none : weight e ≡ 0
            none = rw is refl

            at_c : segid_in (at rows c) ≡ Some n
            at_c = rw here is

            named : (m k : ℕ) → name_at new.entries m ≡ Some k → (t : Bool) → (n == m) ≡ t → cond t None (name_at names.entries m) ≡ Some k → segid_in (at (less rows c) k) ≡ Some m
            named m k name true same h = cc
            named m k name false other h = elim (cases_eq k c) [
              | inl is_c ↦ absurd (let both : Some n ≡ Some m = sym at_c ∙ ap (λ k. segid_in (at rows k)) (sym is_c) ∙ table.named m k h in let same : n ≡ m = cc in let bad : true ≡ false = sym (eq-eqb n m same) ∙ other in (cc))
              | inr not_c ↦ rw (less_there k not_c) (table.named m k h)
            ]

            live : (m k : ℕ) → segid_in (at (less rows c) k) ≡ Some m → (k ≡ c) ⊎ (k ≡ c → ⊥) → name_at new.entries m ≡ Some k
            live m k segid (inl is_c) = absurd (let bad : None ≡ Some m = rw (is_c, less_here) at segid in (cc))
            live m k segid (inr not_c) =
                let old : name_at names.entries m ≡ Some k = table.live m k (rw (less_there k not_c) at segid) in
                let apart : n ≡ m → ⊥ = λ same. not_c (let both : Some k ≡ Some c = sym old ∙ ap (name_at names.entries) (sym same) ∙ table.live n c at_c in (cc)) in
                fewer m ∙ rw (ne_eqb n m apart) old

        module _ (none : e.segid ≡ None) where
          one : weight e ≡ 1
          one = rw none refl

          not_c : (m k : ℕ) → segid_in (at rows k) ≡ Some m → k ≡ c → ⊥
          not_c m k is same = let bad : None ≡ Some m = sym none ∙ rw (same, here) at is in cc

          pub some_asked : 1 ≤ asked
          some_asked = omega (arith, table.counted, sum_less weight rows c, weighs, one)

          pub table_less_asked : IsTable (less rows c) names (asked - 1)
          table_less_asked = record {
            ascending = laws.less_ascends rows c table.ascending;
            named = λ m k is. let old = table.named m k is in rw (less_there k (not_c m k old)) old;
            live = λ m k segid. elim (cases_eq k c) [
              | inl is_c ↦ absurd (let bad : None ≡ Some m = rw (is_c, less_here) at segid in (cc))
              | inr other ↦ table.live m k (rw (less_there k other) at segid)
            ];
            counted = omega (arith, table.counted, sum_less weight rows c, weighs, one);
            room = omega (arith, table.room);
          }

    pub table_settled : (c n : ℕ) (e : Export) (new : Names) → at rows c ≡ Some e → e.segid ≡ None → live_export rows n ≡ None → ((m : ℕ) → name_at new.entries m ≡ cond (n == m) (Some c) (name_at names.entries m)) → names.spare ≤ new.spare + 1
        → IsTable (put rows c (live_with n e)) new (asked - 1)
    table_settled c n e new here none free more room = record {
      ascending = laws.put_ascends rows c (live_with n e) table.ascending;
      named = λ m k name. named m k (n == m) refl (sym (more m) ∙ name);
      live = λ m k segid. live m k segid (cases_eq k c);
      counted = omega (arith, table.counted, sum_put weight rows c (live_with n e) table.ascending, weighs c e here, one c e here none);
      room = omega (arith, table.room);
    }
      where
        named : (m k : ℕ) (t : Bool) → (n == m) ≡ t → cond t (Some c) (name_at names.entries m) ≡ Some k → segid_in (at (put rows c (live_with n e)) k) ≡ Some m
        named m k true same h = let is_c : c ≡ k = cc in rw (← is_c, put_here c (live_with n e)) (ap Some (eqb-true n m same))
        named m k false other h = let old = table.named m k h in rw (put_there c (live_with n e) k (not_c c e here none m k old)) old

        live : (m k : ℕ) → segid_in (at (put rows c (live_with n e)) k) ≡ Some m → (k ≡ c) ⊎ (k ≡ c → ⊥) → name_at new.entries m ≡ Some k
        live m k segid (inl is_c) =
            let both : Some n ≡ Some m = rw (is_c, put_here c (live_with n e)) at segid in
            let same : n ≡ m = cc in
            more m ∙ rw (eq-eqb n m same) (ap Some (sym is_c))
        live m k segid (inr other) =
            let old : segid_in (at rows k) ≡ Some m = rw (put_there c (live_with n e) k other) at segid in
            more m ∙ rw (ne_eqb n m (λ same. unused_name n k rows free (old ∙ ap Some (sym same)))) (table.live m k old)

-- the calls of each process go with the exports
module _ (laws : RowLaws Export) (rows : List (ℕ × Export)) (made : List (ℕ × ℕ)) (are : AreMade rows made) (c : ℕ) where
  pub made_put : (e : Export) (new : List (ℕ × ℕ)) → at rows c ≡ None → ((p k : ℕ) → has_pair new p k ≡ ((e.pid == p) && (c == k) || has_pair made p k)) → AreMade (put rows c e) new
  made_put e new fresh more p k = elim (cases_eq c k) [
    | inl same ↦
        let none : has_pair made p k ≡ false = are p k ∙ rw (← same, fresh) refl in
        more p k ∙ rw (laws.put_at rows c k e, eq-eqb c k same, none) (by (e.pid == p))
    | inr other ↦ more p k ∙ rw (laws.put_at rows c k e, ne_eqb c k other, are p k) (skip (e.pid == p) _)
  ]
    where
      by : (t : Bool) → (t && true || false) ≡ t
      by true = refl
      by false = refl

      skip : (t u : Bool) → (t && false || u) ≡ u
      skip true u = refl
      skip false u = refl

  -- a pair was added, and taken out again
  pub made_back : (pid : ℕ) (more new : List (ℕ × ℕ)) → at rows c ≡ None → ((p k : ℕ) → has_pair more p k ≡ ((pid == p) && (c == k) || has_pair made p k)) → ((p k : ℕ) → has_pair new p k ≡ (not ((pid == p) && (c == k)) && has_pair more p k)) → AreMade rows new
  made_back pid more new fresh first second p k = elim (cases_eq c k) [
    | inl same ↦
        let none : is_made_by p (at rows k) ≡ false = rw (← same, fresh) refl in
        second p k ∙ rw (first p k, eq-eqb c k same, are p k, none) (by (pid == p))
    | inr other ↦ second p k ∙ rw (first p k, ne_eqb c k other, are p k) (skip (pid == p) _)
  ]
    where
      by : (t : Bool) → (not (t && true) && (t && true || false)) ≡ false
      by true = refl
      by false = refl

      skip : (t u : Bool) → (not (t && false) && (t && false || u)) ≡ u
      skip true u = refl
      skip false u = refl

  module _ (e : Export) (here : at rows c ≡ Some e) where
    pub made_less : (new : List (ℕ × ℕ)) → IsAscending rows → ((p k : ℕ) → has_pair new p k ≡ (not ((e.pid == p) && (c == k)) && has_pair made p k)) → AreMade (less rows c) new
    made_less new ascends fewer p k = elim (cases_eq c k) [
      | inl same ↦
          let its : is_made_by p (at rows k) ≡ (e.pid == p) = rw (← same, here) refl in
          fewer p k ∙ rw (laws.less_at rows c k ascends, eq-eqb c k same, are p k, its) (by (e.pid == p))
      | inr other ↦ fewer p k ∙ rw (laws.less_at rows c k ascends, ne_eqb c k other, are p k) (skip (e.pid == p) _)
    ]
      where
        by : (t : Bool) → (not (t && true) && t) ≡ false
        by true = refl
        by false = refl

        skip : (t u : Bool) → (not (t && false) && u) ≡ u
        skip true u = refl
        skip false u = refl

    pub made_settled : (n : ℕ) → AreMade (put rows c (live_with n e)) made
    made_settled n p k = elim (cases_eq c k) [
      | inl same ↦
          let its : is_made_by p (at rows k) ≡ (e.pid == p) = rw (← same, here) refl in
          are p k ∙ rw (laws.put_at rows c k (live_with n e), eq-eqb c k same, its) refl
      | inr other ↦ are p k ∙ rw (laws.put_at rows c k (live_with n e), ne_eqb c k other) refl
    ]

-- an export that passes a test, by its call and by the rows
module _ (laws : RowLaws Export) (P : Export → Bool) where
  pub some_row : (rows : List (ℕ × Export)) (k : ℕ) (e : Export) → at rows k ≡ Some e → P e ≡ true → list_any (λ row. P row.1) rows ≡ true
  some_row [] k e here is = absurd (let bad : None ≡ Some e = sym (laws.none k) ∙ here in (cc))
  some_row (r ∷ rs) k e here is = elim (cases_eq k r.0) [
    | inl same ↦
        let found : Some r.1 ≡ Some e = sym (laws.head r rs) ∙ rw same at here in
        let value : r.1 ≡ e = cc in
        or_left (P r.1) (list_any (λ row. P row.1) rs) (rw value is)
    | inr other ↦ or_right (P r.1) (list_any (λ row. P row.1) rs) (some_row rs k e (sym (laws.later r rs k other) ∙ here) is)
  ]

  pub no_row : (rows : List (ℕ × Export)) → IsAscending rows → ((k : ℕ) (e : Export) → at rows k ≡ Some e → P e ≡ false) → list_any (λ row. P row.1) rows ≡ false
  no_row [] ascends none = refl
  no_row (r ∷ rs) ascends none = or_from (P r.1) (list_any (λ row. P row.1) rs) (none r.0 r.1 (laws.head r rs)) (no_row rs (sorted_tail nat_cmp r.0 (keys_of rs) ascends) (λ k e here. none k e (later k e here)))
    where
      later : (k : ℕ) (e : Export) → at rs k ≡ Some e → at (r ∷ rs) k ≡ Some e
      later k e here = elim (cases_eq k r.0) [
        | inl same ↦ absurd (let bad : None ≡ Some e = rw (same, none_after laws r rs ascends) at here in (cc))
        | inr other ↦ laws.later r rs k other ∙ here
      ]

-- the covers go with the exports
pub counted_put : (rows : List (ℕ × Export)) (c : ℕ) (e : Export) (old new : List (ℕ × ℕ)) → AreCounted old rows → IsAscending rows → at rows c ≡ None → ((k : ℕ) → cover_at new k ≡ frame_times e.frames k + cover_at old k) → AreCounted new (put rows c e)
counted_put rows c e old new counted ascends fresh more k =
    let rest : unwrap_or (option_map (λ (e : Export). frame_times e.frames k) (at rows c)) 0 ≡ 0 = rw fresh refl in
    omega (arith, more k, counted k, rest, sum_put (λ (e : Export). frame_times e.frames k) rows c e ascends)

pub counted_less : (rows : List (ℕ × Export)) (c : ℕ) (e : Export) (old new : List (ℕ × ℕ)) → AreCounted old rows → at rows c ≡ Some e → ((k : ℕ) → cover_at old k ≡ frame_times e.frames k + cover_at new k) → AreCounted new (less rows c)
counted_less rows c e old new counted here fewer k =
    let rest : unwrap_or (option_map (λ (e : Export). frame_times e.frames k) (at rows c)) 0 ≡ frame_times e.frames k = rw here refl in
    omega (arith, fewer k, counted k, rest, sum_less (λ (e : Export). frame_times e.frames k) rows c)

pub counted_none : (rows : List (ℕ × Export)) (c : ℕ) (covers : List (ℕ × ℕ)) → AreCounted covers rows → at rows c ≡ None → AreCounted covers (less rows c)
counted_none rows c covers counted none k =
    let rest : unwrap_or (option_map (λ (e : Export). frame_times e.frames k) (at rows c)) 0 ≡ 0 = rw none refl in
    omega (arith, counted k, rest, sum_less (λ (e : Export). frame_times e.frames k) rows c)

pub counted_live : (rows : List (ℕ × Export)) (c n : ℕ) (covers : List (ℕ × ℕ)) → AreCounted covers rows → IsAscending rows → AreCounted covers (with_live c n rows)
counted_live rows c n covers counted ascends k = by (at rows c) refl
  where
    by : (o : Option Export) → at rows c ≡ o → cover_at covers k ≡ cover_sum (with_live c n rows) k
    by None none = rw none (counted k)
    by (Some e) here =
        let rest : unwrap_or (option_map (λ (e : Export). frame_times e.frames k) (at rows c)) 0 ≡ frame_times e.frames k = rw here refl in
        rw here (omega (arith, counted k, rest, sum_put (λ (e : Export). frame_times e.frames k) rows c (live_with n e) ascends))

pub times_within : (rows : List (ℕ × Export)) (c : ℕ) (e : Export) (covers : List (ℕ × ℕ)) → AreCounted covers rows → at rows c ≡ Some e → (k : ℕ) → frame_times e.frames k ≤ cover_at covers k
times_within rows c e covers counted here k =
    let rest : unwrap_or (option_map (λ (e : Export). frame_times e.frames k) (at rows c)) 0 ≡ frame_times e.frames k = rw here refl in
    omega (arith, counted k, rest, sum_less (λ (e : Export). frame_times e.frames k) rows c)

pub all_owned : (owners : List (ℕ × ℕ)) (pid : ℕ) (fs : List Frame) → All (λ frame. at owners frame.0 ≡ Some pid) fs → (k : ℕ) → has_frame fs k ≡ true → IsSome (at owners k)
all_owned owners pid [] all k here = cc
all_owned owners pid (f ∷ fs) all k here = elim (or_cases (f.0 == k) (has_frame fs k) here) [
  | inl same ↦ rw (← eqb-true f.0 k same, All-head (λ (frame : Frame). at owners frame.0 ≡ Some pid) f fs all) refl
  | inr later ↦ all_owned owners pid fs (All-tail (λ (frame : Frame). at owners frame.0 ≡ Some pid) f fs all) k later
]

pub no_some : {A : Type 0} (o : Option A) → ((x : A) → o ≡ Some x → ⊥) → o ≡ None
no_some None none = refl
no_some (Some x) none = absurd (none x refl)

pub asked_room : (laws : RowLaws Export) (rows : List (ℕ × Export)) (names : Names) (asked : ℕ) → IsTable rows names asked → (c : ℕ) → is_asked (at rows c) ≡ true → 1 ≤ asked
asked_room laws rows names asked table c is = by (at rows c) refl is
  where
    by : (o : Option Export) → at rows c ≡ o → is_asked o ≡ true → 1 ≤ asked
    by None here is = cc
    by (Some e) here is = some_asked laws rows names asked table c e here (asked_is (Some e) is)

-- after frames were given
pub given_is : {E : Type 0} (r : Result (List Frame) E) (u v : FrameUse) (h : Holdings) (pid n : ℕ) (free : List Frame) → IfOk r (λ list. list ≡ take n free) → IfOk r (λ list. v.owners ≡ own_all u.owners pid list) → v.frames ≡ u.frames
    → OnOk r (◌≡◌ {A = Holdings} (record h { frames = v.frames; owners = v.owners }) (with_owned pid (take n free) (record h { frames = u.frames; owners = u.owners })))
given_is (Ok list) u v h pid n free is owners frames =
    let all : v.owners ≡ own_all u.owners pid (take n free) = owners ∙ ap (own_all u.owners pid) is in
    (λ i. record h { frames = frames i; owners = all i })
given_is (Err e) u v h pid n free is owners frames = tt

-- what was written in the place of an export
pub written_is : (laws : RowLaws Export) (rows new : List (ℕ × Export)) (c : ℕ) (e : Export) → IsAscending rows → IsAscending new → ((q : ℕ) → at new q ≡ cond (is_eq (nat_cmp c q)) (Some e) (at rows q)) → new ≡ put rows c e
written_is laws rows new c e ascends also is = laws.same new (put rows c e) also (laws.put_ascends rows c e ascends) (λ q. is q ∙ rw (unsigned_tied c q, laws.put_at rows c q e) refl)
