-- That what is kept with the frames goes with them through changes.
use Rattle.std.proofs.Common.{◌≡◌, ◌+◌, ◌<◌, ◌≤◌, ℕ, Bool, true, false, cond, not, ◌&&◌, ◌||◌, ◌++◌, List, [], ◌∷◌, length, filter, Option, None, Some, refl, sym, ap, ◌∙◌, inl, inr, arith}
use Rattle.std.specs.Prelude.{◌==◌, IsSome, is_some}
use Rattle.std.specs.List.{All}
use Rattle.std.specs.Map.{lookup, remove_entry, keys_of}
use Rattle.std.specs.Option.{unwrap_or}
use Rattle.std.specs.Ordering.{nat_cmp}
use Rattle.std.proofs.lemmas.List.Folds.{list_any-append}
use Rattle.std.proofs.lemmas.Map.Keys.{sorted_head, sorted_tail}
use Rattle.std.specs.List.Sorted.{IsStrictlySortedBy}
use Rattle.std.proofs.lemmas.Bool.{ne_eqb, eq-eqb, cases_eq, eqb-true, or_cases, or_left}
use Rattle.xm_num.specs.declared.Frame.{Frame}
use Rattle.xm_num.specs.RowLaws.{RowLaws}
use Rattle.xm_num.specs.Rows.{at, put, less, IsAscending}
use Rattle.exporter_pins.specs.Holdings.{AreAscendingFrames, has_frame, is_free_frame, own_all, owned_by_others}
use Rattle.exporter_pins.specs.Layout.{Queue, FrameUse, IsQueued, IsIndexed, times, frame_times, cover_at, has_cover, is_owner, free_in}
use Rattle.exporter_pins.proofs.FrameLemmas.{Differ, queued_new, queued_same, queued_is, queued_less, queued_more, queued_room, taken_is, length_filter_le, less_from}

-- no process has a free frame, and no export
pub free_parts : (owners : List (ℕ × ℕ)) (covered : ℕ → Bool) (k : ℕ) → is_free_frame owners covered k ≡ true → (at owners k ≡ None) × (covered k ≡ false)
free_parts owners covered k free = by (at owners k) (covered k) free
  where
    by : (o : Option ℕ) (t : Bool) → (not (is_some o) && not t) ≡ true → (o ≡ None) × (t ≡ false)
    by None false h = (refl, refl)
    by None true h = cc
    by (Some p) t h = cc

owned_not_free : (owners : List (ℕ × ℕ)) (covered : ℕ → Bool) (k : ℕ) → IsSome (at owners k) → is_free_frame owners covered k ≡ false
owned_not_free owners covered k some = by (at owners k) some
  where
    by : (o : Option ℕ) → IsSome o → (not (is_some o) && not (covered k)) ≡ false
    by None some = cc
    by (Some p) some = refl

no_rows : IsAscending {V = ℕ} []
unfolding IsStrictlySortedBy
no_rows = tt

pub none_is : {A : Type 0} (o : Option A) → is_some o ≡ false → o ≡ None
none_is None h = refl
none_is (Some x) h = cc

-- a process's frames, without one that it has
module _ (pid : ℕ) where
  others_lookup : (test : ℕ → Bool) (rows : List (ℕ × ℕ)) → lookup test rows ≡ Some pid → owned_by_others pid (remove_entry test rows) ≡ owned_by_others pid rows
  others_lookup test [] h = cc
  others_lookup test (e ∷ es) h = by (others_lookup test es) (test e.0) h
    where
      by : (lookup test es ≡ Some pid → owned_by_others pid (remove_entry test es) ≡ owned_by_others pid es) → (t : Bool) → cond t (Some e.1) (lookup test es) ≡ Some pid
          → owned_by_others pid (cond t es (e ∷ remove_entry test es)) ≡ owned_by_others pid (e ∷ es)
      by more true h = let same : e.1 ≡ pid = cc in rw (eq-eqb e.1 pid same) refl
      by more false h = rw (more h) refl

  shorter : (test : ℕ → Bool) (rows : List (ℕ × ℕ)) → lookup test rows ≡ Some pid → length (remove_entry test rows) < length rows
  shorter test [] h = cc
  shorter test (e ∷ es) h = by (shorter test es) (test e.0) h
    where
      by : (lookup test es ≡ Some pid → length (remove_entry test es) < length es) → (t : Bool) → cond t (Some e.1) (lookup test es) ≡ Some pid → length (cond t es (e ∷ remove_entry test es)) < length (e ∷ es)
      by more true h = omega arith
      by more false h = omega (arith, more h)

  pub others_less : (rows : List (ℕ × ℕ)) (k : ℕ) → at rows k ≡ Some pid → owned_by_others pid (less rows k) ≡ owned_by_others pid rows
  unfolding at less
  others_less rows k h = others_lookup _ rows h

  pub length_less : (rows : List (ℕ × ℕ)) (k : ℕ) → at rows k ≡ Some pid → length (less rows k) < length rows
  unfolding at less
  length_less rows k h = shorter _ rows h

  pub owner_is : (o : Option ℕ) → is_owner pid o ≡ true → o ≡ Some pid
  owner_is None h = cc
  owner_is (Some p) h = let same = eqb-true p pid h in ap Some same

module _ (laws : RowLaws ℕ) where
  pub less_others : (covers : List (ℕ × ℕ)) (x : ℕ) → IsAscending covers → (k : ℕ) → (k ≡ x → ⊥) → cover_at (less covers x) k ≡ cover_at covers k
  less_others covers x ascends k other =
      let e : at (less covers x) k ≡ at covers k = laws.less_at covers x k ascends ∙ rw (ne_eqb x k (λ same. other (sym same))) refl in
      ap (λ o. unwrap_or o 0) e

  pub less_itself : (covers : List (ℕ × ℕ)) (x : ℕ) → IsAscending covers → cover_at (less covers x) x ≡ 0
  less_itself covers x ascends =
      let e : at (less covers x) x ≡ None = laws.less_at covers x x ascends ∙ rw (eq-eqb x x refl) refl in
      ap (λ o. unwrap_or o 0) e

  -- a frame that was given and taken again
  pub taken_back : (rows : List (ℕ × ℕ)) (x pid : ℕ) → IsAscending rows → at rows x ≡ None → less (put rows x pid) x ≡ rows
  taken_back rows x pid ascends none = laws.same (less (put rows x pid) x) rows (laws.less_ascends (put rows x pid) x put_up) ascends (λ k. laws.less_at (put rows x pid) x k put_up ∙ elim (cases_eq x k) [
    | inl same ↦ rw (eq-eqb x k same, ← same, none) refl
    | inr other ↦ rw (ne_eqb x k other, laws.put_at rows x k pid, ne_eqb x k other) refl
  ])
    where
      put_up : IsAscending (put rows x pid)
      put_up = laws.put_ascends rows x pid ascends

  -- who has what, once a process has these frames too
  pub own_all_at : (rows : List (ℕ × ℕ)) (pid : ℕ) (fs : List Frame) (k : ℕ) → at (own_all rows pid fs) k ≡ cond (has_frame fs k) (Some pid) (at rows k)
  own_all_at rows pid [] k = refl
  own_all_at rows pid (f ∷ fs) k = own_all_at (put rows f.0 pid) pid fs k ∙ rw (laws.put_at rows f.0 k pid) (by (f.0 == k) (has_frame fs k))
    where
      by : (s t : Bool) → cond t (Some pid) (cond s (Some pid) (at rows k)) ≡ cond (s || t) (Some pid) (at rows k)
      by true true = refl
      by true false = refl
      by false t = refl

  -- frames that were given and are all taken again
  pub all_back : (rows new given : List (ℕ × ℕ)) (pid : ℕ) (fs : List Frame) → IsAscending rows → IsAscending new → given ≡ own_all rows pid fs → ((k : ℕ) → has_frame fs k ≡ true → at rows k ≡ None)
      → ((k : ℕ) → at new k ≡ cond (has_frame fs k && is_owner pid (at given k)) None (at given k)) → new ≡ rows
  all_back rows new given pid fs ascends also is fresh back = laws.same new rows also ascends (λ k. back k ∙ rw (is, own_all_at rows pid fs k) (by k (has_frame fs k) (fresh k)))
    where
      by : (k : ℕ) (t : Bool) → (t ≡ true → at rows k ≡ None) → cond (t && is_owner pid (cond t (Some pid) (at rows k))) None (cond t (Some pid) (at rows k)) ≡ at rows k
      by k true none = rw (eq-eqb pid pid refl, none refl) refl
      by k false none = refl

  -- one frame more was looked at, which the process has, or hasn't
  pub step_has : (now before : List (ℕ × ℕ)) (f pid k : ℕ) (t : Bool) → IsAscending now → at now f ≡ Some pid → at now k ≡ cond (t && is_owner pid (at before k)) None (at before k)
      → at (less now f) k ≡ cond ((t || (f == k)) && is_owner pid (at before k)) None (at before k)
  step_has now before f pid k t ascends has was = laws.less_at now f k ascends ∙ elim (cases_eq f k) [
    | inl same ↦ rw (eq-eqb f k same) (by t (at before k) (sym was ∙ rw (← same) has))
    | inr other ↦ rw (ne_eqb f k other, was) (all t)
  ]
    where
      by : (t : Bool) (o : Option ℕ) → cond (t && is_owner pid o) None o ≡ Some pid → None ≡ cond ((t || true) && is_owner pid o) None o
      by true None h = refl
      by false None h = refl
      by true (Some p) h = on (p == pid) refl h
        where
          on : (b : Bool) → (p == pid) ≡ b → cond b None (Some p) ≡ Some pid → None ≡ cond b None (Some p)
          on true is h = refl
          on false is h = let same : p ≡ pid = cc in absurd (let bad : true ≡ false = sym (eq-eqb p pid same) ∙ is in (cc))
      by false (Some p) h = let same : p ≡ pid = cc in rw (eq-eqb p pid same) refl

      all : (t : Bool) → cond (t && is_owner pid (at before k)) None (at before k) ≡ cond ((t || false) && is_owner pid (at before k)) None (at before k)
      all true = refl
      all false = refl

  pub step_hasnt : (now before : List (ℕ × ℕ)) (f pid k : ℕ) (t : Bool) → is_owner pid (at now f) ≡ false → at now k ≡ cond (t && is_owner pid (at before k)) None (at before k)
      → at now k ≡ cond ((t || (f == k)) && is_owner pid (at before k)) None (at before k)
  step_hasnt now before f pid k t hasnt was = was ∙ elim (cases_eq f k) [
    | inl same ↦ rw (eq-eqb f k same) (by t (at before k) (let here : is_owner pid (at now k) ≡ false = rw (← same) hasnt in rw was at here))
    | inr other ↦ rw (ne_eqb f k other) (all t)
  ]
    where
      by : (t : Bool) (o : Option ℕ) → is_owner pid (cond (t && is_owner pid o) None o) ≡ false → cond (t && is_owner pid o) None o ≡ cond ((t || true) && is_owner pid o) None o
      by true o h = refl
      by false o h = rw h refl

      all : (t : Bool) → cond (t && is_owner pid (at before k)) None (at before k) ≡ cond ((t || false) && is_owner pid (at before k)) None (at before k)
      all true = refl
      all false = refl

  -- no row is the process's
  pub others_all : (pid : ℕ) (rows : List (ℕ × ℕ)) → IsAscending rows → ((k : ℕ) → is_owner pid (at rows k) ≡ false) → owned_by_others pid rows ≡ rows
  others_all pid [] ascends none = refl
  others_all pid (e ∷ es) ascends none =
      let first : (e.1 == pid) ≡ false = rw (laws.head e es) at (none e.0) in
      let up = sorted_tail nat_cmp e.0 (keys_of es) ascends in
      rw (
        first,
        others_all pid es up (λ k. elim (cases_eq k e.0) [
          | inl same ↦ rw (none_after e es ascends k same) refl
          | inr other ↦ rw (laws.later e es k other) at (none k)
        ]),
      ) refl
    where
      none_after : (e : ℕ × ℕ) (es : List (ℕ × ℕ)) → IsAscending (e ∷ es) → (k : ℕ) → k ≡ e.0 → at es k ≡ None
      none_after e [] ascends k same = laws.none k
      none_after e (d ∷ es) ascends k same = laws.before d es k (sorted_tail nat_cmp e.0 (keys_of (d ∷ es)) ascends) (omega (arith, less_from e.0 d.0 (sorted_head nat_cmp e.0 (keys_of (d ∷ es)) ascends).0))

  pub kept_new : (frames : List Frame) (queue : Queue) → AreAscendingFrames frames → ((k : ℕ) → times queue.items k ≡ frame_times frames k) → length queue.items ≡ length frames → length frames ≤ queue.room
      → IsIndexed (record { frames = frames; owners = []; covers = [] }) queue
  kept_new frames queue ascends each long room = record {
    ascending = ascends;
    rows = no_rows;
    free = queued_new (is_free_frame [] (has_cover [])) frames queue ascends (λ k. rw (laws.none k) refl) each long room;
    owned = λ k some. absurd (let bad : IsSome {T = ℕ} None = rw (laws.none k) at some in (cc));
    covered = λ k some. absurd (let none : cover_at [] k ≡ 0 = rw (laws.none k) refl in omega arith);
  }

  module _ (u : FrameUse) (old : Queue) (kept : IsIndexed u old) where
    abbrev Free : ℕ → Bool
    Free = is_free_frame u.owners (has_cover u.covers)

    -- the queue has the same
    pub kept_same : (new : Queue) → length new.items ≡ length old.items → ((k : ℕ) → times new.items k ≡ times old.items k) → old.room ≤ new.room
        → IsIndexed u new
    kept_same new long each room = record {
      ascending = kept.ascending;
      rows = kept.rows;
      free = record { room = omega (arith, kept.free.room); counted = long ∙ kept.free.counted; queued = λ k. each k ∙ kept.free.queued k };
      owned = kept.owned;
      covered = kept.covered;
    }

    -- there is room for what was in the queue
    pub room_back : (new : Queue) → length new.items + 1 ≡ length old.items → new.room ≡ old.room → length new.items < new.room
    room_back new long room = omega (arith, kept.free.room, kept.free.counted, length_filter_le Free u.frames)

    module _ (x pid : ℕ) where
      abbrev given : List (ℕ × ℕ)
      given = put u.owners x pid

      abbrev Given : ℕ → Bool
      Given = is_free_frame given (has_cover u.covers)

      at_given : at given x ≡ Some pid
      at_given = laws.put_at u.owners x x pid ∙ rw (eq-eqb x x refl) refl

      at_other : (k : ℕ) → (k ≡ x → ⊥) → at given k ≡ at u.owners k
      at_other k other = laws.put_at u.owners x k pid ∙ rw (ne_eqb x k (λ same. other (sym same))) refl

      differ : Free x ≡ true → Differ Free Given x
      differ free = record { one = free; two = rw at_given refl; others = λ k other. rw (at_other k other) refl }

      -- the lowest was in the queue
      pub popped : (new : Queue) → ((k : ℕ) → times old.items k ≡ cond (x == k) 1 0 + times new.items k) → (has_frame u.frames x ≡ true) × (Free x ≡ true)
      popped new each = queued_is Free u.frames old x kept.free (let one : ◌≡◌ {A = ℕ} (cond (x == x) 1 0) 1 = rw (eq-eqb x x refl) refl in omega (arith, each x))

      pub fresh : (new : Queue) → ((k : ℕ) → times old.items k ≡ cond (x == k) 1 0 + times new.items k) → at u.owners x ≡ None
      fresh new each = (free_parts u.owners (has_cover u.covers) x (popped new each).1).0

      pub kept_given : (new : Queue) → length new.items + 1 ≡ length old.items → ((k : ℕ) → times old.items k ≡ cond (x == k) 1 0 + times new.items k) → new.room ≡ old.room
          → IsIndexed (record { frames = u.frames; owners = given; covers = u.covers }) new
      kept_given new long each room =
          let was = popped new each in
          record {
            ascending = kept.ascending;
            rows = laws.put_ascends u.owners x pid kept.rows;
            free = queued_less Free Given x (differ was.1) u.frames kept.ascending old new long each room was.0 kept.free;
            owned = λ k some. elim (cases_eq k x) [
              | inl same ↦ ap (has_frame u.frames) same ∙ was.0
              | inr other ↦ kept.owned k (rw (at_other k other) at some)
            ];
            covered = kept.covered;
          }

      pub taken : (new : Queue) → ((k : ℕ) → times old.items k ≡ cond (x == k) 1 0 + times new.items k) → All (λ y. x ≤ y) old.items
          → free_in u ≡ (record { 0 = x }) ∷ free_in (record { frames = u.frames; owners = given; covers = u.covers })
      taken new each low = let was = popped new each in taken_is Free Given x (differ was.1) u.frames kept.ascending old new each low was.0 kept.free

    module _ (x pid : ℕ) (has : at u.owners x ≡ Some pid) where
      abbrev freed : List (ℕ × ℕ)
      freed = less u.owners x

      abbrev Freed : ℕ → Bool
      Freed = is_free_frame freed (has_cover u.covers)

      at_freed : at freed x ≡ None
      at_freed = laws.less_at u.owners x x kept.rows ∙ rw (eq-eqb x x refl) refl

      at_rest : (k : ℕ) → (k ≡ x → ⊥) → at freed k ≡ at u.owners k
      at_rest k other = laws.less_at u.owners x k kept.rows ∙ rw (ne_eqb x k (λ same. other (sym same))) refl

      listed : has_frame u.frames x ≡ true
      listed = kept.owned x (rw has refl)

      uncovered : cover_at u.covers x ≡ 0 → Differ Freed Free x
      uncovered none = record { one = rw (at_freed, none) refl; two = rw has refl; others = λ k other. rw (at_rest k other) refl }

      pub free_room : cover_at u.covers x ≡ 0 → length old.items < old.room
      free_room none = queued_room Freed Free x (uncovered none) u.frames kept.ascending old old listed kept.free

      kept_freed : (new : Queue) → IsQueued u.frames Freed new
          → IsIndexed (record { frames = u.frames; owners = freed; covers = u.covers }) new
      kept_freed new queued =
          record {
            ascending = kept.ascending;
            rows = laws.less_ascends u.owners x kept.rows;
            free = queued;
            owned = λ k some. elim (cases_eq k x) [
              | inl same ↦ ap (has_frame u.frames) same ∙ listed
              | inr other ↦ kept.owned k (rw (at_rest k other) at some)
            ];
            covered = kept.covered;
          }

      pub kept_freed_covered : (cover_at u.covers x ≡ 0 → ⊥)
          → IsIndexed (record { frames = u.frames; owners = freed; covers = u.covers }) old
      kept_freed_covered some = kept_freed old (queued_same Free Freed u.frames old same kept.free)
        where
          covers : has_cover u.covers x ≡ true
          covers = rw (ne_eqb (cover_at u.covers x) 0 some) refl

          same : (k : ℕ) → Free k ≡ Freed k
          same k = elim (cases_eq k x) [
            | inl is ↦ rw (is, has, at_freed, covers) refl
            | inr other ↦ rw (at_rest k other) refl
          ]

      pub kept_freed_queued : (new : Queue) → cover_at u.covers x ≡ 0 → length new.items ≡ length old.items + 1 → ((k : ℕ) → times new.items k ≡ cond (x == k) 1 0 + times old.items k) → old.room ≤ new.room
          → IsIndexed (record { frames = u.frames; owners = freed; covers = u.covers }) new
      kept_freed_queued new none long each room = kept_freed new (queued_more Freed Free x (uncovered none) u.frames kept.ascending old new long each room listed kept.free)

    -- other covers, and the same frames are free
    pub kept_covers : (covers : List (ℕ × ℕ)) → ((k : ℕ) → Free k ≡ is_free_frame u.owners (has_cover covers) k) → ((k : ℕ) → 0 < cover_at covers k → has_frame u.frames k ≡ true)
        → IsIndexed (record { frames = u.frames; owners = u.owners; covers = covers }) old
    kept_covers covers same within = record {
      ascending = kept.ascending;
      rows = kept.rows;
      free = queued_same Free (is_free_frame u.owners (has_cover covers)) u.frames old same kept.free;
      owned = kept.owned;
      covered = within;
    }

    -- covers that differ at one frame
    module _ (covers : List (ℕ × ℕ)) (x : ℕ) (others : (k : ℕ) → (k ≡ x → ⊥) → cover_at covers k ≡ cover_at u.covers k) (listed : has_frame u.frames x ≡ true) where
      within : (k : ℕ) → 0 < cover_at covers k → has_frame u.frames k ≡ true
      within k some = elim (cases_eq k x) [
        | inl same ↦ ap (has_frame u.frames) same ∙ listed
        | inr other ↦ kept.covered k (rw (others k other) at some)
      ]

      -- of a frame that a process has
      pub kept_owned : IsSome (at u.owners x) → IsIndexed (record { frames = u.frames; owners = u.owners; covers = covers }) old
      kept_owned some = kept_covers covers same within
        where
          same : (k : ℕ) → Free k ≡ is_free_frame u.owners (has_cover covers) k
          same k = elim (cases_eq k x) [
            | inl is ↦ rw (is, owned_not_free u.owners (has_cover u.covers) x some, owned_not_free u.owners (has_cover covers) x some) refl
            | inr other ↦ rw (others k other) refl
          ]

      -- of a frame that stays covered
      pub kept_still : 0 < cover_at u.covers x → 0 < cover_at covers x → IsIndexed (record { frames = u.frames; owners = u.owners; covers = covers }) old
      kept_still was still = kept_covers covers same within
        where
          test : (n : ℕ) → 0 < n → not (n == 0) ≡ true
          test n some = rw (ne_eqb n 0 (λ none. omega arith)) refl

          same : (k : ℕ) → Free k ≡ is_free_frame u.owners (has_cover covers) k
          same k = elim (cases_eq k x) [
            | inl is ↦ rw (is, test (cover_at u.covers x) was, test (cover_at covers x) still) refl
            | inr other ↦ rw (others k other) refl
          ]

      -- of a frame that comes free
      module _ (was : 0 < cover_at u.covers x) (none : cover_at covers x ≡ 0) (no_owner : at u.owners x ≡ None) where
        uncovers : Differ (is_free_frame u.owners (has_cover covers)) Free x
        uncovers = record {
          one = rw (no_owner, none) refl;
          two = rw (no_owner, ne_eqb (cover_at u.covers x) 0 (λ none. omega arith)) refl;
          others = λ k other. rw (others k other) refl;
        }

        pub uncovered_room : length old.items < old.room
        uncovered_room = queued_room (is_free_frame u.owners (has_cover covers)) Free x uncovers u.frames kept.ascending old old listed kept.free

        pub kept_uncovered : (new : Queue) → length new.items ≡ length old.items + 1 → ((k : ℕ) → times new.items k ≡ cond (x == k) 1 0 + times old.items k) → old.room ≤ new.room
            → IsIndexed (record { frames = u.frames; owners = u.owners; covers = covers }) new
        kept_uncovered new long each room = record {
          ascending = kept.ascending;
          rows = kept.rows;
          free = queued_more (is_free_frame u.owners (has_cover covers)) Free x uncovers u.frames kept.ascending old new long each room listed kept.free;
          owned = kept.owned;
          covered = within;
        }

  -- frames that were free had no process
  pub were_free : (u : FrameUse) (taken rest : List Frame) (k : ℕ) → free_in u ≡ taken ++ rest → has_frame taken k ≡ true → at u.owners k ≡ None
  were_free u taken rest k is here = (free_parts u.owners (has_cover u.covers) k (passes u.frames (rw (is, list_any-append (λ (frame : Frame). frame.0 == k) taken rest) (or_left (has_frame taken k) (has_frame rest k) here)))).0
    where
      F : ℕ → Bool
      F = is_free_frame u.owners (has_cover u.covers)

      passes : (fs : List Frame) → has_frame (filter (λ frame. F frame.0) fs) k ≡ true → F k ≡ true
      passes [] here = cc
      passes (f ∷ fs) here = by (passes fs) (F f.0) refl here
        where
          by : (has_frame (filter (λ frame. F frame.0) fs) k ≡ true → F k ≡ true) → (t : Bool) → F f.0 ≡ t → has_frame (cond t (f ∷ filter (λ frame. F frame.0) fs) (filter (λ frame. F frame.0) fs)) k ≡ true → F k ≡ true
          by more true is here = elim (or_cases (f.0 == k) (has_frame (filter (λ frame. F frame.0) fs) k) here) [
            | inl same ↦ sym (ap F (eqb-true f.0 k same)) ∙ is
            | inr later ↦ more later
          ]
          by more false is here = more here
