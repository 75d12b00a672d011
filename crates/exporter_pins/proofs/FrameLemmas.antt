-- Frames that ascend, those of them that pass a test, and the queue of these.
use Rattle.std.proofs.Common.{◌≡◌, ◌+◌, ◌<◌, ◌≤◌, ℕ, Bool, true, false, cond, ◌&&◌, List, [], ◌∷◌, map, length, filter, refl, sym, ap, ◌∙◌, inl, inr, arith, eqb, ltb}
use Rattle.std.specs.Prelude.{◌==◌}
use Rattle.std.specs.List.{All, AllByRecursion}
use Rattle.std.specs.Ordering.{nat_cmp}
use Rattle.std.specs.declared.cmp.Ordering.TheVariants.{Less, Equal, Greater}
use Rattle.std.proofs.lemmas.Bool.{or_cases, or_left, or_right, and_from, eqb-true, ne_eqb, eq-eqb, ltb-true, cases_eq, false_from_ne_true}
use Rattle.std.proofs.lemmas.List.{length-map}
use Rattle.std.proofs.lemmas.List.Elements.{All-head, All-tail}
use Rattle.std.proofs.lemmas.List.Folds.{fold-map}
use Rattle.std.proofs.lemmas.List.Sums.{sum_by-cons, length-filter, count_by-le-length}
use Rattle.std.proofs.lemmas.Map.Keys.{sorted_head, sorted_tail}
use Rattle.xm_num.specs.declared.Frame.{Frame}
use Rattle.exporter_pins.specs.Holdings.{AreAscendingFrames, has_frame}
use Rattle.exporter_pins.specs.Layout.{Queue, IsQueued, times, numbers, frame_times}

pub less_from : (a b : ℕ) → nat_cmp a b ≡ Less → a < b
less_from a b is = by (ltb a b) (eqb a b) refl is
  where
    by : (s t : Bool) → ltb a b ≡ s → cond s Less (cond t Equal Greater) ≡ Less → a < b
    by true t less is = ltb-true a b less
    by false true less is = cc
    by false false less is = cc

pub above : (a k : ℕ) (fs : List Frame) → AllByRecursion (λ y. nat_cmp a y ≡ Less) (map (λ frame. frame.0) fs) → has_frame fs k ≡ true → a < k
above a k [] all here = cc
above a k (f ∷ fs) all here = elim (or_cases (f.0 == k) (has_frame fs k) here) [
  | inl same ↦ omega (arith, less_from a f.0 all.0, eqb-true f.0 k same)
  | inr later ↦ above a k fs all.1 later
]

-- a frame is listed once
pub none_later : (f : Frame) (fs : List Frame) → AreAscendingFrames (f ∷ fs) → has_frame fs f.0 ≡ false
none_later f fs ascends = false_from_ne_true (has_frame fs f.0) (λ here. omega (arith, above f.0 f.0 fs (sorted_head nat_cmp f.0 (map (λ frame. frame.0) fs) ascends) here))

pub tail : (f : Frame) (fs : List Frame) → AreAscendingFrames (f ∷ fs) → AreAscendingFrames fs
tail f fs ascends = sorted_tail nat_cmp f.0 (map (λ frame. frame.0) fs) ascends

pub times_once : (fs : List Frame) (k : ℕ) → AreAscendingFrames fs → frame_times fs k ≡ cond (has_frame fs k) 1 0
times_once [] k ascends = refl
times_once (f ∷ fs) k ascends =
    sum_by-cons (λ (frame : Frame). cond (frame.0 == k) 1 0) f fs ∙ rw (times_once fs k (tail f fs ascends)) (elim (cases_eq f.0 k) [
      | inl same ↦ let later : has_frame fs k ≡ false = rw (← same) (none_later f fs ascends) in rw (eq-eqb f.0 k same, later) refl
      | inr other ↦ rw (ne_eqb f.0 k other) (omega arith)
    ])

agree_on : (F G : ℕ → Bool) (fs : List Frame) → ((k : ℕ) → has_frame fs k ≡ true → F k ≡ G k) → filter (λ frame. F frame.0) fs ≡ filter (λ frame. G frame.0) fs
agree_on F G [] same = refl
agree_on F G (f ∷ fs) same =
    let head : F f.0 ≡ G f.0 = same f.0 (or_left (f.0 == f.0) (has_frame fs f.0) (eq-eqb f.0 f.0 refl)) in
    rw (head, agree_on F G fs (λ k here. same k (or_right (f.0 == k) (has_frame fs k) here))) refl

-- two tests that differ at one frame
pub record Differ (F G : ℕ → Bool) (x : ℕ) : Type 0 where
  pub one : F x ≡ true
  pub two : G x ≡ false
  pub others : (k : ℕ) → (k ≡ x → ⊥) → F k ≡ G k

module _ (F G : ℕ → Bool) (x : ℕ) (differ : Differ F G x) where
  rest : (f : Frame) (fs : List Frame) → AreAscendingFrames (f ∷ fs) → f.0 ≡ x → filter (λ frame. F frame.0) fs ≡ filter (λ frame. G frame.0) fs
  rest f fs ascends is = agree_on F G fs (λ k here. differ.others k (λ same.
      let later : has_frame fs x ≡ false = rw (← is) (none_later f fs ascends) in
      let bad : true ≡ false = sym here ∙ ap (has_frame fs) same ∙ later in cc))

  later : (f : Frame) (fs : List Frame) → has_frame (f ∷ fs) x ≡ true → (f.0 ≡ x → ⊥) → has_frame fs x ≡ true
  later f fs here other = elim (or_cases (f.0 == x) (has_frame fs x) here) [
    | inl same ↦ absurd (other (eqb-true f.0 x same))
    | inr more ↦ more
  ]

  -- one passes more
  pub length_more : (fs : List Frame) → AreAscendingFrames fs → has_frame fs x ≡ true → length (filter (λ frame. F frame.0) fs) ≡ length (filter (λ frame. G frame.0) fs) + 1
  length_more [] ascends here = cc
  length_more (f ∷ fs) ascends here = elim (cases_eq f.0 x) [
    | inl same ↦ rw (same, differ.one, differ.two, rest f fs ascends same) (omega arith)
    | inr other ↦ rw (differ.others f.0 other) (by (G f.0) (length_more fs (tail f fs ascends) (later f fs here other)))
  ]
    where
      by : (t : Bool) → length (filter (λ frame. F frame.0) fs) ≡ length (filter (λ frame. G frame.0) fs) + 1
          → length (cond t (f ∷ filter (λ frame. F frame.0) fs) (filter (λ frame. F frame.0) fs)) ≡ length (cond t (f ∷ filter (λ frame. G frame.0) fs) (filter (λ frame. G frame.0) fs)) + 1
      by true more = omega arith
      by false more = more

  -- it is the first, where none that passes is lower
  pub first_is : (fs : List Frame) → AreAscendingFrames fs → has_frame fs x ≡ true → ((k : ℕ) → has_frame fs k ≡ true → F k ≡ true → x ≤ k)
      → filter (λ frame. F frame.0) fs ≡ (record { 0 = x }) ∷ filter (λ frame. G frame.0) fs
  first_is [] ascends here least = cc
  first_is (f ∷ fs) ascends here least = elim (cases_eq f.0 x) [
    | inl same ↦ rw (same, differ.one, differ.two, rest f fs ascends same) refl
    | inr other ↦
        let more = later f fs here other in
        let below : f.0 < x = above f.0 x fs (sorted_head nat_cmp f.0 (map (λ frame. frame.0) fs) ascends) more in
        let none : F f.0 ≡ false = false_from_ne_true (F f.0) (λ passes. omega (arith, least f.0 (or_left (f.0 == f.0) (has_frame fs f.0) (eq-eqb f.0 f.0 refl)) passes)) in
        let also : G f.0 ≡ false = sym (differ.others f.0 other) ∙ none in
        rw (none, also) (first_is fs (tail f fs ascends) more (λ k within passes. least k (or_right (f.0 == k) (has_frame fs k) within) passes))
  ]

filter_all : (F : ℕ → Bool) (fs : List Frame) → ((k : ℕ) → F k ≡ true) → filter (λ frame. F frame.0) fs ≡ fs
filter_all F [] all = refl
filter_all F (f ∷ fs) all = rw (all f.0, filter_all F fs all) refl

pub length_filter_le : (F : ℕ → Bool) (fs : List Frame) → length (filter (λ frame. F frame.0) fs) ≤ length fs
length_filter_le F fs = omega (arith, length-filter (λ (frame : Frame). F frame.0) fs, count_by-le-length (λ (frame : Frame). F frame.0) fs)

-- all frames are free
pub queued_new : (F : ℕ → Bool) (fs : List Frame) (queue : Queue) → AreAscendingFrames fs → ((k : ℕ) → F k ≡ true) → ((k : ℕ) → times queue.items k ≡ frame_times fs k) → length queue.items ≡ length fs → length fs ≤ queue.room
    → IsQueued fs F queue
queued_new F fs queue ascends all each long room = record {
  room = room;
  counted = long ∙ ap (λ fs. length fs) (sym (filter_all F fs all));
  queued = λ k. each k ∙ times_once fs k ascends ∙ rw (all k) (by (has_frame fs k));
}
  where
    by : (t : Bool) → ◌≡◌ {A = ℕ} (cond t 1 0) (cond (t && true) 1 0)
    by true = refl
    by false = refl

-- the same frames are free
pub queued_same : (F G : ℕ → Bool) (fs : List Frame) (queue : Queue) → ((k : ℕ) → F k ≡ G k) → IsQueued fs F queue → IsQueued fs G queue
queued_same F G fs queue same q = record {
  room = q.room;
  counted = q.counted ∙ ap (λ fs. length fs) (agree_on F G fs (λ k here. same k));
  queued = λ k. rw (← same k) (q.queued k);
}

-- what the queue has is a free frame
pub least_of : (x k : ℕ) (items : List ℕ) → All (λ y. x ≤ y) items → 0 < times items k → x ≤ k
least_of x k [] all some = omega arith
least_of x k (y ∷ ys) all some = elim (cases_eq y k) [
  | inl same ↦ omega (arith, All-head (λ y. x ≤ y) y ys all)
  | inr other ↦
      let none : ◌≡◌ {A = ℕ} (cond (y == k) 1 0) 0 = rw (ne_eqb y k other) refl in
      least_of x k ys (All-tail (λ y. x ≤ y) y ys all) (omega (arith, sum_by-cons (λ y. cond (y == k) 1 0) y ys, none))
]

-- a frame that was queued: it is listed and free
pub queued_is : (F : ℕ → Bool) (fs : List Frame) (queue : Queue) (k : ℕ) → IsQueued fs F queue → 0 < times queue.items k → (has_frame fs k ≡ true) × (F k ≡ true)
queued_is F fs queue k q some = by (has_frame fs k) (F k) (rw (q.queued k) at some)
  where
    by : (s t : Bool) → 0 < cond (s && t) 1 0 → (s ≡ true) × (t ≡ true)
    by true true h = (refl, refl)
    by true false h = absurd (omega arith)
    by false t h = absurd (omega arith)

module _ (F G : ℕ → Bool) (x : ℕ) (differ : Differ F G x) (fs : List Frame) (ascends : AreAscendingFrames fs) (old new : Queue) where
  at_others : (k : ℕ) → (k ≡ x → ⊥) → ◌≡◌ {A = ℕ} (cond (x == k) 1 0) 0
  at_others k other = rw (ne_eqb x k (λ same. other (sym same))) refl

  at_itself : (k : ℕ) → k ≡ x → ◌≡◌ {A = ℕ} (cond (x == k) 1 0) 1
  at_itself k same = rw (eq-eqb x k (sym same)) refl

  counts : (k : ℕ) → has_frame fs x ≡ true → ◌≡◌ {A = ℕ} (cond (has_frame fs k && F k) 1 0) (cond (x == k) 1 0 + cond (has_frame fs k && G k) 1 0)
  counts k here = elim (cases_eq k x) [
    | inl same ↦ rw (at_itself k same, same, here, differ.one, differ.two) refl
    | inr other ↦ rw (at_others k other, differ.others k other) (omega arith)
  ]

  -- after the lowest was taken
  pub queued_less : length new.items + 1 ≡ length old.items → ((k : ℕ) → times old.items k ≡ cond (x == k) 1 0 + times new.items k) → new.room ≡ old.room → has_frame fs x ≡ true → IsQueued fs F old → IsQueued fs G new
  queued_less long each room here q = record {
    room = omega (arith, q.room);
    counted = omega (arith, q.counted, length_more F G x differ fs ascends here);
    queued = λ k. omega (arith, each k, q.queued k, counts k here);
  }

  pub taken_is : ((k : ℕ) → times old.items k ≡ cond (x == k) 1 0 + times new.items k) → All (λ y. x ≤ y) old.items → has_frame fs x ≡ true → IsQueued fs F old
      → filter (λ frame. F frame.0) fs ≡ (record { 0 = x }) ∷ filter (λ frame. G frame.0) fs
  taken_is each low here q = first_is F G x differ fs ascends here (λ k within passes. least_of x k old.items low (by k (and_from (has_frame fs k) (F k) within passes)))
    where
      by : (k : ℕ) → (has_frame fs k && F k) ≡ true → 0 < times old.items k
      by k both = let is : times old.items k ≡ 1 = q.queued k ∙ rw both refl in omega arith

  -- there is room for a frame that comes free
  pub queued_room : has_frame fs x ≡ true → IsQueued fs G old → length old.items < old.room
  queued_room here q = omega (arith, q.room, q.counted, length_more F G x differ fs ascends here, length_filter_le F fs)

  pub queued_more : length new.items ≡ length old.items + 1 → ((k : ℕ) → times new.items k ≡ cond (x == k) 1 0 + times old.items k) → old.room ≤ new.room → has_frame fs x ≡ true → IsQueued fs G old → IsQueued fs F new
  queued_more long each room here q = record {
    room = omega (arith, q.room);
    counted = omega (arith, q.counted, length_more F G x differ fs ascends here);
    queued = λ k. omega (arith, each k, q.queued k, counts k here);
  }

-- the numbers of frames
pub times_numbers : (fs : List Frame) (k : ℕ) → times (numbers fs) k ≡ frame_times fs k
times_numbers fs k = fold-map (λ a x. a + cond (x == k) 1 0) (λ (frame : Frame). frame.0) 0 fs

pub length_numbers : (fs : List Frame) → length (numbers fs) ≡ length fs
length_numbers fs = length-map fs (λ frame. frame.0)
