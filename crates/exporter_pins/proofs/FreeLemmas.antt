-- The free frames: those that came back, and those that were never taken out.
use Rattle.std.proofs.Common.{◌≡◌, ◌+◌, ◌<◌, ◌≤◌, ℕ, zero, suc, List, [], ◌∷◌, ◌++◌, map, drop, length, true, false, Option, None, Some, inl, inr, refl, sym, ap, ◌∙◌, arith, add-one, subst, Bor, get_or, ltb, is_some, option_copied}
use Rattle.std.specs.Prelude.{IfSome, IfNone, slice_get}
use Rattle.std.specs.List.{All, AllByRecursion}
use Rattle.std.specs.Ordering.{nat_cmp}
use Rattle.std.specs.declared.cmp.Ordering.TheVariants.{Less}
use Rattle.std.proofs.lemmas.Bool.{leb-true, ltb-true, le-leb, cases_order}
use Rattle.std.proofs.lemmas.List.Elements.{All-append, All-cons, All-nil}
use Rattle.std.proofs.lemmas.Map.Keys.{sorted_head, sorted_tail}
use Rattle.std.proofs.lemmas.Option.{slice_get_within, slice_get_read}
use Rattle.xm_num.specs.declared.Frame.{Frame}
use Rattle.exporter_pins.specs.Holdings.{AreAscendingFrames}
use Rattle.exporter_pins.specs.Layout.{times, numbers, is_at_most}
use Rattle.exporter_pins.proofs.FrameLemmas.{less_from, least_of}

-- what was read there
pub copied_at : (xs : List Frame) (r : Option (Bor Frame)) (o : Option Frame) (i : ℕ) (f : Frame) → is_some r ≡ ltb i (length xs) → IfSome r (λ x. x.now ≡ get_or xs i x.now) → o ≡ option_copied r → o ≡ Some f → slice_get xs i ≡ Some f
copied_at xs None o i f some read copied is = let bad : None ≡ Some f = sym copied ∙ is in cc
copied_at xs (Some x) o i f some read copied is = slice_get_read xs (length xs) i x.now refl (ltb-true i (length xs) (sym some)) read ∙ sym copied ∙ is

drop_suc : (fs : List Frame) (i : ℕ) (f : Frame) → slice_get fs i ≡ Some f → drop i fs ≡ f ∷ drop (suc i) fs
drop_suc [] i f is = cc
drop_suc (x ∷ fs) zero f is = let same : x ≡ f = cc in ap (λ y. y ∷ fs) same
drop_suc (x ∷ fs) (suc i) f is = drop_suc fs i f is

pub drop_is : (fs : List Frame) (i : ℕ) (f : Frame) → slice_get fs i ≡ Some f → drop i fs ≡ f ∷ drop (i + 1) fs
drop_is fs i f is = drop_suc fs i f is ∙ ap (λ n. f ∷ drop n fs) (sym (add-one i))

pub left_after : (fs : List Frame) (i : ℕ) (f : Frame) → slice_get fs i ≡ Some f → AreAscendingFrames (drop i fs) → AreAscendingFrames (drop (i + 1) fs) × (i + 1 ≤ length fs)
left_after fs i f is ascends =
    (sorted_tail nat_cmp f.0 (map (λ frame. frame.0) (drop (i + 1) fs)) (subst AreAscendingFrames (drop_is fs i f is) ascends), omega (arith, slice_get_within fs i f is))

least_left : (low : ℕ) (fs : List Frame) → AllByRecursion (λ y. nat_cmp low y ≡ Less) (map (λ frame. frame.0) fs) → All (λ x. low ≤ x) (numbers fs)
least_left low [] all = All-nil (λ x. low ≤ x)
least_left low (f ∷ fs) all = All-cons (λ x. low ≤ x) f.0 (numbers fs) (omega (arith, less_from low f.0 all.0)) (least_left low fs all.1)

-- the first is the least of those that are left
first_left : (fs : List Frame) (i : ℕ) (f : Frame) → slice_get fs i ≡ Some f → AreAscendingFrames (drop i fs) → All (λ x. f.0 ≤ x) (numbers (drop i fs))
first_left fs i f is ascends =
    subst (λ xs. All (λ x. f.0 ≤ x) (numbers xs)) (sym (drop_is fs i f is))
    (All-cons (λ x. f.0 ≤ x) f.0 (numbers (drop (i + 1) fs)) (omega arith)
    (least_left f.0 (drop (i + 1) fs) (sorted_head nat_cmp f.0 (map (λ frame. frame.0) (drop (i + 1) fs)) (subst AreAscendingFrames (drop_is fs i f is) ascends))))

all_lower : (a b : ℕ) (xs : List ℕ) → a ≤ b → All (λ x. b ≤ x) xs → All (λ x. a ≤ x) xs
all_lower a b xs le all k d low = omega (arith, all k d low)

-- the lowest is one that came back
pub lowest_back : (fs : List Frame) (i : ℕ) (f : Frame) (back : List ℕ) (low r : Option ℕ) → slice_get fs i ≡ Some f → AreAscendingFrames (drop i fs) → IfSome low (λ n. 0 < times back n) → is_at_most low f.0 ≡ true
    → IfSome r (λ item. All (λ x. item ≤ x) back) → IfSome r (λ item. All (λ x. item ≤ x) (back ++ numbers (drop i fs)))
lowest_back fs i f back low None is ascends here most all = tt
lowest_back fs i f back None (Some item) is ascends here most all = cc
lowest_back fs i f back (Some low) (Some item) is ascends here most all =
    All-append (λ x. item ≤ x) back (numbers (drop i fs)) all
    (all_lower item f.0 (numbers (drop i fs)) (omega (arith, least_of item low back all here, leb-true low f.0 most)) (first_left fs i f is ascends))

-- the lowest is the first of those that are left
pub lowest_left : (fs : List Frame) (i : ℕ) (f : Frame) (back : List ℕ) (low : Option ℕ) → slice_get fs i ≡ Some f → AreAscendingFrames (drop i fs) → IfSome low (λ n. All (λ x. n ≤ x) back) → IfNone low (back ≡ []) → is_at_most low f.0 ≡ false
    → All (λ x. f.0 ≤ x) (back ++ numbers (drop i fs))
lowest_left fs i f back None is ascends least none above = subst (λ xs. All (λ x. f.0 ≤ x) (xs ++ numbers (drop i fs))) (sym none) (first_left fs i f is ascends)
lowest_left fs i f back (Some low) is ascends least none above =
    All-append (λ x. f.0 ≤ x) back (numbers (drop i fs)) (all_lower f.0 low back le least) (first_left fs i f is ascends)
  where
    le : f.0 ≤ low
    le = elim (cases_order f.0 low) [
      | inl same ↦ omega arith
      | inr (inl less) ↦ omega arith
      | inr (inr more) ↦ absurd (let bad : true ≡ false = sym (le-leb low f.0 (omega arith)) ∙ above in (cc))
    ]
