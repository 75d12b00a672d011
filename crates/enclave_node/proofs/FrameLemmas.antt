-- Frames that ascend, and what is left of them once the first ones are handed out.
use Rattle.std.proofs.Common.{◌≡◌, ◌<◌, ◌≤◌, ◌+◌, ◌*◌, ℕ, zero, suc, Bool, true, false, cond, not, ◌||◌, List, [], ◌∷◌, ◌++◌, take, drop, map, filter, refl, sym, ap, ◌∙◌, eq-eqb, ne_eqb, arith}
use Rattle.std.specs.Prelude.{◌==◌}
use Rattle.std.specs.List.{AllByRecursion, range_with_len, list_any}
use Rattle.std.specs.List.Sorted.{IsStrictlySortedBy}
use Rattle.std.specs.Ordering.{nat_cmp}
use Rattle.std.specs.Cmp.{ranked}
use Rattle.std.specs.declared.cmp.Ordering.TheVariants.{Less}
use Rattle.xm_num.specs.declared.Frame.{Frame}
use Rattle.xm_num.specs.declared.Block.{Block}
use Rattle.enclave_rules.specs.Pages.{Ascend, AreBlocks, frame_list, frames_of}

-- the frames ascend, from that number on
abbrev pub Climbs : ℕ → List Frame → Type 0
Climbs low [] = Unit {0}
Climbs low (f ∷ frames) = (low ≤ f.0) × Climbs (f.0 + 1) frames

climbs_from : (low high : ℕ) (frames : List Frame) → low ≤ high → Climbs high frames → Climbs low frames
climbs_from low high [] le climbs = tt
climbs_from low high (f ∷ frames) le climbs = let from = climbs.0 in (omega (arith, from), climbs.1)

pub climbs_filter : (p : Frame → Bool) (low : ℕ) (frames : List Frame) → Climbs low frames → Climbs low (filter p frames)
climbs_filter p low [] climbs = tt
climbs_filter p low (f ∷ frames) climbs = by (p f) (climbs_filter p (f.0 + 1) frames climbs.1)
  where
    by : (b : Bool) → Climbs (f.0 + 1) (filter p frames) → Climbs low (cond b (f ∷ filter p frames) (filter p frames))
    by true more = (climbs.0, more)
    by false more = let from = climbs.0 in climbs_from low (f.0 + 1) (filter p frames) (omega (arith, from)) more

-- ---- the frames of blocks that ascend

range_climbs : (n first low high : ℕ) (rest : List Frame) → low ≤ first → first + n ≤ high → Climbs high rest → Climbs low (frame_list (range_with_len first n) ++ rest)
range_climbs zero first low high rest le end climbs = climbs_from low high rest (omega arith) climbs
range_climbs (suc n) first low high rest le end climbs = (le, range_climbs n (first + 1) (first + 1) high rest (omega arith) (omega arith) climbs)

above : (k : ℕ) (ks : List ℕ) → AllByRecursion (λ q. nat_cmp k q ≡ Less) ks → AllByRecursion (λ q. k + 1 ≤ q) ks
above k [] all = tt
above k (q ∷ ks) all = let less : k < q = ranked k q Less (sym all.0) in (omega arith, above k ks all.1)

from_zero : (ks : List ℕ) → AllByRecursion (λ q. 0 ≤ q) ks
from_zero [] = tt
from_zero (k ∷ ks) = (omega arith, from_zero ks)

frames_climb : (low : ℕ) (blocks : List Block) → AllByRecursion (λ q. low ≤ q) (map (λ b. b.0) blocks) → Ascend (map (λ b. b.0) blocks) → Climbs (64 * low) (frames_of blocks)
unfolding IsStrictlySortedBy
frames_climb low [] from ascend = tt
frames_climb low (b ∷ blocks) from ascend =
    let first = from.0 in
    range_climbs 64 (64 * b.0) (64 * low) (64 * (b.0 + 1)) (frames_of blocks) (omega (arith, first)) (omega arith)
    (frames_climb (b.0 + 1) blocks (above b.0 (map (λ b. b.0) blocks) ascend.0) ascend.1)

pub blocks_climb : (blocks : List Block) → AreBlocks blocks → Climbs 0 (frames_of blocks)
blocks_climb blocks are = frames_climb 0 blocks (from_zero (map (λ b. b.0) blocks)) are.ascend

-- ---- frames that are handed out

-- the number is that of one of the frames
abbrev pub is_among : List Frame → ℕ → Bool
is_among frames k = list_any (λ f. f.0 == k) frames

-- tests that agree on the numbers from one on
filter_agrees : (p q : Frame → Bool) (low : ℕ) (frames : List Frame) → Climbs low frames → ((f : Frame) → low ≤ f.0 → p f ≡ q f) → filter p frames ≡ filter q frames
filter_agrees p q low [] climbs same = refl
filter_agrees p q low (f ∷ frames) climbs same =
    let from = climbs.0 in
    let rest = filter_agrees p q (f.0 + 1) frames climbs.1 (λ g le. same g (omega (arith, le, from))) in
    rw (same f from, rest) refl

all_kept : (frames : List Frame) → filter (λ f. true) frames ≡ frames
all_kept [] = refl
all_kept (f ∷ frames) = ap (λ fs. f ∷ fs) (all_kept frames)

-- without the first n the frames are those behind them
pub left_after : (n low : ℕ) (frames : List Frame) → Climbs low frames → filter (λ f. not (is_among (take n frames) f.0)) frames ≡ drop n frames
left_after zero low frames climbs = all_kept frames
left_after (suc n) low [] climbs = refl
left_after (suc n) low (f ∷ frames) climbs =
    let itself : (f.0 == f.0) ≡ true = eq-eqb f.0 f.0 refl in
    rw itself (filter_agrees (λ g. not ((f.0 == g.0) || is_among (take n frames) g.0)) (λ g. not (is_among (take n frames) g.0)) (f.0 + 1) frames climbs.1 others ∙ left_after n (f.0 + 1) frames climbs.1)
  where
    others : (g : Frame) → f.0 + 1 ≤ g.0 → not ((f.0 == g.0) || is_among (take n frames) g.0) ≡ not (is_among (take n frames) g.0)
    others g le = let other : (f.0 == g.0) ≡ false = ne_eqb f.0 g.0 (λ is. omega arith) in rw other refl

-- what passes neither of two tests, one after the other
pub filter_apart : (u d : Frame → Bool) (frames : List Frame) → filter (λ f. not (d f || u f)) frames ≡ filter (λ f. not (d f)) (filter (λ f. not (u f)) frames)
filter_apart u d [] = refl
filter_apart u d (f ∷ frames) = by (u f) (d f) refl (filter_apart u d frames)
  where
    by : (a b : Bool) → d f ≡ b → filter (λ f. not (d f || u f)) frames ≡ filter (λ f. not (d f)) (filter (λ f. not (u f)) frames)
        → cond (not (b || a)) (f ∷ filter (λ f. not (d f || u f)) frames) (filter (λ f. not (d f || u f)) frames)
        ≡ filter (λ f. not (d f)) (cond (not a) (f ∷ filter (λ f. not (u f)) frames) (filter (λ f. not (u f)) frames))
    by true true is more = more
    by true false is more = more
    by false true is more = rw is more
    by false false is more = rw is (ap (λ fs. f ∷ fs) more)

pub all_unused : (u : Frame → Bool) (frames : List Frame) → ((f : Frame) → u f ≡ false) → filter (λ f. not (u f)) frames ≡ frames
all_unused u [] none = refl
all_unused u (f ∷ frames) none = rw (none f, all_unused u frames none) refl

pub unused_same : (u w : Frame → Bool) (frames : List Frame) → ((f : Frame) → u f ≡ w f) → filter (λ f. not (u f)) frames ≡ filter (λ f. not (w f)) frames
unused_same u w [] same = refl
unused_same u w (f ∷ frames) same = rw (same f, unused_same u w frames same) refl
