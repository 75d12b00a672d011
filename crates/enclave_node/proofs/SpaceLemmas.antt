-- Own pages that are gone through one by one, with their frames.
use Rattle.std.proofs.Common.{◌≡◌, ◌≤◌, ◌+◌, ◌-◌, ℕ, zero, suc, Bool, true, false, ◌&&◌, List, [], ◌∷◌, ◌++◌, length, Option, None, Some, refl, sym, ap, ◌∙◌, append_assoc, arith}
use Rattle.std.specs.Prelude.{if◌then◌else◌}
use Rattle.std.specs.Option.{option_map_or}
use Rattle.std.specs.List.{All}
use Rattle.std.proofs.lemmas.List.Elements.{All-nil, All-cons}
use Rattle.xm_num.specs.declared.Frame.{Frame}
use Rattle.xm_num.specs.declared.Page.{Page}
use Rattle.xm_num.specs.Rows.{at}
use Rattle.page_table.specs.Spaces.{own_frame}
use Rattle.enclave_rules.specs.Exports.{region_frames, frame_at}
use Rattle.enclave_rules.specs.Segments.{are_own_pages, is_own_page}

left_true : (a b : Bool) → (a && b) ≡ true → a ≡ true
left_true true b is = refl
left_true false b is = cc

right_true : (a b : Bool) → (a && b) ≡ true → b ≡ true
right_true true b is = is
right_true false b is = cc

-- what is found of a page by its frame
pub record IsFound (pages : List (ℕ × Page)) (page : ℕ) (f : Frame) : Type 0 where
  pub own : is_own_page pages page ≡ true
  pub frame : frame_at pages page ≡ f

found_is : (pages : List (ℕ × Page)) (page : ℕ) (f : Frame) → Some f ≡ own_frame (at pages page) → IsFound pages page f
found_is pages page f is = by (at pages page) refl is
  where
    owns : (found : Page) (b : Bool) → at pages page ≡ Some found → found.own ≡ b → Some f ≡ (if b then Some found.frame else None) → IsFound pages page f
    owns found true here own is = record {
      own = ap (λ (x : Option Page). option_map_or (λ y. y.own) x false) here ∙ own;
      frame = ap (λ (x : Option Page). option_map_or (λ y. y.frame) x (record { 0 = 0 })) here ∙ (let same : found.frame ≡ f = cc in same);
    }
    owns found false here own is = cc

    by : (found : Option Page) → at pages page ≡ found → Some f ≡ own_frame found → IsFound pages page f
    by None here is = cc
    by (Some found) here is = owns found found.own here refl is

pub none_own : (pages : List (ℕ × Page)) (page left : ℕ) → 1 ≤ left → None ≡ own_frame (at pages page) → are_own_pages pages page left ≡ false
none_own pages page zero some is = absurd (omega (arith, some))
none_own pages page (suc left) some is = rw (by (at pages page) refl is) refl
  where
    owns : (found : Page) (b : Bool) → found.own ≡ b → None ≡ (if b then Some found.frame else None) → b ≡ false
    owns found true own is = cc
    owns found false own is = refl

    by : (found : Option Page) → at pages page ≡ found → None ≡ own_frame found → is_own_page pages page ≡ false
    by None here is = ap (λ (x : Option Page). option_map_or (λ y. y.own) x false) here
    by (Some found) here is = ap (λ (x : Option Page). option_map_or (λ y. y.own) x false) here ∙ owns found found.own refl is

-- one page more is an own one
pub own_step : (pages : List (ℕ × Page)) (page left : ℕ) (f : Frame) → 1 ≤ left → Some f ≡ own_frame (at pages page) → are_own_pages pages (page + 1) (left - 1) ≡ are_own_pages pages page left
own_step pages page zero f some is = absurd (omega (arith, some))
own_step pages page (suc left) f some is =
    let found = found_is pages page f is in
    let rest : suc left - 1 ≡ left = omega arith in
    let own = found.own in
    rw (rest, own) refl

pub frames_step : (pages : List (ℕ × Page)) (page left : ℕ) (f : Frame) (before : List Frame) → 1 ≤ left → Some f ≡ own_frame (at pages page)
    → (before ++ f ∷ []) ++ region_frames pages (page + 1) (left - 1) ≡ before ++ region_frames pages page left
frames_step pages page zero f before some is = absurd (omega (arith, some))
frames_step pages page (suc left) f before some is =
    let found = found_is pages page f is in
    let rest : suc left - 1 ≡ left = omega arith in
    rw rest (append_assoc before (f ∷ []) (region_frames pages (page + 1) left) ∙ ap (λ (x : Frame). before ++ x ∷ region_frames pages (page + 1) left) (sym found.frame))

-- the process has the frames of its own pages
pub region_owned : (owners : List (ℕ × ℕ)) (p : ℕ) (pages : List (ℕ × Page)) (page n : ℕ) → are_own_pages pages page n ≡ true
    → ((v : ℕ) (found : Page) → at pages v ≡ Some found → found.own ≡ true → at owners found.frame.0 ≡ Some p) → All (λ frame. at owners frame.0 ≡ Some p) (region_frames pages page n)
region_owned owners p pages page zero own each = All-nil (λ (frame : Frame). at owners frame.0 ≡ Some p)
region_owned owners p pages page (suc n) own each =
    All-cons (λ (frame : Frame). at owners frame.0 ≡ Some p) (frame_at pages page) (region_frames pages (page + 1) n) (by (at pages page) refl (left_true (is_own_page pages page) (are_own_pages pages (page + 1) n) own))
    (region_owned owners p pages (page + 1) n (right_true (is_own_page pages page) (are_own_pages pages (page + 1) n) own) each)
  where
    by : (found : Option Page) → at pages page ≡ found → is_own_page pages page ≡ true → at owners (frame_at pages page).0 ≡ Some p
    by None here is = let clash : false ≡ true = ap (λ (x : Option Page). option_map_or (λ y. y.own) x false) (sym here) ∙ is in absurd (cc)
    by (Some found) here is =
        let mine : found.own ≡ true = ap (λ (x : Option Page). option_map_or (λ y. y.own) x false) (sym here) ∙ is in
        ap (λ (x : Option Page). at owners (option_map_or (λ y. y.frame) x (record { 0 = 0 })).0) here ∙ each page found here mine

pub region_length : (pages : List (ℕ × Page)) (page n : ℕ) → length (region_frames pages page n) ≡ n
region_length pages page zero = refl
region_length pages page (suc n) = ap suc (region_length pages (page + 1) n)
