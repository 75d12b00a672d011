-- What is allocated or lent is the lowest that there is, and nobody maps it.
use Rattle.std.proofs.Common.{◌≡◌, ◌+◌, ◌*◌, ◌/◌, ◌<◌, ◌≤◌, ℕ, zero, suc, List, [], ◌∷◌, length, take, Bool, true, false, cond, not, ◌||◌, Option, None, Some, refl, sym, ap, ◌∙◌, arith}
use Rattle.std.specs.List.{All, range_with_len, list_any}
use Rattle.std.specs.Map.{lookup}
use Rattle.std.specs.Ordering.{nat_cmp}
use Rattle.std.specs.BTreeMap.{is_at}
use Rattle.std.specs.Option.{option_map, option_map_or}
use Rattle.std.proofs.lemmas.Bool.{eqb-true, eq-eqb, and_parts}
use Rattle.std.proofs.lemmas.List.{take_min, length-take}
use Rattle.std.proofs.lemmas.List.Elements.{All-nil, All-cons, All-weaker, All-map, filter_passes}
use Rattle.xm_num.specs.declared.Frame.{Frame}
use Rattle.xm_num.specs.declared.Block.{Block}
use Rattle.xm_num.specs.declared.Page.{Page}
use Rattle.xm_num.specs.Rows.{at}
use Rattle.frame_pool.specs.declared.BlockState.{BlockState}
use Rattle.frame_pool.specs.declared.BlockState.TheVariants as states
use Rattle.frame_pool.specs.Blocks.{is_free}
use Rattle.attach_map.specs.Attaching.{ProcessState}
use Rattle.enclave_rules.specs.Pages.{block_frames}
use Rattle.global_model.specs.Apt.{AreOwned}
use Rattle.global_model.specs.Facts.{Facts, fact_of}
use Rattle.global_model.specs.Space.{Mapping, IsMapped, IsUnmapped, mapping_of, frame_of, owns, is_export_frame, is_own_frame, is_lent_to, is_unused, unused_frames, blocks_left}

-- ---- rows

or_right : (a b : Bool) → b ≡ true → (a || b) ≡ true
or_right true b e = refl
or_right false b e = e

-- where what stands at a number passes a test, some row does
found_any : {V : Type 0} (test : ℕ → Bool) (q : V → Bool) (rows : List (ℕ × V)) (v : V) → lookup test rows ≡ Some v → q v ≡ true
    → list_any (λ row. q row.1) rows ≡ true
found_any test q [] v is passes = cc
found_any {V = V} test q (row ∷ rows) v is passes = by (test row.0) (found_any test q rows v) is
  where
    by : (b : Bool) → (lookup test rows ≡ Some v → q v ≡ true → list_any (λ row. q row.1) rows ≡ true) → cond b (Some row.1) (lookup test rows) ≡ Some v
        → (q row.1 || list_any (λ row. q row.1) rows) ≡ true
    by true later found = let same : row.1 ≡ v = cc in let here : q row.1 ≡ true = ap q same ∙ passes in rw here refl
    by false later found = or_right (q row.1) (list_any (λ row. q row.1) rows) (later found passes)

pub at_any : {V : Type 0} (q : V → Bool) (rows : List (ℕ × V)) (k : ℕ) (v : V) → at rows k ≡ Some v → q v ≡ true → list_any (λ row. q row.1) rows ≡ true
unfolding at
at_any q rows k v is passes = found_any (is_at (nat_cmp k)) q rows v is passes

-- ---- what a frame is mapped by

-- an own page with the frame, at an enclave to which the frame's block is lent
record IsBehind (G : Facts) (e : ℕ) (frame : Frame) : Type 0 where
  lent : is_lent_to e (G.block (frame.0 / 64)) ≡ true
  own : is_own_frame G e frame.0 ≡ true

pub one_owner : (a b : ℕ) (state : BlockState) → is_lent_to a state ≡ true → is_lent_to b state ≡ true → a ≡ b
one_owner a b states.Free one two = cc
one_owner a b (states.Lent o) one two = sym (eqb-true o.0 a one) ∙ eqb-true o.0 b two
one_owner a b (states.Held o) one two = cc

clash : (x y : Bool) → x ≡ true → not (x || y) ≡ true → ⊥
clash true y a c = cc
clash false y a c = cc

pub not_lent : (e : ℕ) (state : BlockState) → is_free state ≡ true → is_lent_to e state ≡ true → ⊥
not_lent e states.Free free lent = cc
not_lent e (states.Lent o) free lent = cc
not_lent e (states.Held o) free lent = cc

module _ (G : Facts) (owned : AreOwned G) where
  behind : (e p v : ℕ) (frame : Frame) (found : Option ProcessState) → at (G.memory e).processes p ≡ found → (mapped : Option Page)
      → at (option_map_or (λ (process : ProcessState). process.pages) found []) v ≡ mapped → (m : Mapping) → option_map (mapping_of (fact_of (G.enclave e))) mapped ≡ Some m → m.frame ≡ frame → IsBehind G e frame
  unfolding at
  behind e p v frame None process mapped page m is same = by mapped page is
    where
      by : (mapped : Option Page) → at {V = Page} [] v ≡ mapped → option_map (mapping_of (fact_of (G.enclave e))) mapped ≡ Some m → IsBehind G e frame
      by None page is = cc
      by (Some row) page is = cc
  behind e p v frame (Some found) process None page m is same = cc
  behind e p v frame (Some found) process (Some row) page m is same =
      let fact = fact_of (G.enclave e) in
      let mapping : mapping_of fact row ≡ m = cc in
      let frame_is : frame_of fact row ≡ frame = ap (λ (x : Mapping). x.frame) mapping ∙ same in
      let number : (frame_of fact row).0 ≡ frame.0 = ap (λ (f : Frame). f.0) frame_is in
      let mine : owns fact frame.0 row ≡ true = rw (owned.own e p v found row process page, eq-eqb (frame_of fact row).0 frame.0 number) refl in
      let of_process : list_any (λ (r : ℕ × Page). owns fact frame.0 r.1) found.pages ≡ true = at_any (owns fact frame.0) found.pages v row page mine in
      record {
        lent = ap (λ n. is_lent_to e (G.block (n / 64))) (sym number) ∙ owned.lent e p v found row process page;
        own = at_any (λ (process : ProcessState). list_any (λ (r : ℕ × Page). owns fact frame.0 r.1) process.pages) (G.memory e).processes p found process of_process;
      }

  mapped_behind : (frame : Frame) (mapped : IsMapped G frame) → IsBehind G mapped.enclave frame
  mapped_behind frame mapped = behind mapped.enclave mapped.pid mapped.page frame (at (G.memory mapped.enclave).processes mapped.pid) refl _ refl _ mapped.mapped refl

  -- ---- unused frames are unmapped, and so are those of free blocks

  pub unused_unmapped : (e : ℕ) (frame : Frame) → is_unused G e frame.0 ≡ true → IsUnmapped G frame
  unused_unmapped e frame unused mapped =
      let b = mapped_behind frame mapped in
      let tests = and_parts _ _ unused in
      let first = and_parts _ _ tests.0 in
      let same : mapped.enclave ≡ e = one_owner mapped.enclave e (G.block (frame.0 / 64)) b.lent first.1 in
      clash _ (is_export_frame G e frame.0) (ap (λ k. is_own_frame G k frame.0) (sym same) ∙ b.own) tests.1

  free_unmapped : (frame : Frame) → is_free (G.block (frame.0 / 64)) ≡ true → IsUnmapped G frame
  free_unmapped frame free mapped = not_lent mapped.enclave (G.block (frame.0 / 64)) free (mapped_behind frame mapped).lent

-- ---- frames and blocks that are drawn

pub take-length-take : {X : Type 0} (n : ℕ) (xs : List X) → take n xs ≡ take (length (take n xs)) xs
take-length-take n xs = sym (take_min n xs) ∙ ap (λ k. take k xs) (sym (length-take n xs))

pub All-range : (a n : ℕ) → All (λ k. (a ≤ k) × (k < a + n)) (range_with_len a n)
All-range a zero = All-nil _
All-range a (suc n) =
    let first : (a ≤ a) × (a < a + suc n) = (omega arith, omega arith) in
    All-cons (λ k. (a ≤ k) × (k < a + suc n)) a (range_with_len (a + 1) n) first (All-weaker (λ k. (a + 1 ≤ k) × (k < (a + 1) + n)) (λ k. (a ≤ k) × (k < a + suc n)) (λ k h. (omega (arith, h.0), omega (arith, h.1))) (range_with_len (a + 1) n) (All-range (a + 1) n))

-- the unused frames are unused
pub frames_unused : (G : Facts) (e : ℕ) → All (λ f. is_unused G e f.0 ≡ true) (unused_frames G e)
frames_unused G e = All-map (λ (f : Frame). is_unused G e f.0 ≡ true) (λ n. record { 0 = n }) _ (filter_passes (is_unused G e) (range_with_len 0 (64 * G.pool)))

pub blocks_free : (G : Facts) → All (λ b. is_free (G.block b.0) ≡ true) (blocks_left G)
blocks_free G = All-map (λ (b : Block). is_free (G.block b.0) ≡ true) (λ n. record { 0 = n }) _ (filter_passes (λ b. is_free (G.block b)) (range_with_len 0 G.pool))

-- the frames of a block lie in it
frame_of_block : (b n : ℕ) → 64 * b ≤ n → n < 64 * b + 64 → n / 64 ≡ b
frame_of_block b n low high = omega arith

pub frames_of_block : (b : Block) → All (λ f. f.0 / 64 ≡ b.0) (block_frames b)
frames_of_block b = All-map (λ (f : Frame). f.0 / 64 ≡ b.0) (λ n. record { 0 = n }) (range_with_len (64 * b.0) 64) (All-weaker (λ n. (64 * b.0 ≤ n) × (n < 64 * b.0 + 64)) (λ n. n / 64 ≡ b.0) (λ n h. frame_of_block b.0 n h.0 h.1) (range_with_len (64 * b.0) 64) (All-range (64 * b.0) 64))

pub block_unmapped : (G : Facts) → AreOwned G → (b : Block) → is_free (G.block b.0) ≡ true → All (IsUnmapped G) (block_frames b)
block_unmapped G owned b free = All-weaker (λ f. f.0 / 64 ≡ b.0) (IsUnmapped G) (λ f at. free_unmapped G owned f (ap (λ n. is_free (G.block n)) at ∙ free)) (block_frames b) (frames_of_block b)
